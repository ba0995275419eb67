-- Document 01, "Checked examples": "The first line holds the five totals and whether a transfer is open (0 or 1). The second may be
-- `breach rule J record I` (I from 0, totals of the records before it) or, with no breach and a torn end, `refused 1`; at a whole record past 2^30,
-- `refused 8`; both with the totals so far." The lines as bytes, each with its newline.
use Rattle.std.specs.Prelude.{ℕ, Bool, cond, List, [], ◌++◌, eqb}
use Prim.Native.String.{String}
use Rattle.basics.specs.Lines.{one}
use Rattle.basics.specs.Numbers.{lawful_limit}
use Rattle.rules.specs.declared.Broken.{Broken}
use Rattle.rules.specs.declared.Tally.{Tally}
use Rattle.rules.specs.declared.Verdict.{Verdict}
use Rattle.rules.specs.declared.Verdict.TheVariants.{Conforming, Breach, OutOfBounds, TooMany, Torn}
use Rattle.feeding.specs.declared.Ending.{Ending}
use Rattle.feeding.specs.Input.{ending_of}
use Rattle.text.specs.Decimal.{decimal_of}
use Rattle.text.specs.Words.{word}

-- a name and the number behind it, in decimal
abbrev pub named : String → ℕ → List ℕ
named name n = word name ++ decimal_of n

-- "the five totals and whether a transfer is open (0 or 1)", as in `records 4 span 5 starts 1 acks 1 aborted 0 open 0`
unfoldable pub totals_line : Tally → Bool → List ℕ
totals_line t opened =
    named "records " t.records
    ++ named " span " t.span
    ++ named " starts " t.starts
    ++ named " acks " t.acks
    ++ named " aborted " t.aborted
    ++ named " open " (one opened)
    ++ word "\n"

-- a refusal, as in `refused 1`
unfoldable pub refused_line : ℕ → List ℕ
refused_line number = named "refused " number ++ word "\n"

-- document 02, wish 2: "8a, ..; 8b, ..; 8c, ..": the letter of a kind, and none where a rule is of one kind
unfoldable pub kind_letter : ℕ → List ℕ
kind_letter kind = cond (eqb kind 1) (word "a") (cond (eqb kind 2) (word "b") (cond (eqb kind 3) (word "c") []))

-- "`breach rule J record I` (I from 0 ..)", and by document 02, wish 2, "The program's breach line gains `span S` at its end"
unfoldable pub breach_line : Broken → List ℕ
breach_line b = named "breach rule " b.rule ++ kind_letter b.kind ++ named " record " b.place ++ named " span " b.span ++ word "\n"

-- the second line; its refusals are 5, 8 and 1, as `rules::Verdict` has them
abbrev pub verdict_line : Verdict → List ℕ
verdict_line Conforming = word "conforming\n"
verdict_line (Breach b) = breach_line b
verdict_line OutOfBounds = refused_line 5
verdict_line TooMany = refused_line 8
verdict_line Torn = refused_line 1

-- both lines
abbrev pub lines_of : Ending → List ℕ
lines_of e = totals_line e.tally e.opened ++ verdict_line e.verdict

-- WHAT THE JUDGING PROGRAM PRINTS for a hold limit and all the bytes of its input: a hold limit that is not 1 to 16 is refused by 3, a line alone
abbrev pub page_of : ℕ → List ℕ → List ℕ
page_of limit bytes = cond (lawful_limit limit) (lines_of (ending_of limit bytes)) (refused_line 3)
