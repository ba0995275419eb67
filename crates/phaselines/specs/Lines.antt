-- Document 02, wish 1: "The report gives the span at each mark and, from the second on, the difference to the one before. .. a breach after that point
-- isn't reported, and the records read are given." A line for each mark that was reached, one for the records, and one for what ended the report; as
-- bytes, each with its newline. What the judging program prints too is said once, in printed/specs/Lines.
use Rattle.std.specs.Prelude.{ℕ, zero, suc, min, cond, List, [], ◌++◌, eqb, get_or}
use Rattle.text.specs.Words.{word}
use Rattle.printed.specs.Lines.{named, refused_line, breach_line}
use Rattle.marks.specs.declared.Marks.{Marks}
use Rattle.marks.specs.declared.Report.{Report}
use Rattle.marks.specs.declared.Why.{Why}
use Rattle.marks.specs.declared.Why.TheVariants.{Complete, AtBreach, Torn, TooMany, Absent, OutOfBounds}
use Rattle.marks.specs.Pieces.{report_in}
use Rattle.marks.specs.State.{begin_refusal}

-- "from the second on, the difference to the one before"
abbrev pub diff_part : ℕ → ℕ → List ℕ
diff_part zero diff = []
diff_part (suc k) diff = named " diff " diff

-- mark k, counted from 0, as in `mark 0 span 120` and `mark 1 span 150 diff 30`
unfoldable pub mark_line : ℕ → ℕ → ℕ → List ℕ
mark_line k span diff = named "mark " k ++ named " span " span ++ diff_part k diff ++ word "\n"

-- the first n marks, in their order
abbrev pub mark_lines : Report → ℕ → List ℕ
mark_lines r zero = []
mark_lines r (suc n) = mark_lines r n ++ mark_line n (get_or r.spans n 0) (get_or r.diffs n 0)

-- "the records read are given", as in `records 4096`
unfoldable pub records_line : ℕ → List ℕ
records_line n = named "records " n ++ word "\n"

-- "10, a mark absent at a conforming end, with its place", as in `refused 10 place 1`
unfoldable pub absent_line : ℕ → List ℕ
absent_line place = named "refused " 10 ++ named " place " place ++ word "\n"

-- why the report ends; the breach's line and the other refusals are the judge's
abbrev pub why_line : Why → List ℕ
why_line Complete = word "complete\n"
why_line (AtBreach b) = breach_line b
why_line Torn = refused_line 1
why_line TooMany = refused_line 8
why_line (Absent place) = absent_line place
why_line OutOfBounds = refused_line 5

-- all lines of a report; it has room for 32 marks, so that more count as 32
abbrev pub report_lines : Report → List ℕ
report_lines r = mark_lines r (min r.found 32) ++ records_line r.records ++ why_line r.why

-- WHAT THE PROGRAM OF BOOT PHASES PRINTS for a hold limit, the marks that it is given and all the bytes of its input: marks or a limit that are refused
-- give that refusal's line alone
abbrev pub phases_page : ℕ → Marks → List ℕ → List ℕ
phases_page limit marks bytes =
    cond (eqb (begin_refusal limit marks) 0) (report_lines (report_in limit marks bytes)) (refused_line (begin_refusal limit marks))
