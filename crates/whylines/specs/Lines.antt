-- What an input comes to and why, as lines: those of the judging program, said once in printed/specs/Lines, and behind a breach's a third; as bytes, each
-- with its newline.
use Rattle.std.specs.Prelude.{ℕ, cond, List, [], ◌++◌}
use Rattle.basics.specs.Numbers.{lawful_limit}
use Rattle.rules.specs.declared.Verdict.{Verdict}
use Rattle.rules.specs.declared.Verdict.TheVariants.{Conforming, Breach, OutOfBounds, TooMany, Torn}
use Rattle.text.specs.Words.{word}
use Rattle.printed.specs.Lines.{named, refused_line, lines_of}
use Rattle.why.specs.declared.Figures.{Figures}
use Rattle.witness.specs.declared.Reason.{Reason}
use Rattle.witness.specs.Input.{reason_of}

-- what was found and the bound that it had to keep, as in `found 2 bound 3`
unfoldable pub why_line : Figures → List ℕ
why_line f = named "found " f.found ++ named " bound " f.bound ++ word "\n"

-- a breach has it, and nothing else
abbrev pub third_line : Verdict → Figures → List ℕ
third_line Conforming f = []
third_line (Breach b) f = why_line f
third_line OutOfBounds f = []
third_line TooMany f = []
third_line Torn f = []

-- all lines of what an input comes to and why: the totals, the verdict, the figures
abbrev pub reason_lines : Reason → List ℕ
reason_lines r = lines_of r.ending ++ third_line r.ending.verdict r.figures

-- WHAT THE PROGRAM PRINTS for a hold limit and all the bytes of its input: a hold limit that is not 1 to 16 is refused by 3, a line alone
abbrev pub why_page : ℕ → List ℕ → List ℕ
why_page limit bytes = cond (lawful_limit limit) (reason_lines (reason_of limit bytes)) (refused_line 3)
