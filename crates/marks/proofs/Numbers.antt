-- Document 01's and 02's number and values say all that the answer has. Assumes nothing.
use mathlib.Core.Bool.{cond}
use mathlib.Core.Path.{◌≡◌, refl}
use lib.Dec.{eqb}
use Rattle.basics.specs.Answers.{Answer}
use Rattle.rules.proofs.Answers.{broken_from}
use Rattle.marks.specs.declared.Why.{Why}
use Rattle.marks.specs.declared.Why.TheVariants.{Complete, AtBreach, Torn, TooMany, Absent, OutOfBounds}
use Rattle.marks.specs.Report.{Reason, why_answer}

-- the reason, read back from its number and values
abbrev why_from : Answer Reason → Why
why_from a =
    cond (eqb a.number 1) Torn
    (cond (eqb a.number 5) OutOfBounds
    (cond (eqb a.number 8) TooMany
    (cond (eqb a.number 10) (Absent a.value.absent)
    (cond a.value.finding.breach (AtBreach (broken_from a.value.finding)) Complete))))

pub why_back : (w : Why) → why_from (why_answer w) ≡ w
why_back Complete = refl
why_back (AtBreach b) = refl
why_back Torn = refl
why_back TooMany = refl
why_back (Absent p) = refl
why_back OutOfBounds = refl
