-- Laws of a report's lines. Assumes nothing.
use Prim.Native.Nat.{ℕ, zero, suc, ◌+◌, ◌*◌, ◌≤◌, min}
use mathlib.Core.Path.{◌≡◌, refl}
use native.Mathlib.Omega.{arith}
use lib.ListN.{length, length-append}
use Rattle.printed.specs.Lines.{named}
use Rattle.printed.proofs.LineLaws.{most, refusal-most, breach-most}
use Rattle.marks.specs.declared.Report.{Report}
use Rattle.marks.specs.declared.Why.{Why}
use Rattle.marks.specs.declared.Why.TheVariants.{Complete, AtBreach, Torn, TooMany, Absent, OutOfBounds}
use Rattle.phaselines.specs.Lines.{diff_part, mark_line, mark_lines, records_line, absent_line, why_line, report_lines}

-- from the second mark on a difference is told
pub diff_later : (k diff : ℕ) → (k ≡ 0 → ⊥) → diff_part k diff ≡ named " diff " diff
diff_later zero diff other = absurd (other refl)
diff_later (suc k) diff other = refl

-- ---- how long the lines are at most, where every number has twenty digits
diff_most : (k diff : ℕ) → length (diff_part k diff) ≤ 26
diff_most zero diff = omega (arith, most diff)
diff_most (suc k) diff = omega (arith, most diff)

mark-most : (k span diff : ℕ) → length (mark_line k span diff) ≤ 78
unfolding mark_line
mark-most k span diff = simp length-append (omega (arith, most k, most span, diff_most k diff))

marks-most : (r : Report) (n : ℕ) → length (mark_lines r n) ≤ n * 78
marks-most r zero = omega arith
marks-most r (suc n) = rw length-append (one_more (marks-most r n) (mark-most _ _ _))
  where
    one_more : {a b : ℕ} → a ≤ n * 78 → b ≤ 78 → a + b ≤ suc n * 78
    one_more h l = omega arith

records-most : (n : ℕ) → length (records_line n) ≤ 29
unfolding records_line
records-most n = simp length-append (omega (arith, most n))

absent-most : (place : ℕ) → length (absent_line place) ≤ 61
unfolding absent_line
absent-most place = simp length-append (omega (arith, most 10, most place))

why-most : (w : Why) → length (why_line w) ≤ 88
why-most Complete = omega arith
why-most (AtBreach b) = breach-most b
why-most Torn = omega (arith, refusal-most 1)
why-most TooMany = omega (arith, refusal-most 8)
why-most (Absent place) = omega (arith, absent-most place)
why-most OutOfBounds = omega (arith, refusal-most 5)

-- 32 marks, the records and why
pub report_most : (r : Report) → length (report_lines r) ≤ 2613
report_most r =
    simp length-append (omega (arith, marks-most r (min r.found 32), records-most r.records, why-most r.why))
