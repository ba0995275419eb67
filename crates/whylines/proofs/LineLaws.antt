-- Laws of the lines of a breach's figures: how long they are at most, where every number has twenty digits. Assumes nothing.
use Prim.Native.Nat.{◌≤◌}
use mathlib.Core.List.{[]}
use mathlib.Core.Path.{◌≡◌, refl}
use native.Mathlib.Omega.{arith}
use lib.ListN.{length, length-append}
use Rattle.rules.specs.declared.Broken.{Broken}
use Rattle.rules.specs.declared.Verdict.{Verdict}
use Rattle.rules.specs.declared.Verdict.TheVariants.{Conforming, Breach, OutOfBounds, TooMany, Torn}
use Rattle.printed.proofs.LineLaws.{most, lines-most}
use Rattle.why.specs.declared.Figures.{Figures}
use Rattle.witness.specs.declared.Reason.{Reason}
use Rattle.whylines.specs.Lines.{why_line, third_line, reason_lines}

-- nothing but a breach has a third line
pub no_third : (v : Verdict) (f : Figures) → ((b : Broken) → v ≡ Breach b → ⊥) → third_line v f ≡ []
no_third Conforming f n = refl
no_third (Breach b) f n = absurd (n b refl)
no_third OutOfBounds f n = refl
no_third TooMany f n = refl
no_third Torn f n = refl

why-most : (f : Figures) → length (why_line f) ≤ 56
unfolding why_line
why-most f = simp length-append (omega (arith, most f.found, most f.bound))

third-most : (v : Verdict) (f : Figures) → length (third_line v f) ≤ 56
third-most Conforming f = omega arith
third-most (Breach b) f = why-most f
third-most OutOfBounds f = omega arith
third-most TooMany f = omega arith
third-most Torn f = omega arith

pub reason_most : (r : Reason) → length (reason_lines r) ≤ 308
reason_most r = simp length-append (omega (arith, simp length-append at (lines-most r.ending), third-most r.ending.verdict r.figures))
