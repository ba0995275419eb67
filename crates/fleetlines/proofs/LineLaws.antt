-- Laws of the line of a fleet's figures. Assumes nothing.
use Prim.Native.Nat.{ℕ, ◌≤◌}
use mathlib.Core.List.{List, []}
use mathlib.Core.Path.{◌≡◌}
use native.Mathlib.Omega.{arith}
use lib.ListN.{length, length-append}
use lib.Dec.{eqb}
use borrow.Author.Tests.{eq-eqb, ne_eqb}
use Rattle.basics.proofs.Bools.{choice, cond-true, cond-false}
use Rattle.printed.proofs.LineLaws.{most}
use Rattle.fleet.specs.declared.Summary.{Summary}
use Rattle.fleetlines.specs.Lines.{figures_text, rest_text, summary_line}

module _ (s : Summary) where
  pub rest-none : s.count ≡ 0 → rest_text s ≡ []
  unfolding rest_text
  rest-none e = cond-true _ _ (eq-eqb s.count 0 e)

  pub rest_some : (s.count ≡ 0 → ⊥) → rest_text s ≡ figures_text s
  unfolding rest_text
  rest_some e = cond-false _ _ (ne_eqb s.count 0 e)

  -- how long the line is at most, where every number has twenty digits
  figures-most : length (figures_text s) ≤ 142
  unfolding figures_text
  figures-most = simp length-append (omega (arith, most s.least, most s.median, most s.greatest, most s.mean, most s.remainder))

  rest-most : length (rest_text s) ≤ 142
  unfolding rest_text
  rest-most = choice (λ (l : List ℕ). length l ≤ 142) (eqb s.count 0) (λ _. omega arith) (λ _. figures-most)

  pub line-most : length (summary_line s) ≤ 169
  unfolding summary_line
  line-most = simp length-append (omega (arith, most s.count, rest-most))
