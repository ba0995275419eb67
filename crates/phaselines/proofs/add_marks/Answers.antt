-- `phaselines::add_marks` meets its contract: after k turns the first k marks stand behind what was there. Assumes nothing.
use Prim.Native.Nat.{ℕ, suc, ◌<◌, min}
use mathlib.Core.Path.{◌≡◌, sym, ap, ◌∙◌}
use mathlib.Core.Logic.{inl, inr}
use mathlib.Core.List.{List, ◌∷◌}
use native.Mathlib.Decide.{ℕ_discrete}
use Rattle.std.proofs.Common.{Option, rules}
use native.Mathlib.Omega.{arith}
use native.Mathlib.Numerals.{add-one}
use lib.ListN.{length, drop, get_or, length-drop}
use lib.Seq.{drop-cons}
use Rattle.text.specs.Pages.{grown}
use Rattle.text.proofs.PageLaws.{grown_nil, grown_then}
use Rattle.phaselines.specs.Lines.{mark_line, mark_lines}
use Rattle.phaselines.proofs.add_marks.Goals as goal

-- what stands first of the elements from k on
record Next (xs ys : List ℕ) (k x : ℕ) : Type 0 where
  there : k < length xs
  is : x ≡ get_or xs k 0
  rest : ys ≡ drop (suc k) xs

next_of : (xs ys : List ℕ) (k x : ℕ) → x ∷ ys ≡ drop k xs → Next xs ys k x
next_of xs ys k x e =
    let size : suc (length ys) ≡ length (drop k xs) = ap length e in
    let l : k < length xs = let z = rw length-drop at size in omega arith in
    let f : x ∷ ys ≡ get_or xs k 0 ∷ drop (suc k) xs = e ∙ drop-cons xs k 0 l in
    record { there = l; is = ap (λ (z : List ℕ). get_or z 0 0) f; rest = ap (λ (z : List ℕ). drop 1 z) f }

pub loop-k-init : goal.loop-k-init
loop-k-init g c = let none : c.into_iter-k-iterator.result.iter.count ≡ 0 = search rules in
    record { put = rw none (sym (grown_nil g.row.N c.args.page.now)); told = search rules; within = search rules; spans = search rules; diffs = search rules }

pub loop-k-preserved : goal.loop-k-preserved
loop-k-preserved g c = let r = c.args.report in
    let i = c.loop-k.invariant in
    let k = c.loop-k.k-iterator.iter.count in
    let s = c.in-Some.ensures.steps in
    let span = next_of r.spans _ k _ (sym s.0.0.0 ∙ i.spans) in
    let diff = next_of r.diffs _ k _ (sym s.0.0.1 ∙ i.diffs) in
    let line : List ℕ = mark_line k (get_or r.spans k 0) (get_or r.diffs k 0) in
    record {
      told = omega (arith, s.0.2, s.1, i.told);
      within = omega (arith, s.0.2, span.there);
      spans = rw (s.0.2, add-one) span.rest;
      diffs = rw (s.0.2, add-one) diff.rest;
      put = rw (s.0.2, add-one) (rw (s.0.1, span.is, diff.is) at c.add_mark.ensures
          ∙ ap (λ (p : Option (List ℕ)). grown g.row.N p line) i.put
          ∙ grown_then g.row.N c.args.page.now (mark_lines r k) line);
    }

pub returns : goal.returns
returns g c = let r = c.args.report in
    let i = c.loop-k.invariant in
    let k = c.loop-k.k-iterator.iter.count in
    let all : k ≡ min r.found 32 = elim (ℕ_discrete c.loop-k.k-iterator.n 0) [
      | yes z ↦ omega (arith, i.told, i.within)
      | no d ↦ elim (c.in-None.ensures.steps (omega arith)).0 [
        | inl e ↦ let z = rw (i.spans, length-drop) at e.1.0 in omega (arith, i.told, i.within)
        | inr e ↦ let z = rw (i.diffs, length-drop) at e.1.0 in omega (arith, i.told, i.within)
      ]
    ] in
    rw (← all) i.put
