-- `figures::spell` meets its contract: the digits that are left to spell, with those that stand from the place on, are the number's. Assumes nothing.
use Prim.Native.Nat.{ℕ, suc, ◌-◌, ◌<◌}
use mathlib.Core.Path.{◌≡◌, ap, subst, ◌∙◌}
use mathlib.Core.List.{List, [], ◌++◌, append-nil}
use native.Mathlib.Omega.{arith}
use lib.ListN.{drop, length-set, drop_of_length-le}
use Rattle.io.specs.Digits.{last_digits}
use Rattle.figures.proofs.DigitLaws.{spell_turn, digit_below}
use Rattle.figures.proofs.spell.Goals as goal

pub loop-at-init : goal.loop-at-init
loop-at-init c = let a = c.args in
    let d = last_digits a.base (64 - a.first) a.n in
    let e : drop 64 a.glyphs.now ≡ [] = drop_of_length-le a.glyphs.now {i = 64} (omega (arith, c.requires.0)) in
    (c.requires.3, c.requires.0, ap (λ (z : List ℕ). d ++ z) e ∙ append-nil d)

pub glyph_of-requires : goal.glyph_of-requires
glyph_of-requires c = digit_below _ _ c.requires.1 c.requires.2

pub loop-at-preserved : goal.loop-at-preserved
loop-at-preserved c = let a = c.args in
    let l = c.loop-at in
    let t : a.first < l.at = c.loop-at-test.true in
    let k : l.at - a.first ≡ suc (l.at - 1 - a.first) = omega arith in
    let j : l.at ≡ suc (l.at - 1) = omega arith in
    let left : last_digits a.base (suc (l.at - 1 - a.first)) l.rest ++ drop (suc (l.at - 1)) l.glyphs ≡ last_digits a.base (64 - a.first) a.n =
    subst (λ (z : ℕ). last_digits a.base (suc (l.at - 1 - a.first)) l.rest ++ drop z l.glyphs ≡ last_digits a.base (64 - a.first) a.n) j
    (subst (λ (z : ℕ). last_digits a.base z l.rest ++ drop l.at l.glyphs ≡ last_digits a.base (64 - a.first) a.n) k c.loop-at.invariant.2) in (
      omega arith,
      simp length-set c.loop-at.invariant.1,
      spell_turn l.glyphs a.base (l.at - 1 - a.first) (l.at - 1) l.rest c.glyph_of.result (omega (arith, c.loop-at.invariant.1)) c.glyph_of.ensures ∙ left,
    )

pub returns : goal.returns
returns c = let a = c.args in
    let e : c.loop-at.at ≡ a.first = omega (arith, c.loop-at-test.false, c.loop-at.invariant.0) in
    let z : a.first - a.first ≡ 0 = omega arith in
    rw z at (subst (λ (z : ℕ). last_digits a.base (z - a.first) c.loop-at.rest ++ drop z c.loop-at.glyphs ≡ last_digits a.base (64 - a.first) a.n) e c.loop-at.invariant.2)
