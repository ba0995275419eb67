-- `text::spell` meets its contract: the digits that are left to spell, with those behind the place, are the number's.
-- Assumes nothing.
use Prim.Native.Nat.{ℕ, suc, ◌-◌, ◌≤◌}
use mathlib.Core.Path.{◌≡◌, ap, ◌∙◌}
use mathlib.Core.List.{List, [], ◌++◌, append-nil}
use native.Mathlib.Omega.{arith}
use lib.ListN.{drop, length-set, drop_of_length-le}
use Rattle.text.specs.Decimal.{spelled, decimal_of}
use Rattle.text.proofs.DecimalLaws.{spell_more, spell_last, spell_room}
use Rattle.text.proofs.spell.Goals.{After-digit_of}
use Rattle.text.proofs.spell.Goals as goal

-- there is a place left where the rest has two digits or more
room_at : (c : After-digit_of) → 1 ≤ c.loop-rest.at
room_at c = spell_room _ _ c.loop-rest.invariant.1 c.loop-rest-test.true

pub loop-rest-init : goal.loop-rest-init
unfolding decimal_of
loop-rest-init c = let a = c.args in
    let e : drop 20 a.digits.now ≡ [] = drop_of_length-le a.digits.now {i = 20} (omega arith) in
    (omega arith, omega arith, c.requires, ap (λ (d : List ℕ). spelled 20 a.n ++ d) e ∙ append-nil (spelled 20 a.n))

pub overflow_sub-at : goal.overflow_sub-at
overflow_sub-at c = omega (arith, room_at c)

pub loop-rest-smaller : goal.loop-rest-smaller
loop-rest-smaller c = omega (arith, room_at c)

pub loop-rest-preserved : goal.loop-rest-preserved
loop-rest-preserved c = let r = room_at c in
    let s : suc (c.loop-rest.at - 1) ≡ c.loop-rest.at = omega arith in (
      omega arith,
      rw s (omega arith),
      simp length-set c.loop-rest.invariant.2,
      spell_more c.loop-rest.digits c.loop-rest.at c.loop-rest.rest (omega arith) c.digit_of.result c.digit_of.ensures r c.loop-rest-test.true ∙ c.loop-rest.invariant.3,
    )

pub shape_of-digits : goal.shape_of-digits
shape_of-digits c = simp length-set (omega (arith, c.loop-rest.invariant.2))

pub returns : goal.returns
returns c = (
  c.loop-rest.invariant.0,
  rw c.digit_of-2.ensures (spell_last c.loop-rest.digits c.loop-rest.at c.loop-rest.rest (omega arith) (omega arith) ∙ c.loop-rest.invariant.3),
)
