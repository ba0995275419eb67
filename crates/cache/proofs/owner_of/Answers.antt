-- `cache::owner_of` meets its contract. Assumes nothing.
use Prim.Native.Nat.{ℕ, ◌+◌, ◌-◌, ◌<◌}
use mathlib.Core.Path.{◌≡◌, ap, ◌∙◌}
use native.Mathlib.Nat.{le_antisymm}
use native.Mathlib.Omega.{arith}
use Rattle.std.proofs.lemmas.List.{get_or-take, get_or-drop, length-take}
use Rattle.cache.specs.States.{owns}
use Rattle.cache.specs.Tables.{entries}
use Rattle.cache.specs.Block.{owner_below}
use Rattle.cache.proofs.Loops.{owner-start, owner-more}
use Rattle.cache.proofs.owner_of.Goals as goal

pub loop-slot-init : goal.loop-slot-init
loop-slot-init c = (omega arith, owner-start _)

pub loop-slot-preserved : goal.loop-slot-preserved
loop-slot-preserved c = let a = c.args in
    let k = c.loop-slot.slot in
    let i : k < 16 = let t = rw length-take at c.loop-slot-test.true in omega arith in
    let inside : k < a.base + 16 - a.base = omega arith in
    let o : c.is_owner.result ≡ owns (entries a.states.now a.base k) = rw (get_or-take {A = ℕ} _ _ k 0 inside, get_or-drop) at c.is_owner.ensures in
    (omega arith, owner-more _ _ _ _ _ c.loop-slot.invariant.1 o c.pick-owner.ensures)

pub returns : goal.returns
returns c = c.loop-slot.invariant.1 ∙ ap (owner_below _) (le_antisymm c.loop-slot.invariant.0 (omega arith))
