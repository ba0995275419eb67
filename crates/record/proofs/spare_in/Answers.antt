-- `record::spare_in` meets its contract: sixteen bytes are there, or none is read. Assumes nothing.
use Prim.Native.Nat.{◌≤◌}
use mathlib.Core.Path.{sym, ◌∙◌}
use native.Mathlib.Omega.{arith}
use lib.ListN.{length}
use Rattle.basics.proofs.Bools.{cond-true, cond-false}
use Rattle.record.specs.Packing.{spare_of}
use Rattle.record.proofs.Bytes.{spare_is}
use Rattle.record.proofs.Packing.{room}
use Rattle.record.proofs.spare_in.Goals.{Else-is_too_few}
use Rattle.record.proofs.spare_in.Goals as goal

-- sixteen bytes are there
enough : (c : Else-is_too_few) → 16 ≤ length c.args.part.now
enough c = room _ 0 (sym c.is_too_few.ensures ∙ c.if-is_too_few.false)

pub returns-then-is_too_few : goal.returns-then-is_too_few
unfolding spare_of
returns-then-is_too_few c = sym (cond-true _ _ (sym c.is_too_few.ensures ∙ c.if-is_too_few.true))

pub bounds-part-14 : goal.bounds-part-14
bounds-part-14 c = omega (arith, enough (goal.at.bounds-part-14 c).Else-is_too_few)

pub bounds-part-15 : goal.bounds-part-15
bounds-part-15 c = omega (arith, enough (goal.at.bounds-part-15 c).Else-is_too_few)

pub returns : goal.returns
unfolding spare_of
returns c = c.spare_of.ensures
    ∙ sym (spare_is c.args.part.now (enough (goal.at.returns c).Else-is_too_few) (λ k. (c.shared_slice_known-2-1.given k).fits))
    ∙ sym (cond-false _ _ (sym c.is_too_few.ensures ∙ c.if-is_too_few.false))
