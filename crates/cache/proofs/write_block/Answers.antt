-- `cache::write_block` meets its contract. Assumes nothing.
use native.Mathlib.Omega.{arith}
use Rattle.cache.proofs.Loops.{written_none, written-more, written_all, written-states, written-copies}
use Rattle.cache.proofs.write_block.Goals as goal

pub loop-each-init : goal.loop-each-init
loop-each-init c = written_none _ _ _ _ _

pub bounds-states-at : goal.bounds-states-at
bounds-states-at c = omega (arith, written-states _ _ _ _ _ _ _ _ c.loop-each.invariant)

pub offset_bounds-copies-at : goal.offset_bounds-copies-at
offset_bounds-copies-at c = omega (arith, written-copies _ _ _ _ _ _ _ _ c.loop-each.invariant)

pub bounds-copies-at : goal.bounds-copies-at
bounds-copies-at c = omega (arith, written-copies _ _ _ _ _ _ _ _ c.loop-each.invariant)

pub bounds-states-at-in-loop-each : goal.bounds-states-at-in-loop-each
bounds-states-at-in-loop-each c = omega (arith, written-states _ _ _ _ _ _ _ _ c.loop-each.invariant)

pub offset_bounds-copies-at-in-loop-each : goal.offset_bounds-copies-at-in-loop-each
offset_bounds-copies-at-in-loop-each c = omega (arith, written-copies _ _ _ _ _ _ _ _ c.loop-each.invariant)

pub bounds-copies-at-in-loop-each : goal.bounds-copies-at-in-loop-each
bounds-copies-at-in-loop-each c = omega (arith, written-copies _ _ _ _ _ _ _ _ c.loop-each.invariant)

pub loop-each-preserved : goal.loop-each-preserved
loop-each-preserved c = written-more _ _ _ _ _ _ _ _ _ _ _ c.loop-each.invariant (omega arith) c.copy_left-left.ensures c.pick.ensures c.pick-in-loop-each.ensures

pub shape_of-states : goal.shape_of-states
shape_of-states c = written-states _ _ _ _ _ _ _ _ c.loop-each.invariant

pub shape_of-copies : goal.shape_of-copies
shape_of-copies c = written-copies _ _ _ _ _ _ _ _ c.loop-each.invariant

pub returns : goal.returns
returns c = let r = written_all _ _ _ _ _ _ _ _ c.loop-each.invariant (omega arith) in record { states = r.0; copies = r.1 }
