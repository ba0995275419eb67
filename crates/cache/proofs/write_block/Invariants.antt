-- `cache::write_block` meets its contract. Assumes nothing.
use Prim.Native.Nat.{◌-◌}
use Rattle.cache.proofs.Loops.{Written}
use Rattle.cache.proofs.write_block.Given as goal

abbrev pub invariant-loop-each : goal.invariant-loop-each
invariant-loop-each l = Written l.initial.states l.initial.copies l.base l.slot l.value l.each l.states l.copies

abbrev pub decreases-loop-each : goal.decreases-loop-each
decreases-loop-each l = 16 - l.each
