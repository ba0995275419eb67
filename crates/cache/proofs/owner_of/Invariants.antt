-- `cache::owner_of` meets its contract. Assumes nothing.
use Prim.Native.Nat.{◌≤◌}
use mathlib.Core.Path.{◌≡◌}
use Rattle.cache.specs.Block.{owner_below}
use Rattle.cache.specs.Tables.{entries}
use Rattle.cache.proofs.owner_of.Given as goal

abbrev pub invariant-loop-slot : goal.invariant-loop-slot
invariant-loop-slot l = (l.slot ≤ 16) × (l.owner ≡ owner_below (entries l.states l.base) l.slot)
