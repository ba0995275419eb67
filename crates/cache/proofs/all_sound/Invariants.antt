-- `cache::all_sound` meets its contract. Assumes nothing.
use Prim.Native.Nat.{◌-◌, ◌≤◌}
use mathlib.Core.Path.{◌≡◌}
use Rattle.cache.specs.Block.{all_sound}
use Rattle.cache.specs.Tables.{entries}
use Rattle.cache.proofs.all_sound.Given as goal

abbrev pub invariant-loop-k : goal.invariant-loop-k
invariant-loop-k l = (l.k ≤ 16) × (l.all ≡ all_sound (entries l.states l.base) (entries l.copies l.base) l.owner l.held l.value l.k)

abbrev pub decreases-loop-k : goal.decreases-loop-k
decreases-loop-k l = 16 - l.k
