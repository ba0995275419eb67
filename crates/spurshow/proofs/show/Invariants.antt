-- `spurshow::show` is safe and ends: the buffers keep their lengths, and the walk stays in its bounds. Assumes nothing.
use mathlib.Core.Path.{◌≡◌}
use mathlib.Core.Bool.{true}
use lib.ListN.{length}
use Rattle.walk.specs.Walks.{walk_bounds}
use Rattle.spurshow.proofs.show.Given as goal

abbrev pub invariant-pieces : goal.invariant-pieces
invariant-pieces l = (length l.piece ≡ 1024) × ((length l.text ≡ 65536) × (walk_bounds l.walk ≡ true))
