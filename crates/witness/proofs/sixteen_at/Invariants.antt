-- `witness::sixteen_at` meets its contract: after i turns the first i bytes are there. Assumes nothing.
use Prim.Native.Nat.{ℕ, ◌+◌, ◌*◌, ◌≤◌, ◌<◌}
use mathlib.Core.List.{◌++◌}
use mathlib.Core.Path.{◌≡◌}
use lib.ListN.{length, get_or}
use Rattle.feeding.specs.State.{torn_of}
use Rattle.witness.proofs.sixteen_at.Given as goal

abbrev pub invariant-loop-i : goal.invariant-loop-i
invariant-loop-i l = (l.i ≤ 16) × ((length l.byte-items ≡ 16) × ((l.before.held < 16) × ((k : ℕ) → k < l.i → get_or l.byte-items k 0 ≡ get_or (torn_of l.before ++ l.piece) (l.place * 16 + k) 0)))
