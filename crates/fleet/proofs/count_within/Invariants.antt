-- `fleet::count_within` meets its contract: those counted and those that are left that count are all that count. Assumes nothing.
use Prim.Native.Nat.{◌+◌, ◌≤◌}
use mathlib.Core.Path.{◌≡◌}
use lib.ListN.{length, drop}
use Rattle.fleet.specs.Figures.{within}
use Rattle.fleet.proofs.count_within.Given as goal

abbrev pub invariant-loop-x : goal.invariant-loop-x
invariant-loop-x l = (l.x-index ≤ length l.figures) × (l.count ≤ l.x-index) × (l.count + within l.most (drop l.x-index l.figures) ≡ within l.most l.figures)
