-- `fleet::least` meets its contract: the least of the one in hand and those that are left is the least of all. Assumes nothing.
use Prim.Native.Nat.{◌≤◌, min}
use mathlib.Core.Path.{◌≡◌}
use lib.ListN.{length, drop}
use mathlib.Core.List.{foldl}
use Rattle.fleet.specs.Figures.{least_of}
use Rattle.fleet.proofs.least.Given as goal

abbrev pub invariant-loop-next : goal.invariant-loop-next
invariant-loop-next l = (l.next ≤ length l.figures) × (foldl min l.low (drop l.next l.figures) ≡ least_of l.figures)
