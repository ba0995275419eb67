-- `spurphases::slash_in` meets its contract: no slash stands before the place. Assumes nothing.
use Prim.Native.Nat.{◌+◌, ◌≤◌}
use mathlib.Core.Path.{◌≡◌}
use lib.ListN.{length, drop}
use Rattle.spurphases.specs.Words.{slash_in}
use Rattle.spurphases.proofs.slash_in.Given as goal

abbrev pub invariant-loop-at : goal.invariant-loop-at
invariant-loop-at l = (l.at ≤ length l.word) × (slash_in l.word ≡ l.at + slash_in (drop l.at l.word))
