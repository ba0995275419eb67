-- `phases::go_through` meets its contract: what is left of the piece brings the state to where it has to come. Assumes nothing.
use Prim.Native.Nat.{◌-◌}
use lib.ListN.{length}
use Rattle.phases.proofs.Parts.{Through}
use Rattle.phases.proofs.go_through.Given as goal

abbrev pub invariant-loop-at : goal.invariant-loop-at
invariant-loop-at l = Through l.initial.state l.piece l.from l.state l.at

abbrev pub decreases-loop-at : goal.decreases-loop-at
decreases-loop-at l = length l.piece - l.at
