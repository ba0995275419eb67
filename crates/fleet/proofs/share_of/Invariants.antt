-- `fleet::share_of` meets its contract: after each turn the share holds the numbers so far. Assumes nothing.
use Rattle.fleet.proofs.Dividing.{Sharing}
use Rattle.fleet.proofs.share_of.Given as goal

abbrev pub invariant-loop-x : goal.invariant-loop-x
invariant-loop-x l = Sharing l.figures l.x-index l.share
