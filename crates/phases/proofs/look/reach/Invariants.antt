-- `phases::look::reach` meets its contract: none of the first i records matters. Assumes nothing.
use Rattle.phases.proofs.Looks.{DullTo}
use Rattle.phases.proofs.look.reach.Given as goal

abbrev pub invariant-loop-i : goal.invariant-loop-i
invariant-loop-i l = DullTo l.mark l.waits l.part l.i
