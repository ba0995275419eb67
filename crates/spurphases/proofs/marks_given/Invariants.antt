-- `spurphases::marks_given` meets its contract: after each turn the words so far are taken in. Assumes nothing.
use Rattle.spurphases.proofs.Wording.{Naming}
use Rattle.spurphases.proofs.marks_given.Given as goal

abbrev pub invariant-loop-next : goal.invariant-loop-next
invariant-loop-next g l = Naming l.words l.next l.named
