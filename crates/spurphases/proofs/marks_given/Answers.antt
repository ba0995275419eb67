-- `spurphases::marks_given` meets its contract: after each turn the words so far are taken in. Assumes nothing.
use mathlib.Core.Path.{refl}
use Rattle.spurphases.specs.Words.{named_by}
use Rattle.spurphases.proofs.Wording.{naming_start, naming_on}
use Rattle.spurphases.proofs.marks_given.Goals as goal

pub loop-next-init : goal.loop-next-init
unfolding named_by
loop-next-init g c = naming_start _ _ refl

pub loop-next-preserved : goal.loop-next-preserved
loop-next-preserved g c = naming_on _ c.loop-next.next _ _ _ c.loop-next.invariant c.loop-next-test.true c.name-named.ensures
