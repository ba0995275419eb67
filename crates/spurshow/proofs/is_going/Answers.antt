-- `spurshow::is_going` meets its contract. Assumes nothing.
use mathlib.Core.Path.{refl}
use Rattle.spurshow.specs.Shown.{goes}
use Rattle.spurshow.proofs.is_going.Goals as goal

pub returns : goal.returns
unfolding goes
returns c = refl
