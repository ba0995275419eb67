-- `cache::is_valid` meets its contract. Assumes nothing.
use mathlib.Core.Path.{refl}
use Rattle.cache.specs.States.{valid}
use Rattle.cache.proofs.is_valid.Goals as goal

pub returns : goal.returns
unfolding valid
returns c = refl
