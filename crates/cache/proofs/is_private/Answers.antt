-- `cache::is_private` meets its contract. Assumes nothing.
use mathlib.Core.Path.{refl}
use Rattle.cache.specs.States.{private}
use Rattle.cache.proofs.is_private.Goals as goal

pub returns : goal.returns
unfolding private
returns c = refl
