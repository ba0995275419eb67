-- `cache::is_legal` meets its contract. Assumes nothing.
use mathlib.Core.Path.{refl}
use Rattle.cache.specs.States.{legal}
use Rattle.cache.proofs.is_legal.Goals as goal

pub returns : goal.returns
unfolding legal
returns c = refl
