-- `cache::is_named` meets its contract. Assumes nothing.
use mathlib.Core.Path.{refl}
use Rattle.cache.specs.Calls.{named}
use Rattle.cache.proofs.is_named.Goals as goal

pub returns : goal.returns
unfolding named
returns c = refl
