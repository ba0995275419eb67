-- `cache::is_owner` meets its contract. Assumes nothing.
use Rattle.cache.specs.States.{owns}
use Rattle.cache.proofs.is_owner.Goals as goal

pub returns : goal.returns
unfolding owns
returns c = simp c.is_private.ensures
