-- `cache::is_sound` meets its contract. Assumes nothing.
use Rattle.cache.specs.Block.{sound}
use Rattle.cache.proofs.is_sound.Goals as goal

pub returns : goal.returns
unfolding sound
returns c = simp (c.is_legal.ensures, c.is_owner.ensures, c.is_valid.ensures)
