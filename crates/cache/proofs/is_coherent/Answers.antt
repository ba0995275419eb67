-- `cache::is_coherent` meets its contract. Assumes nothing.
use Rattle.cache.proofs.Laws.{coherent-found}
use Rattle.cache.proofs.is_coherent.Goals as goal

pub returns : goal.returns
returns c = coherent-found _ _ _ _ _ c.owner_of-owner.ensures c.supply-common.ensures c.is_guarded-held.ensures c.all_sound.ensures
