-- `fleet::is_half` meets its contract. Assumes nothing.
use Rattle.fleet.proofs.Walks.{half_test}
use Rattle.fleet.proofs.is_half.Goals as goal

pub returns : goal.returns
returns c = half_test _ _ c.requires
