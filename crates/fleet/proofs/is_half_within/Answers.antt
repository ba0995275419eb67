-- `fleet::is_half_within` meets its contract. Assumes nothing.
use mathlib.Core.Path.{sym}
use Rattle.fleet.proofs.Walks.{half_by}
use Rattle.fleet.proofs.is_half_within.Goals as goal

pub returns : goal.returns
returns c = sym (half_by c.args.figures.now c.args.x _ _ c.count_within.ensures.0 c.is_half.ensures)
