-- `witness::finish` meets its contract. Assumes nothing.
use Rattle.witness.proofs.Calls.{finish_as}
use Rattle.witness.proofs.finish.Goals as goal

pub returns : goal.returns
returns c = finish_as c.args.witness _ _ c.finish-ending.ensures.0 c.figures_by-figures.ensures
