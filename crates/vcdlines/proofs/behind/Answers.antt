-- `vcdlines::behind` meets its contract. Assumes nothing.
use Rattle.vcdlines.specs.Dump.{cycle_behind}
use Rattle.vcdlines.proofs.behind.Goals as goal

pub returns : goal.returns
unfolding cycle_behind
returns c = c.saturating_add.ensures
