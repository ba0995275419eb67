-- `bus::step` meets its contract. Assumes nothing.
use mathlib.Core.Path.{◌∙◌}
use Rattle.bus.proofs.Laws.{step_gathered}
use Rattle.bus.proofs.step.Goals as goal

pub returns : goal.returns
returns c =
    let a = c.args in
    c.step_table.ensures ∙ step_gathered a.b a.reset a.e a.nodes.now _ c.gather.ensures
