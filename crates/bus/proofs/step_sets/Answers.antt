-- `bus::step_sets` meets its contract. Assumes nothing.
use mathlib.Core.Path.{refl, ◌∙◌}
use Rattle.bus.proofs.Laws.{step_sixteen}
use Rattle.bus.proofs.step_sets.Goals as goal

pub returns : goal.returns
returns c = let a = c.args in
    c.step_table.ensures ∙ step_sixteen a.b a.reset a.e 16 a.sets refl
