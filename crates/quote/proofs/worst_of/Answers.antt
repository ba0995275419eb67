-- The two numbers of demand 3, from their parts. Assumes nothing.
use mathlib.Core.Path.{◌∙◌}
use Rattle.quote.proofs.Laws.{worst_by}
use Rattle.quote.proofs.worst_of.Goals as goal

pub returns : goal.returns
returns c = worst_by _ _ _ _ c.turns-turns.ensures.0 (c.from-between.ensures ∙ c.min.ensures)
