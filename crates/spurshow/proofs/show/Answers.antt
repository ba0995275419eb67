-- `spurshow::show` is safe and ends: the buffers keep their lengths, and the walk stays in its bounds. Assumes nothing.
use mathlib.Core.Path.{ap, ◌∙◌}
use Rattle.walk.specs.Walks.{walk_bounds}
use Rattle.spurshow.proofs.Showing.{fresh_bounds}
use borrow.Author.Rules.{rules}
use Rattle.spurshow.proofs.show.Goals as goal

pub pieces-init : goal.pieces-init
pieces-init c = (search rules, (search rules, ap walk_bounds c.fresh-walk.ensures ∙ fresh_bounds))
