-- `witness::broken_figures` meets its contract. Assumes nothing.
use mathlib.Core.Path.{◌≡◌}
use lib.ListN.{length}
use Rattle.witness.proofs.Calls.{broken_as}
use borrow.Author.Rules.{rules}
use Rattle.witness.proofs.broken_figures.Goals as goal

pub returns : goal.returns
returns c = let a = c.args in
    let long : length a.bytes ≡ 16 = search rules in
    broken_as a.broken a.judge a.bytes _ _ _ _ long c.lines_in-lines.ensures c.spare_in-spare.ensures c.difference-d.ensures c.figures_of.ensures
