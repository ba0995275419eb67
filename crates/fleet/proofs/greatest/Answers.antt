-- `fleet::greatest` meets its contract. Assumes nothing.
use mathlib.Core.Path.{◌∙◌}
use Rattle.std.proofs.lemmas.Iterator.{YieldsList-from_slice}
use Rattle.std.proofs.lemmas.Iterator.Consumers.{max_from_yields_List, YieldsList-from_copied}
use Rattle.fleet.proofs.Walks.{greatest_by}
use Rattle.fleet.proofs.greatest.Goals as goal

pub returns : goal.returns
returns c =
    c.unwrap_or.ensures ∙ greatest_by _ c.args.figures.now (max_from_yields_List _ _ c.max.ensures.ran (YieldsList-from_copied (YieldsList-from_slice c.args.figures.now (cc))))
