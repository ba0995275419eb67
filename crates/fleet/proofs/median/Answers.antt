-- `fleet::median` meets its contract. Assumes nothing.
use mathlib.Core.Path.{◌∙◌, ap}
use Prim.Native.Nat.{min}
use borrow.Author.Rules.{rules}
use borrow.Author.Tests.{tests}
use Rattle.std.specs.List.{reduce}
use Rattle.std.proofs.lemmas.Iterator.{YieldsList-from_slice}
use Rattle.std.proofs.lemmas.Iterator.Consumers.{min_from_yields_List, YieldsList-from_copied, YieldsList-from_filter}
use Rattle.fleet.specs.Figures.{half_within, halving}
use Rattle.fleet.proofs.Walks.{least_by, filtered}
use Rattle.fleet.proofs.median.Goals as goal

pub returns : goal.returns
returns c =
    let xs = c.args.figures.now in
    c.unwrap_or.ensures
    ∙ least_by _ (halving xs xs)
    (min_from_yields_List _ _ c.min.ensures.ran (YieldsList-from_filter _ (half_within xs) (YieldsList-from_copied (YieldsList-from_slice xs (cc))) c.filter.ensures.closure (λ x b q k. search (rules, tests)))
    ∙ ap (reduce min) (filtered xs xs))
