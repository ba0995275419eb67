-- `phases::bounds::rises` meets its contract. Assumes nothing.
use borrow.Author.Rules.{rules}
use Rattle.std.proofs.lemmas.List.Sorted.{non_decreasing_from_is_sorted}
use Rattle.phases.proofs.Looks.{rises_is}
use Rattle.phases.proofs.bounds.rises.Goals as goal

pub returns : goal.returns
returns c = rises_is c.args.spans c.args.found c.is_sorted.result (search rules) (non_decreasing_from_is_sorted _ _ c.is_sorted.ensures.cases)
