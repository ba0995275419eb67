-- `phases::bounds::all_named` meets its contract. Assumes nothing.
use borrow.Author.Rules.{rules}
use Rattle.phases.proofs.Looks.{named_is}
use Rattle.phases.proofs.bounds.all_named.Goals as goal

pub returns : goal.returns
returns c = named_is c.args.marks c.each_named.result (search rules) c.each_named.ensures
