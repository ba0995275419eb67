-- `phases::bounds::in_bounds` meets its contract: no more are found than there is room for. Assumes nothing.
use Rattle.phases.proofs.Calls.{few-found}
use Rattle.phases.proofs.bounds.in_bounds.Goals as goal

pub rises-requires : goal.rises-requires
rises-requires c = few-found c.args.phases c.in_bounds.result c.lawful.result c.lawful.ensures c.if-fits.true
