-- `fleetlines::put_rest` meets its contract. Assumes nothing.
use Rattle.text.proofs.PageLaws.{grown_nil}
use Rattle.fleetlines.proofs.LineLaws.{rest-none, rest_some}
use Rattle.fleetlines.proofs.put_rest.Goals as goal

pub returns-then-not-none : goal.returns-then-not-none
returns-then-not-none g c = rw (rest_some c.args.s c.if-not-none.true) c.put_figures.ensures

pub returns-else-not-none : goal.returns-else-not-none
returns-else-not-none g c = rw (rest-none c.args.s c.if-not-none.false, grown_nil)
