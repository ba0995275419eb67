-- `fleet::share_of` meets its contract: after each turn the share holds the numbers so far. Assumes nothing.
use native.Mathlib.Omega.{arith}
use Rattle.fleet.proofs.Dividing.{sharing_start, sharing_room, sharing_on, sharing_end}
use Rattle.fleet.proofs.share_of.Goals as goal

pub loop-x-init : goal.loop-x-init
loop-x-init c = sharing_start c.args.figures.now

pub with_figure-share-requires : goal.with_figure-share-requires
with_figure-share-requires c = sharing_room c.args.figures.now c.loop-x.x-index c.loop-x.share c.loop-x.invariant (omega arith) (c.type_inv.figures c.loop-x.x-index).fits

pub loop-x-preserved : goal.loop-x-preserved
loop-x-preserved c = sharing_on c.args.figures.now c.loop-x.x-index c.loop-x.share c.loop-x.invariant (omega arith) (c.type_inv.figures c.loop-x.x-index).fits c.with_figure-share.result c.with_figure-share.ensures

pub returns : goal.returns
returns c = sharing_end c.args.figures.now c.loop-x.x-index c.loop-x.share c.loop-x.invariant (omega arith)
