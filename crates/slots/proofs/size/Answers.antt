-- `slots::size` meets its contract: the machine's count of ones is the count of active lines.
-- Assumes nothing.
use mathlib.Core.Path.{sym}
use Rattle.basics.proofs.Count.{active_ones}
use Rattle.slots.proofs.size.Goals as goal

pub returns : goal.returns
returns c = sym (active_ones 16 c.args.set c.ranges.set.fits)
