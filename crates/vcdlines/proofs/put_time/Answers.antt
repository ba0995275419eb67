-- `vcdlines::put_time` meets its contract: the pieces behind one another. Assumes nothing.
use Rattle.text.proofs.PageLaws.{grown_then}
use Rattle.vcdlines.specs.Dump.{time_line}
use Rattle.vcdlines.proofs.put_time.Goals as goal

pub returns : goal.returns
unfolding time_line
returns g c = rw (c.put_named.ensures, grown_then) at c.put.ensures
