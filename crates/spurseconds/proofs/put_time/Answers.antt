-- `spurseconds::put_time` meets its contract: the newline behind the time. Assumes nothing.
use Rattle.text.proofs.PageLaws.{grown_then}
use Rattle.spurseconds.specs.Lines.{time_line}
use Rattle.spurseconds.proofs.put_time.Goals as goal

pub returns : goal.returns
unfolding time_line
returns g c = rw (c.add_seconds.ensures, grown_then) at c.put.ensures
