-- `spurseconds::put_line` meets its contract. Assumes nothing.
use Rattle.text.proofs.PageLaws.{grown_nil}
use Rattle.spurseconds.proofs.LineLaws.{line_is, no_line}
use Rattle.spurseconds.proofs.put_line.Goals as goal

pub returns-in-Some : goal.returns-in-Some
returns-in-Some g c = rw (← line_is c.args.word.now c.in-Some.ensures) c.put_time.ensures

pub returns-in-None : goal.returns-in-None
returns-in-None g c = rw (← no_line c.args.word.now c.in-None.ensures, grown_nil)
