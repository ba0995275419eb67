-- `rowlines::put_control` meets its contract: each piece put behind the one before. Assumes nothing.
use Rattle.text.proofs.PageLaws.{grown_then}
use Rattle.rowlines.specs.Rows.{control_lines}
use Rattle.rowlines.proofs.put_control.Goals as goal

pub returns : goal.returns
unfolding control_lines
returns g c = let two = rw (c.put_line.ensures, grown_then) at c.put_line-2.ensures in
    let three = rw (two, grown_then) at c.put_named.ensures in
    let four = rw (three, grown_then) at c.put_line-3.ensures in
    rw (four, grown_then) at c.put_line-4.ensures
