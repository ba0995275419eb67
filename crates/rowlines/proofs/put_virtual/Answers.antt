-- `rowlines::put_virtual` meets its contract: each piece put behind the one before. Assumes nothing.
use Rattle.text.proofs.PageLaws.{grown_then}
use Rattle.rowlines.specs.Rows.{virtual_lines}
use Rattle.rowlines.proofs.put_virtual.Goals as goal

pub returns : goal.returns
unfolding virtual_lines
returns g c = let two = rw (c.put_line.ensures, grown_then) at c.put_line-2.ensures in
    let three = rw (two, grown_then) at c.put_line-3.ensures in
    let four = rw (three, grown_then) at c.put_line-4.ensures in
    rw (four, grown_then) at c.put_hex.ensures
