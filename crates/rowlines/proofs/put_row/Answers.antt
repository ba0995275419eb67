-- `rowlines::put_row` meets its contract: the page has room for the row, which is put at once. Assumes nothing.
use native.Mathlib.Omega.{arith}
use Rattle.text.proofs.PageLaws.{grown_then, page_put}
use Rattle.rowlines.specs.Rows.{row_line}
use Rattle.rowlines.proofs.RowLaws.{row-most}
use Rattle.rowlines.proofs.put_row.Goals as goal

pub returns : goal.returns
unfolding row_line
returns c = let a = c.args in
    let two = rw (c.put_standing.ensures, c.new-page.ensures, grown_then) at c.put_control.ensures in
    let three = rw (two, grown_then) at c.put_transfer.ensures in
    let four = rw (three, grown_then) at c.put_virtual.ensures in
    let five = rw (four, grown_then) at c.put_named.ensures in
    let row = rw (five, grown_then) at c.put.ensures in
    page_put _ _ (row_line a.index a.cycle a.gap a.lines a.spare) a.buffer.now a.place row (omega (arith, row-most a.index a.cycle a.gap a.lines a.spare)) c.put_into.ensures
