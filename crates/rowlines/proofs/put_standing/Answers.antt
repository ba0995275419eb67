-- `rowlines::put_standing` meets its contract: each piece put behind the one before. Assumes nothing.
use Rattle.text.proofs.PageLaws.{grown_then}
use Rattle.rowlines.specs.Rows.{standing}
use Rattle.rowlines.proofs.put_standing.Goals as goal

pub returns : goal.returns
unfolding standing
returns g c = let two = rw (c.put_named.ensures, grown_then) at c.put_named-2.ensures in
    let three = rw (two, grown_then) at c.put_named-3.ensures in
    let time = rw (c.put.ensures, grown_then) at c.add_nanoseconds.ensures in
    rw (three, grown_then) at time
