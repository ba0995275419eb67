-- `accountlines::put_slot` meets its contract: each piece put behind the one before. Assumes nothing.
use Rattle.text.proofs.PageLaws.{grown_then}
use Rattle.accountlines.specs.Lines.{slot_line}
use Rattle.accountlines.proofs.put_slot.Goals as goal

pub returns : goal.returns
unfolding slot_line
returns g c = let two = rw (c.put_named.ensures, grown_then) at c.put_named-2.ensures in
    let three = rw (two, grown_then) at c.put_named-3.ensures in
    rw (three, grown_then) at c.put.ensures
