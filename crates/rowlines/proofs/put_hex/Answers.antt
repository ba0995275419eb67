-- `rowlines::put_hex` meets its contract. Assumes nothing.
use Rattle.text.proofs.PageLaws.{grown_then}
use Rattle.rowlines.proofs.put_hex.Goals as goal

pub returns : goal.returns
returns g c = rw (c.put.ensures, grown_then) at c.add_digits.ensures
