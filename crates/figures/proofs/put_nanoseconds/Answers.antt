-- `figures::put_nanoseconds` meets its contract: the page has room for the digits and the zeros, which are put at once. Assumes nothing.
use native.Mathlib.Omega.{arith}
use Rattle.text.proofs.PageLaws.{page_made}
use Rattle.figures.proofs.TimeLaws.{nanoseconds_length}
use Rattle.figures.proofs.put_nanoseconds.Goals as goal

pub returns : goal.returns
returns c = let a = c.args in
    page_made _ _ c.new-page.ensures c.add_nanoseconds.ensures a.buffer.now a.place (omega (arith, nanoseconds_length a.cycles)) c.put_into.ensures
