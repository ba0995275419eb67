-- `figures::put_seconds` meets its contract: the page has room for the time, which is put at once. Assumes nothing.
use native.Mathlib.Omega.{arith}
use Rattle.text.proofs.PageLaws.{page_made}
use Rattle.figures.proofs.TimeLaws.{seconds_length}
use Rattle.figures.proofs.put_seconds.Goals as goal

pub returns : goal.returns
returns c = let a = c.args in
    page_made _ _ c.new-page.ensures c.add_seconds.ensures a.buffer.now a.place (omega (arith, seconds_length a.cycles (c.ranges.cycles.fits))) c.put_into.ensures
