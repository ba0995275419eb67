-- `figures::put_digits` meets its contract: the page has room for the digits, which are put at once. Assumes nothing.
use Prim.Native.Nat.{min}
use native.Mathlib.Omega.{arith}
use Rattle.text.proofs.PageLaws.{page_made}
use Rattle.figures.specs.Times.{base_of}
use Rattle.figures.proofs.DigitLaws.{digits-length}
use Rattle.figures.proofs.put_digits.Goals as goal

pub returns : goal.returns
returns c = let a = c.args in
    page_made _ _ c.new-page.ensures c.add_digits.ensures a.buffer.now a.place (omega (arith, digits-length (base_of a.base) (min a.width 64) a.n)) c.put_into.ensures
