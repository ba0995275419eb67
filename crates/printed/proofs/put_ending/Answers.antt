-- `printed::put_ending` meets its contract: the page has room for both lines, and is put at once. Assumes nothing.
use native.Mathlib.Omega.{arith}
use Rattle.text.specs.Places.{front}
use Rattle.text.proofs.PageLaws.{page_made}
use Rattle.printed.proofs.LineLaws.{lines-most}
use Rattle.printed.proofs.put_ending.Goals as goal

pub returns : goal.returns
returns c = page_made _ _ c.new-page.ensures c.add_ending.ensures c.args.buffer.now front (omega (arith, lines-most c.args.ending)) (rw c.front.ensures at c.put_into.ensures)
