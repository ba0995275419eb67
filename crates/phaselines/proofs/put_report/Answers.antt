-- `phaselines::put_report` meets its contract: the page has room for all lines, and is put at once. Assumes nothing.
use native.Mathlib.Omega.{arith}
use Rattle.text.specs.Places.{front}
use Rattle.text.proofs.PageLaws.{page_made}
use Rattle.phaselines.proofs.LineLaws.{report_most}
use Rattle.phaselines.proofs.put_report.Goals as goal

pub returns : goal.returns
returns c = page_made 4096 _ c.new-page.ensures c.add_report.ensures c.args.buffer.now front (omega (arith, report_most c.args.report)) (rw c.front.ensures at c.put_into.ensures)
