-- `printed::put_breach` meets its contract: the page has room for the line, and is put at once. Assumes nothing.
use native.Mathlib.Omega.{arith}
use Rattle.text.proofs.PageLaws.{page_made}
use Rattle.printed.proofs.LineLaws.{breach-most}
use Rattle.printed.proofs.put_breach.Goals as goal

pub returns : goal.returns
returns c = page_made _ _ c.new-breach.ensures c.add_breach.ensures c.args.buffer.now c.args.place (omega (arith, breach-most c.args.broken)) c.put_into.ensures
