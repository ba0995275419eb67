-- `printed::put_refused` meets its contract: the page has room for the line, and is put at once. Assumes nothing.
use native.Mathlib.Omega.{arith}
use Rattle.text.proofs.PageLaws.{page_made}
use Rattle.printed.proofs.LineLaws.{refusal-most}
use Rattle.printed.proofs.put_refused.Goals as goal

pub returns : goal.returns
returns c = page_made _ _ c.new-refusal.ensures c.add_refused.ensures c.args.buffer.now c.args.place (omega (arith, refusal-most c.args.number)) c.put_into.ensures
