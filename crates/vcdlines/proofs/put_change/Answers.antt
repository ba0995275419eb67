-- `vcdlines::put_change` meets its contract: the page has room for the text, which is put at once. Assumes nothing.
use native.Mathlib.Omega.{arith}
use Rattle.text.proofs.PageLaws.{page_put}
use Rattle.vcdlines.specs.Dump.{change_text}
use Rattle.vcdlines.proofs.ChangeLaws.{change_most}
use Rattle.vcdlines.proofs.put_change.Goals as goal

pub returns : goal.returns
returns c = let a = c.args in
    let text = rw c.new-page.ensures at c.put_text.ensures in
    page_put _ _ (change_text a.first a.stood a.last a.gap a.cycle a.lines) a.buffer.now a.place text (omega (arith, change_most a.first a.stood a.last a.gap a.cycle a.lines)) c.put_into.ensures
