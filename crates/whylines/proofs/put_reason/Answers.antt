-- `whylines::put_reason` meets its contract: the page has room for all lines, and is put at once. Assumes nothing.
use native.Mathlib.Omega.{arith}
use Rattle.text.proofs.PageLaws.{grown_then, page_put}
use Rattle.whylines.specs.Lines.{reason_lines}
use Rattle.whylines.proofs.LineLaws.{reason_most}
use Rattle.whylines.proofs.put_reason.Goals as goal

pub returns : goal.returns
returns c = let a = c.args in
    let all = rw (c.add_ending.ensures, c.new-page.ensures, grown_then) at c.put_third.ensures in
    page_put _ _ (reason_lines a.reason) a.buffer.now _ all (omega (arith, reason_most a.reason)) (rw c.front.ensures at c.put_into.ensures)
