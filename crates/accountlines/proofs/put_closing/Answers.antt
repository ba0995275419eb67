-- `accountlines::put_closing` meets its contract: the page has room for all lines, and is put at once. Assumes nothing.
use native.Mathlib.Omega.{arith}
use Rattle.text.proofs.PageLaws.{grown_then, page_put}
use Rattle.accountlines.specs.Lines.{closing_lines}
use Rattle.accountlines.proofs.LineLaws.{closing_most}
use Rattle.accountlines.proofs.put_closing.Goals as goal

pub returns : goal.returns
returns c = let a = c.args in
    let all = rw (c.add_ending.ensures, c.new-page.ensures, grown_then) at c.put_slots.ensures.adds in
    page_put _ _ (closing_lines a.closing) a.buffer.now _ all (omega (arith, closing_most a.closing c.put_slots.ensures.entries_len)) (rw c.front.ensures at c.put_into.ensures)
