-- `fleetlines::put_summary` meets its contract: the page has room for the line, which is put at once. Assumes nothing.
use native.Mathlib.Omega.{arith}
use Rattle.text.proofs.PageLaws.{grown_then, page_put}
use Rattle.fleetlines.specs.Lines.{summary_line}
use Rattle.fleetlines.proofs.LineLaws.{line-most}
use Rattle.fleetlines.proofs.put_summary.Goals as goal

pub returns : goal.returns
unfolding summary_line
returns c = let a = c.args in
    let two = rw (c.put_named.ensures, c.new-page.ensures, grown_then) at c.put_rest.ensures in
    let line = rw (two, grown_then) at c.put.ensures in
    page_put _ _ (summary_line a.s) a.buffer.now a.place line (omega (arith, line-most a.s)) c.put_into.ensures
