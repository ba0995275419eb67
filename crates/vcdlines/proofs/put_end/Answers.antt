-- `vcdlines::put_end` meets its contract: the page has room for the line, which is put at once. Assumes nothing.
use native.Mathlib.Omega.{arith}
use Rattle.text.proofs.PageLaws.{page_put}
use Rattle.vcdlines.specs.Dump.{cycle_behind, end_text}
use Rattle.vcdlines.proofs.ChangeLaws.{time-most}
use Rattle.vcdlines.proofs.put_end.Goals as goal

pub returns : goal.returns
returns c = let a = c.args in
    let line = rw (c.new-page.ensures, c.behind.ensures) at c.put_time.ensures in
    page_put _ _ (end_text a.cycle) a.buffer.now a.place line (omega (arith, time-most (cycle_behind a.cycle))) c.put_into.ensures
