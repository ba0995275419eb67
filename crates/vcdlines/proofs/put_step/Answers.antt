-- `vcdlines::put_step` meets its contract: the cycle, and the changes behind it. Assumes nothing.
use Rattle.text.proofs.PageLaws.{grown_then}
use Rattle.vcdlines.specs.Dump.{step_text}
use Rattle.vcdlines.proofs.ChangeLaws.{step_from}
use Rattle.vcdlines.proofs.put_step.Goals as goal

pub returns : goal.returns
unfolding step_text
returns g c = let a = c.args in
    rw (step_from a.first a.last a.lines c.levels_of-before.ensures c.levels_of-after.ensures) (rw (c.put_time.ensures, grown_then) at c.put_changes.ensures)
