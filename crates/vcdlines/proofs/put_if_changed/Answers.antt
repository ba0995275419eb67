-- `vcdlines::put_if_changed` meets its contract, changed or not. Assumes nothing.
use Rattle.text.proofs.PageLaws.{grown_nil}
use Rattle.vcdlines.proofs.ChangeLaws.{changed, unchanged}
use Rattle.vcdlines.proofs.put_if_changed.Goals as goal

pub returns-then-first-before : goal.returns-then-first-before
returns-then-first-before g c = let a = c.args in
    rw (changed a.first a.code a.before a.after c.if-first-before.true) c.put.ensures

pub returns-else-first-before : goal.returns-else-first-before
returns-else-first-before g c = let a = c.args in
    rw (unchanged a.first a.code a.before a.after c.if-first-before.false, grown_nil)
