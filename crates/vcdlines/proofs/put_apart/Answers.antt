-- `vcdlines::put_apart` meets its contract: one step behind the other. Assumes nothing.
use Rattle.text.proofs.PageLaws.{grown_then}
use Rattle.vcdlines.proofs.ChangeLaws.{to_none, from-none}
use Rattle.vcdlines.proofs.put_apart.Goals as goal

pub returns : goal.returns
returns g c = let a = c.args in
    let none = c.inactive-none.ensures in
    rw (to_none a.stood a.last c.behind.ensures none, from-none a.cycle a.lines none) (rw (c.put_step.ensures, grown_then) at c.put_step-2.ensures)
