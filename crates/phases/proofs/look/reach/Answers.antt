-- `phases::look::reach` meets its contract: none of the first i records matters. Assumes nothing.
use native.Mathlib.Omega.{arith}
use Rattle.phases.proofs.Looks.{dull-more, reaches_record, reaches_all}
use Rattle.phases.proofs.look.reach.Goals as goal

pub loop-i-init : goal.loop-i-init
loop-i-init c = λ k lt. absurd (omega arith)

pub returns-then-may_change : goal.returns-then-may_change
returns-then-may_change c = let a = c.args in reaches_record a.mark a.waits a.part.now c.loop-i.i c.loop-i.invariant (omega arith)

pub loop-i-preserved : goal.loop-i-preserved
loop-i-preserved c = let a = c.args in
    dull-more a.mark a.waits c.may_change.result a.part.now c.loop-i.i c.lines_in-lines.result c.loop-i.invariant (omega arith) c.lines_in-lines.ensures c.may_change.ensures c.if-may_change.false

pub returns : goal.returns
returns c = let a = c.args in reaches_all a.mark a.waits a.part.now c.loop-i.i c.loop-i.invariant (omega arith)
