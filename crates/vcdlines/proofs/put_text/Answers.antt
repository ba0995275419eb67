-- `vcdlines::put_text` meets its contract, with cycles missing or without. Assumes nothing.
use Rattle.basics.proofs.Bools.{cond-true, cond-false}
use Rattle.vcdlines.specs.Dump.{missing, change_text}
use Rattle.vcdlines.proofs.put_text.Goals as goal

pub returns-then-first-gap : goal.returns-then-first-gap
unfolding change_text missing
returns-then-first-gap g c = rw (cond-true _ _ c.if-first-gap.true) c.put_apart.ensures

pub returns-else-first-gap : goal.returns-else-first-gap
unfolding change_text missing
returns-else-first-gap g c = rw (cond-false _ _ c.if-first-gap.false) c.put_step.ensures
