-- `spurshow::requested` meets its contract. Assumes nothing.
use mathlib.Core.Path.{sym, ◌∙◌}
use Rattle.basics.proofs.Bools.{cond-true, cond-false}
use Rattle.spurshow.specs.Shown.{request_of}
use Rattle.spurshow.proofs.requested.Goals as goal

pub returns-then-rows : goal.returns-then-rows
unfolding request_of
returns-then-rows c = c.ranged.ensures ∙ sym (cond-true _ _ c.if-rows.true)

pub returns-then-vcd : goal.returns-then-vcd
unfolding request_of
returns-then-vcd c = c.ranged-then-vcd.ensures ∙ sym (cond-false _ _ c.if-rows.false ∙ cond-true _ _ c.if-vcd.true)

pub returns : goal.returns
unfolding request_of
returns c = sym (cond-false _ _ c.if-rows.false ∙ cond-false _ _ c.if-vcd.false)
