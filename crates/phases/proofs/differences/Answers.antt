-- `phases::differences` meets its contract: after i turns the first i differences are there. Assumes nothing.
use mathlib.Core.Path.{refl, ◌∙◌}
use native.Mathlib.Omega.{arith}
use Rattle.phases.proofs.Looks.{rises_before, diffs-more, diffs-end}
use Rattle.phases.proofs.differences.Goals as goal

pub loop-i-init : goal.loop-i-init
loop-i-init c = (omega arith, refl)

pub overflow_sub-diffs-in-loop-i : goal.overflow_sub-diffs-in-loop-i
overflow_sub-diffs-in-loop-i c = rises_before c.args.spans c.args.found c.loop-i.i c.requires.1 (omega arith) (omega arith)

pub loop-i-preserved : goal.loop-i-preserved
loop-i-preserved c = (omega arith, diffs-more c.args.spans c.loop-i.diffs c.loop-i.i (omega arith) c.loop-i.invariant.1)

pub returns : goal.returns
returns c = c.loop-i.invariant.1 ∙ diffs-end c.args.spans c.loop-i.i c.args.found (omega arith) c.loop-i.invariant.0 (omega arith)
