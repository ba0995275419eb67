-- `contest::settle_from` meets its contract, by recursion on the line number, which falls.
-- Assumes nothing.
use Prim.Native.Nat.{◌-◌}
use mathlib.Core.Path.{ap, ◌∙◌}
use Rattle.contest.specs.Walk.{settle_from}
use Rattle.contest.proofs.WalkLaws.{walk_last, walk_step}
use Rattle.contest.proofs.+settle_from.Goals as goal

pub returns-then-line-eq0 : goal.returns-then-line-eq0
returns-then-line-eq0 t c = c.with_line-lines.ensures ∙ walk_last c.args.line c.args.set c.args.higher c.if-line-eq0.true

pub returns-else-line-eq0 : goal.returns-else-line-eq0
returns-else-line-eq0 t c =
    c.settle_from.ensures
    ∙ ap (settle_from (c.args.line - 1) c.args.set) c.with_line-lines.ensures
    ∙ walk_step c.args.line c.args.set c.args.higher c.if-line-eq0.false
