-- `judge::after::next_judge` meets its contract. Assumes nothing.
use mathlib.Core.Path.{◌∙◌}
use Rattle.judge.proofs.Steps.{judge-reset, judge_moved}
use Rattle.judge.proofs.after.next_judge.Goals as goal

pub returns-then-lines : goal.returns-then-lines
returns-then-lines c = let a = c.args in
    c.after_reset.ensures ∙ judge-reset a.judge a.lines a.d c.if-lines.true

pub moved-requires : goal.moved-requires
moved-requires c = (c.requires.0, c.requires.1 c.if-lines.false)

pub returns : goal.returns
returns c = let a = c.args in
    c.moved.ensures ∙ judge_moved a.judge a.lines a.d c.if-lines.false
