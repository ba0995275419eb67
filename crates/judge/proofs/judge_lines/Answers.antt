-- `judge::judge_lines` meets its contract. Assumes nothing.
use mathlib.Core.Path.{◌∙◌, sym, ap}
use Rattle.rules.specs.declared.Rule.{Rule}
use Rattle.rules.proofs.Laws.{later-holds, twelfth}
use Rattle.judge.proofs.Steps.{step_breach, step_moves}
use Rattle.judge.proofs.judge_lines.Goals as goal

pub returns-then-rule-ne0 : goal.returns-then-rule-ne0
returns-then-rule-ne0 c = let a = c.args in
    c.broken_at.ensures
    ∙ step_breach a.judge a.tally (record { lines = a.lines; spare = a.spare }) _ _ c.difference-d.ensures c.rule_of-rule.ensures c.if-rule-ne0.true

pub next_judge-next-requires : goal.next_judge-next-requires
next_judge-next-requires c = let a = c.args in
    let d = c.difference-d.result in
    let unbroken = ap (λ (x : Rule). x.number) (sym c.rule_of-rule.ensures) ∙ c.if-rule-ne0.false in
    (c.requires.0, λ alive. twelfth a.judge a.lines d (later-holds a.judge (record { lines = a.lines; spare = a.spare }) d unbroken alive))

pub returns : goal.returns
returns c = let a = c.args in
    c.unbroken.ensures
    ∙ step_moves a.judge a.tally (record { lines = a.lines; spare = a.spare }) _ _ _ c.difference-d.ensures (ap (λ (x : Rule). x.number) c.rule_of-rule.ensures) c.if-rule-ne0.false c.next_judge-next.ensures
