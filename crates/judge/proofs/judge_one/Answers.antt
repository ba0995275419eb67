-- `judge::judge_one` meets its contract. Assumes nothing.
use mathlib.Core.Path.{◌∙◌, ap}
use Rattle.rules.specs.Run.{step_of}
use Rattle.judge.proofs.Steps.{taken_of}
use Rattle.judge.proofs.judge_one.Goals as goal

pub returns : goal.returns
returns c = c.judge_lines.ensures ∙ ap (step_of c.args.judge c.args.tally) (taken_of _ _ _ c.requires.1.1.1 c.lines_in-lines.ensures c.spare_in-spare.ensures)
