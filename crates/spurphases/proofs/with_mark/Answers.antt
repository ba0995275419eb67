-- `spurphases::with_mark` meets its contract. Assumes nothing.
use mathlib.Core.Path.{ap, ◌∙◌}
use Rattle.spurphases.proofs.Wording.{counted, mark-kept, mark-counted}
use Rattle.spurphases.proofs.with_mark.Goals as goal
use Rattle.spurphases.proofs.with_mark.Goals.{then-marks-lt32, else-marks-lt32}

pub returns : goal.returns
returns c = let a = c.args in
    elim c.if-marks-lt32.branch [
      | then-marks-lt32 w ↦ ap counted w.marks-is ∙ mark-kept a.marks a.mark w.if-marks-lt32.true
      | else-marks-lt32 w ↦ ap counted w.marks-is ∙ mark-counted a.marks a.mark w.if-marks-lt32.false
    ]
