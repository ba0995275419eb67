use mathlib.Core.Path.{◌∙◌, ap}
use Rattle.codes.specs.Modes.{mode_at}
use Rattle.codes.proofs.Modes.{row_mode}
use Rattle.codes.proofs.mode_of.Goals as goal

pub returns : goal.returns
returns c = let a = c.args in
    c.mode_at.ensures ∙ ap mode_at c.row_of.ensures.0 ∙ row_mode a.code.tm1 a.code.tm0 a.code.ad
