use mathlib.Core.Path.{◌∙◌, sym}
use mathlib.Core.Bool.{false}
use Rattle.codes.proofs.OwedLaws.{owed_means, owed_none}
use Rattle.codes.proofs.words_owed.Goals as goal

pub returns-in-Ok : goal.returns-in-Ok
returns-in-Ok c = c.words.ensures ∙ sym (owed_means false c.args.tm0 c.args.ad _ (sym c.in-Ok.ensures))

pub returns-in-Err : goal.returns-in-Err
returns-in-Err c = sym (owed_none false c.args.tm0 c.args.ad _ (sym c.in-Err.ensures))
