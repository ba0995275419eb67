-- `phases::look::writes_to` meets its contract. Assumes nothing.
use mathlib.Core.Path.{◌∙◌}
use Rattle.phases.proofs.Looks.{word_is, writes_means, writes-none}
use Rattle.phases.proofs.look.writes_to.Goals as goal

pub returns-in-Ok : goal.returns-in-Ok
returns-in-Ok c = let a = c.args in writes_means a.mark _ a.decoded c.eq.result c.in-Ok.is (c.eq.ensures ∙ word_is _)

pub returns-in-Err : goal.returns-in-Err
returns-in-Err c = let a = c.args in writes-none a.mark a.decoded _ c.in-Err.is
