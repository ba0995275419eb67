use mathlib.Core.Path.{◌∙◌}
use native.Mathlib.Omega.{arith}
use borrow.Author.Tests.{lt-ltb}
use Rattle.record.proofs.Packing.{past_end, few_left}
use Rattle.record.proofs.is_too_few.Goals as goal

pub returns-then-at-size : goal.returns-then-at-size
returns-then-at-size c = lt-ltb c.args.size c.args.at (omega arith) ∙ past_end c.args.size c.args.at (omega arith)

pub returns-else-at-size : goal.returns-else-at-size
returns-else-at-size c = few_left c.args.size c.args.at (omega arith)
