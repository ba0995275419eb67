-- `cache::copy_left` meets its contract. Assumes nothing.
use mathlib.Core.Path.{sym, ◌∙◌}
use Rattle.basics.proofs.Bools.{cond-true, cond-false}
use Rattle.cache.specs.Operations.{copy_left}
use Rattle.cache.proofs.copy_left.Goals as goal

pub returns-then-is_valid : goal.returns-then-is_valid
unfolding copy_left
returns-then-is_valid c = sym (cond-true _ _ (sym c.is_valid.ensures ∙ c.if-is_valid.true))

pub returns-else-is_valid : goal.returns-else-is_valid
unfolding copy_left
returns-else-is_valid c = sym (cond-false _ _ (sym c.is_valid.ensures ∙ c.if-is_valid.false))
