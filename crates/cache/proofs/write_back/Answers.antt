-- `cache::write_back` meets its contract. Assumes nothing.
use mathlib.Core.Path.{sym, ◌∙◌}
use Rattle.cache.proofs.Placed.{memory_kept}
use Rattle.cache.proofs.write_back.Goals as goal

pub returns-then-is_owner : goal.returns-then-is_owner
returns-then-is_owner c = simp (sym c.is_owner.ensures ∙ c.if-is_owner.true)

pub returns-else-is_owner : goal.returns-else-is_owner
returns-else-is_owner c = memory_kept _ _ _ _ (sym c.is_owner.ensures ∙ c.if-is_owner.false)
