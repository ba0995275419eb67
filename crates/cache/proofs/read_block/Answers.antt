-- `cache::read_block` meets its contract. Assumes nothing.
use mathlib.Core.Path.{sym, ◌∙◌}
use Rattle.cache.proofs.Laws.{read-valid, read-invalid}
use Rattle.cache.proofs.read_block.Goals as goal

pub returns-then-is_valid : goal.returns-then-is_valid
returns-then-is_valid c = let r = read-valid _ _ _ _ _ c.requires.2 (sym c.is_valid.ensures ∙ c.if-is_valid.true) in record { value = r.0; states = r.1.0; copies = r.1.1 }

pub returns : goal.returns
returns c = let r = read-invalid _ _ _ _ _ _ _ _ c.requires.3 c.requires.2 (sym c.is_valid.ensures ∙ c.if-is_valid.false) c.owner_of-owner.ensures c.supply-value.ensures c.share.ensures in record { value = r.0; states = r.1.0; copies = r.1.1 }
