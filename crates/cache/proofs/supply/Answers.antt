-- `cache::supply` meets its contract. Assumes nothing.
use borrow.Author.Tests.{lt-ltb, le-ltb}
use Rattle.cache.proofs.supply.Goals as goal

pub returns-then-owner-lt16 : goal.returns-then-owner-lt16
returns-then-owner-lt16 c = simp (lt-ltb _ _ c.if-owner-lt16.true)

pub returns-else-owner-lt16 : goal.returns-else-owner-lt16
returns-else-owner-lt16 c = simp (le-ltb _ _ c.if-owner-lt16.false)
