-- `cache::is_fit` meets its contract. Assumes nothing.
use borrow.Author.Tests.{le-leb, lt-leb}
use Rattle.cache.specs.Calls.{fit}
use Rattle.cache.proofs.is_fit.Goals as goal

pub returns-then-words-le64 : goal.returns-then-words-le64
unfolding fit
returns-then-words-le64 c = simp (le-leb _ _ c.if-words-le64.true)

pub returns-else-words-le64 : goal.returns-else-words-le64
unfolding fit
returns-else-words-le64 c = simp (lt-leb _ _ c.if-words-le64.false)
