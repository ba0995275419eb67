-- `cache::check` meets its contract. Assumes nothing.
use mathlib.Core.Path.{sym, ◌∙◌}
use native.Mathlib.Omega.{arith}
use Rattle.cache.proofs.Refusals.{fit-says, named-says, refused_sizes, refused-place, refused_incoherent, not-refused}
use Rattle.cache.proofs.check.Goals as goal

pub returns-then-not-is_fit : goal.returns-then-not-is_fit
returns-then-not-is_fit c = refused_sizes _ _ _ (sym c.is_fit.ensures ∙ c.if-not-is_fit.true)

pub returns-then-not-is_named : goal.returns-then-not-is_named
returns-then-not-is_named c = refused-place _ _ _ (sym c.is_fit.ensures ∙ c.if-not-is_fit.false) (sym c.is_named.ensures ∙ c.if-not-is_named.true)

pub offset_bounds-memory-block : goal.offset_bounds-memory-block
offset_bounds-memory-block c = let f = fit-says _ _ _ (sym c.is_fit.ensures ∙ c.if-not-is_fit.false) in let n = named-says _ _ _ (sym c.is_named.ensures ∙ c.if-not-is_named.false) in omega arith

pub bounds-memory-block : goal.bounds-memory-block
bounds-memory-block c = (named-says _ _ _ (sym c.is_named.ensures ∙ c.if-not-is_named.false)).1

pub overflow_mul-block : goal.overflow_mul-block
overflow_mul-block c = let f = fit-says _ _ _ (sym c.is_fit.ensures ∙ c.if-not-is_fit.false) in let n = named-says _ _ _ (sym c.is_named.ensures ∙ c.if-not-is_named.false) in omega arith

pub is_coherent-requires : goal.is_coherent-requires
is_coherent-requires c = let f = fit-says _ _ _ (sym c.is_fit.ensures ∙ c.if-not-is_fit.false) in let n = named-says _ _ _ (sym c.is_named.ensures ∙ c.if-not-is_named.false) in (omega arith, omega arith)

pub returns-then-not-is_coherent : goal.returns-then-not-is_coherent
returns-then-not-is_coherent c = refused_incoherent _ _ _ (sym c.is_fit.ensures ∙ c.if-not-is_fit.false) (sym c.is_named.ensures ∙ c.if-not-is_named.false) (sym c.is_coherent.ensures ∙ c.if-not-is_coherent.true)

pub returns : goal.returns
returns c = not-refused _ _ _ (sym c.is_fit.ensures ∙ c.if-not-is_fit.false) (sym c.is_named.ensures ∙ c.if-not-is_named.false) (sym c.is_coherent.ensures ∙ c.if-not-is_coherent.false)
