-- `cache::evict` meets its contract. Assumes nothing.
use mathlib.Core.Path.{sym}
use native.Mathlib.Omega.{arith}
use Rattle.cache.specs.Operations.{block_evicted}
use Rattle.cache.proofs.Laws.{call_accepted, call_done, call_unchanged, evict_done}
use Rattle.cache.proofs.evict.Goals as goal

pub overflow_mul-at : goal.overflow_mul-at
overflow_mul-at c = let a = call_accepted _ _ _ _ c.check.ensures c.in_ok-check.was in let f = a.sizes in omega arith

pub overflow_add-at : goal.overflow_add-at
overflow_add-at c = let a = call_accepted _ _ _ _ c.check.ensures c.in_ok-check.was in let f = a.sizes in omega arith

pub bounds-states-at : goal.bounds-states-at
bounds-states-at c = let a = call_accepted _ _ _ _ c.check.ensures c.in_ok-check.was in let f = a.sizes in omega arith

pub offset_bounds-copies-at : goal.offset_bounds-copies-at
offset_bounds-copies-at c = let a = call_accepted _ _ _ _ c.check.ensures c.in_ok-check.was in let f = a.sizes in omega arith

pub bounds-copies-at : goal.bounds-copies-at
bounds-copies-at c = let a = call_accepted _ _ _ _ c.check.ensures c.in_ok-check.was in let f = a.sizes in omega arith

pub write_back-requires : goal.write_back-requires
write_back-requires c = (call_accepted _ _ _ _ c.check.ensures c.in_ok-check.was).inside

pub returns-in_err-check-clause-tables : goal.returns-in_err-check-clause-tables
returns-in_err-check-clause-tables c = call_unchanged _ _ _ _ c.check.ensures (λ b. block_evicted b _) _ c.in_err-check.was

pub returns : goal.returns
returns c = record { number = sym (call_done _ _ _ _ c.check.ensures c.in_ok-check.was); tables = evict_done _ _ _ _ _ _ c.check.ensures c.in_ok-check.was _ _ (call_accepted _ _ _ _ c.check.ensures c.in_ok-check.was).narrow c.write_back.ensures c.copy_left.ensures }

pub bounds-states-at-2 : goal.bounds-states-at-2
bounds-states-at-2 c = let a = call_accepted _ _ _ _ c.check.ensures c.in_ok-check.was in let f = a.sizes in omega arith

pub offset_bounds-copies-at-2 : goal.offset_bounds-copies-at-2
offset_bounds-copies-at-2 c = let a = call_accepted _ _ _ _ c.check.ensures c.in_ok-check.was in let f = a.sizes in omega arith

pub bounds-copies-at-2 : goal.bounds-copies-at-2
bounds-copies-at-2 c = let a = call_accepted _ _ _ _ c.check.ensures c.in_ok-check.was in let f = a.sizes in omega arith
