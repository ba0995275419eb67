-- `cache::write` meets its contract. Assumes nothing.
use mathlib.Core.Path.{sym}
use native.Mathlib.Omega.{arith}
use Rattle.cache.specs.Operations.{block_written}
use Rattle.cache.proofs.Laws.{call_accepted, call_done, call_unchanged, write_done}
use Rattle.cache.proofs.write.Goals as goal

pub overflow_mul-block : goal.overflow_mul-block
overflow_mul-block c = let a = call_accepted _ _ _ _ c.check.ensures c.in_ok-check.was in let f = a.sizes in omega arith

pub write_block-requires : goal.write_block-requires
write_block-requires c = let a = call_accepted _ _ _ _ c.check.ensures c.in_ok-check.was in let f = a.sizes in (omega arith, omega arith)

pub returns-in_err-check-clause-tables : goal.returns-in_err-check-clause-tables
returns-in_err-check-clause-tables c = call_unchanged _ _ _ _ c.check.ensures (λ b. block_written b _ _) _ c.in_err-check.was

pub returns : goal.returns
returns c = record { number = sym (call_done _ _ _ _ c.check.ensures c.in_ok-check.was); tables = write_done _ _ _ _ _ _ c.check.ensures c.in_ok-check.was _ _ _ c.write_block.ensures.states c.write_block.ensures.copies }
