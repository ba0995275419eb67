-- `cache::read` meets its contract. Assumes nothing.
use mathlib.Core.Path.{◌≡◌}
use native.Mathlib.Omega.{arith}
use Rattle.std.proofs.lemmas.Grind.{common_steps}
use Rattle.basics.specs.Answers.{refused, refusal_number}
use Rattle.cache.specs.Tables.{tables}
use Rattle.cache.specs.Calls.{read_of}
use Rattle.cache.specs.Operations.{block_read}
use Rattle.cache.proofs.Coherence.{coherent_test}
use Rattle.cache.proofs.Laws.{call_accepted, call_unchanged, read-refused, read_done}
use Rattle.cache.proofs.read.Goals as goal

pub offset_bounds-memory-block : goal.offset_bounds-memory-block
offset_bounds-memory-block c = let a = call_accepted _ _ _ _ c.check.ensures c.in_ok-check.was in let f = a.sizes in omega arith

pub bounds-memory-block : goal.bounds-memory-block
bounds-memory-block c = (call_accepted _ _ _ _ c.check.ensures c.in_ok-check.was).inside

pub overflow_mul-block : goal.overflow_mul-block
overflow_mul-block c = let a = call_accepted _ _ _ _ c.check.ensures c.in_ok-check.was in let f = a.sizes in omega arith

pub read_block-requires : goal.read_block-requires
read_block-requires c = let a = call_accepted _ _ _ _ c.check.ensures c.in_ok-check.was in let f = a.sizes in (omega arith, omega arith, a.narrow, coherent_test _ a.sane)

pub returns-in_err-check-clause-tables : goal.returns-in_err-check-clause-tables
returns-in_err-check-clause-tables c = call_unchanged _ _ _ _ c.check.ensures (λ b. block_read b _) _ c.in_err-check.was

pub returns : goal.returns
returns c = let r = read_done _ _ _ _ _ _ c.check.ensures c.in_ok-check.was _ _ _ c.read_block.ensures.value c.read_block.ensures.states c.read_block.ensures.copies in record { answer = r.0; tables = r.1 }

pub returns-in_err-check-clause-answer : goal.returns-in_err-check-clause-answer
returns-in_err-check-clause-answer c =
    let a = c.args in
    let e : refused (refusal_number c.in_err-check.field-0.0) 0 ≡ read_of (tables a.states.now a.copies.now a.memory.now) a.block a.slot =
    read-refused _ _ _ _ c.check.ensures _ c.in_err-check.was in
    grind (arith, common_steps, e)
