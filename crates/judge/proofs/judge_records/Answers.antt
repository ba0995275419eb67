-- `judge::judge_records` meets its contract. Assumes nothing.
use native.Mathlib.Omega.{arith}
use Prim.Native.Nat.{ℕ, ◌*◌, ◌+◌}
use mathlib.Core.List.{List}
use mathlib.Core.Path.{subst}
use lib.ListN.{length-take, length-drop}
use Rattle.judge.specs.Quick.{Left}
use Rattle.judge.proofs.Runs.{rest_is, part_record, going-starts, going_stops, going-ready, going_again, going-ends}
use Rattle.judge.proofs.judge_records.Goals as goal

pub loop-i-init : goal.loop-i-init
loop-i-init c = going-starts _ _ _ c.requires.0 c.requires.1.0 c.requires.1.1

pub overflow_mul-at : goal.overflow_mul-at
overflow_mul-at c = let w = c.loop-i.invariant.whole in omega arith

pub slice_bounds-judge_one-count : goal.slice_bounds-judge_one-count
slice_bounds-judge_one-count c = let w = c.loop-i.invariant.whole in omega arith

pub slice_bounds-judge_one-start : goal.slice_bounds-judge_one-start
slice_bounds-judge_one-start c = let w = c.loop-i.invariant.whole in omega arith

pub judge_one-one-requires : goal.judge_one-one-requires
judge_one-one-requires c = let g = c.loop-i.invariant in
    let w = g.whole in
    let room = g.room in
    (g.judge, (g.tally, (omega arith, simp (length-take, length-drop) (omega arith))))

pub returns-then-one-ne0 : goal.returns-then-one-ne0
returns-then-one-ne0 c = let bytes = c.args.bytes.now in
    going_stops bytes _ _ _ c.loop-i.state c.loop-i.totals c.loop-i.i c.judge_one-one.result c.loop-i.invariant c.loop-i-test.true (part_record bytes c.loop-i.i c.loop-i.state c.loop-i.totals c.judge_one-one.result c.judge_one-one.ensures) c.if-one-ne0.true

pub overflow_add-at : goal.overflow_add-at
overflow_add-at c = let w = c.loop-i.invariant.whole in omega arith

pub slice_bounds-quick_run-count : goal.slice_bounds-quick_run-count
slice_bounds-quick_run-count c = let w = c.loop-i.invariant.whole in omega arith

pub slice_bounds-quick_run-start : goal.slice_bounds-quick_run-start
slice_bounds-quick_run-start c = let w = c.loop-i.invariant.whole in omega arith

pub quick_run-run-requires : goal.quick_run-run-requires
quick_run-run-requires c = let bytes = c.args.bytes.now in
    let h = going-ready bytes _ _ _ c.loop-i.state c.loop-i.totals c.loop-i.i c.judge_one-one.result c.loop-i.invariant c.loop-i-test.true (part_record bytes c.loop-i.i c.loop-i.state c.loop-i.totals c.judge_one-one.result c.judge_one-one.ensures) c.if-one-ne0.false in
    (h.0, rw (rest_is bytes (c.loop-i.i * 16 + 16)) h.1)

pub overflow_add-i : goal.overflow_add-i
overflow_add-i c = let w = c.loop-i.invariant.whole in let lt = c.loop-i-test.true in omega arith

pub loop-i-preserved : goal.loop-i-preserved
loop-i-preserved c = let bytes = c.args.bytes.now in
    going_again bytes _ _ _ c.loop-i.state c.loop-i.totals c.loop-i.i c.judge_one-one.result c.quick_run-run.result c.loop-i.invariant c.loop-i-test.true
    (part_record bytes c.loop-i.i c.loop-i.state c.loop-i.totals c.judge_one-one.result c.judge_one-one.ensures) c.if-one-ne0.false
    (subst (λ (x : List ℕ). Left x c.judge_one-one.result.judge c.judge_one-one.result.tally c.quick_run-run.result) (rest_is bytes (c.loop-i.i * 16 + 16)) c.quick_run-run.ensures)

pub overflow_add-i-in-loop-i : goal.overflow_add-i-in-loop-i
overflow_add-i-in-loop-i c = let g = loop-i-preserved c in
    let w = g.whole in
    let le = g.le in
    omega arith

pub loop-i-smaller : goal.loop-i-smaller
loop-i-smaller c = let lt = c.loop-i-test.true in omega arith

pub returns : goal.returns
returns c = going-ends _ _ _ _ _ _ _ c.loop-i.invariant c.loop-i-test.false
