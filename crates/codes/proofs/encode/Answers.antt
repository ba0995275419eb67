use mathlib.Core.Path.{sym}
use native.Mathlib.Omega.{arith}
use Rattle.codes.proofs.Laws.{some_bytes, mark-fits, aligned, unaligned}
use Rattle.codes.proofs.encode.Goals as goal

pub nonzero_rem-op : goal.nonzero_rem-op
nonzero_rem-op c = rw c.measured-bytes.ensures (some_bytes c.args.op.unit)

pub overflow_add-result : goal.overflow_add-result
overflow_add-result c = let o = c.args.op in
    let m = c.measured-bytes.ensures in
    record {
      fits = rw m (mark-fits o.unit o.address (omega arith) (rw m at c.if-op-bytes-ne0.false));
    }

pub returns-then-op-bytes-ne0 : goal.returns-then-op-bytes-ne0
returns-then-op-bytes-ne0 c = sym (unaligned c.args.op (rw c.measured-bytes.ensures at c.if-op-bytes-ne0.true))

pub returns : goal.returns
returns c = let m = c.measured-bytes.ensures in
    rw m (sym (aligned c.args.op (rw m at c.if-op-bytes-ne0.false)))
