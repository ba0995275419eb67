-- `entries::gather` meets its contract: `over_of`'s lemmas are the steps of the loop. Assumes nothing.
use Rattle.std.proofs.Common.{sym, ◌∙◌, replicate, arith, add-one}
use Rattle.entries.specs.Entries.{zero_entry}
use Rattle.entries.proofs.Laws.{over_none, over_next, over_sixteen}
use Rattle.entries.proofs.gather.Goals as goal

pub loop-slot-init : goal.loop-slot-init
loop-slot-init c = record {
  up_to = c.min-held.ensures;
  over = rw c.zero-entries.ensures (sym (over_none (replicate 16 zero_entry) c.args.account.now));
}

pub loop-slot-preserved : goal.loop-slot-preserved
loop-slot-preserved c = record {
  up_to = c.loop-slot.invariant.up_to;
  over =
      rw (add-one, c.loop-slot.invariant.over)
      (over_next c.loop-slot.slot (replicate 16 zero_entry) c.args.account.now (omega arith) (omega arith));
}

pub returns : goal.returns
returns c = c.loop-slot.invariant.over ∙ over_sixteen c.loop-slot.slot c.args.account.now (omega arith)
