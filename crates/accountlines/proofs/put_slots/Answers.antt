-- `accountlines::put_slots` meets its contract: what is left, put behind what is there, makes the whole. Assumes nothing.
use mathlib.Core.Path.{◌≡◌}
use native.Mathlib.Omega.{arith}
use native.Mathlib.Numerals.{add-one}
use lib.ListN.{length}
use Rattle.text.proofs.PageLaws.{grown_then, grown_nil}
use Rattle.accountlines.proofs.LineLaws.{slots_from, slots_done}
use borrow.Author.Rules.{rules}
use Rattle.accountlines.proofs.put_slots.Goals as goal

pub loop-slot-preserved : goal.loop-slot-preserved
loop-slot-preserved g c = let es = c.args.entries in
    let k = c.loop-slot.slot in
    let sixteen : length es ≡ 16 = search rules in
    rw (add-one, c.put_slot.ensures, grown_then) (rw (slots_from es k (omega arith)) at c.loop-slot.invariant)

pub returns : goal.returns
returns g c = let es = c.args.entries in
    let sixteen : length es ≡ 16 = search rules in
    record { adds = rw (slots_done es c.loop-slot.slot (omega arith), grown_nil) at c.loop-slot.invariant; entries_len = sixteen }
