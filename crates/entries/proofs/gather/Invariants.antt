-- The first `slot` of the account's entries are put over sixteen of nothing.
use Rattle.std.proofs.Common.{◌≡◌, min, length, replicate}
use Rattle.entries.specs.Entries.{zero_entry}
use Rattle.entries.proofs.Laws.{over_of}
use Rattle.entries.proofs.gather.Given as goal

abbrev pub invariant-loop-slot : goal.invariant-loop-slot
invariant-loop-slot l = record {
  up_to : l.held ≡ min (length l.account) 16;
  over : l.entries ≡ over_of l.slot (replicate 16 zero_entry) l.account;
}
