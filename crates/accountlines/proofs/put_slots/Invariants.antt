-- `accountlines::put_slots` meets its contract: what is left, put behind what is there, makes the whole. Assumes nothing.
use mathlib.Core.Path.{◌≡◌}
use lib.ListN.{drop}
use Rattle.text.specs.Pages.{grown}
use Rattle.accountlines.specs.Lines.{slot_lines}
use Rattle.accountlines.proofs.put_slots.Given as goal

abbrev pub invariant-loop-slot : goal.invariant-loop-slot
invariant-loop-slot g l =
    grown g.row.N l.page (slot_lines l.slot (drop l.slot l.fn.entries)) ≡ grown g.row.N l.initial.page (slot_lines 0 l.fn.entries)
