-- `bus::arbitration::makes_attention` meets its contract: a member is a slot 0 to 15. Assumes nothing.
use mathlib.Core.Path.{sym, ◌∙◌}
use Rattle.std.proofs.Common.{rules}
use Rattle.slots.proofs.MemberLaws.{mem-small}
use Rattle.bus.proofs.arbitration.makes_attention.Goals as goal

pub bounds-sets-slot : goal.bounds-sets-slot
bounds-sets-slot c = let a = c.args in
    mem-small a.slot a.sets.wants (search rules) (sym c.member.ensures ∙ c.if-not-member.false)
