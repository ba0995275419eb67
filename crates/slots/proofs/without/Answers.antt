-- `slots::without` meets its contract: 1 shifted left is a power of two, which a member's set is no smaller than.
-- Assumes nothing.
use Prim.Native.Nat.{◌<◌}
use mathlib.Core.Path.{◌≡◌, sym, ◌∙◌}
use mathlib.Core.Bool.{true}
use native.Mathlib.Omega.{arith}
use Rattle.slots.specs.Set.{mem, without}
use Rattle.slots.proofs.MemberLaws.{mem-small, without_is, shifted}
use Rattle.basics.proofs.Bits.{weight_le, active-bit}
use Rattle.slots.proofs.without.Goals.{Then-member}
use Rattle.slots.proofs.without.Goals as goal

-- the slot that is taken out is a member, so below 16
inside : (c : Then-member) → mem c.args.slot c.args.set ≡ true
inside c = sym c.member.ensures ∙ c.if-member.true

small : (c : Then-member) → c.args.slot < 16
small c = mem-small _ c.args.set (omega arith) (inside c)

pub overflow_shl-result : goal.overflow_shl-result
overflow_shl-result c = omega (arith, small c)

pub overflow_sub-result : goal.overflow_sub-result
overflow_sub-result c = let a = c.args in
    omega (arith, shifted a.slot (small c), weight_le a.slot a.set (active-bit a.slot a.set (inside c)))

pub returns-then-member : goal.returns-then-member
returns-then-member c = let a = c.args in
    omega (arith, shifted a.slot (small c), without_is a.slot a.set (inside c))

pub returns-else-member : goal.returns-else-member
unfolding without
returns-else-member c = rw (sym c.member.ensures ∙ c.if-member.false)
