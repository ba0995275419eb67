-- `slots::with` meets its contract: 1 shifted left is a power of two, for which a set that lacks the slot has room.
-- Assumes nothing.
use mathlib.Core.Path.{◌≡◌, sym, ◌∙◌}
use mathlib.Core.Bool.{false}
use borrow.Author.Tests.{lt-ltb, le-ltb}
use native.Mathlib.Omega.{arith}
use Rattle.basics.proofs.Bools.{cond-true}
use Rattle.slots.specs.Set.{mem, including}
use Rattle.slots.proofs.MemberLaws.{including_is, shifted}
use Rattle.slots.proofs.WithLaws.{including_less}
use Rattle.slots.proofs.with.Goals.{Else-member}
use Rattle.slots.proofs.with.Goals as goal

-- the slot that is put in is no member yet
out : (c : Else-member) → mem c.args.slot c.args.set ≡ false
out c = sym c.member.ensures ∙ c.if-member.false

pub overflow_add-result : goal.overflow_add-result
overflow_add-result c = let a = c.args in
    let h = c.if-slot-lt16.true in
    omega (arith, shifted a.slot h, including_is a.slot a.set (out c), including_less 16 a.slot a.set h (omega arith))

pub returns-then-member : goal.returns-then-member
unfolding including
returns-then-member c = let a = c.args in
    rw (lt-ltb a.slot 16 c.if-slot-lt16.true, sym c.member.ensures ∙ c.if-member.true)

pub returns-else-member : goal.returns-else-member
returns-else-member c = let a = c.args in
    let h = c.if-slot-lt16.true in
    omega (
      arith,
      shifted a.slot h,
      including_is a.slot a.set (out c),
      cond-true (including a.slot a.set) a.set (lt-ltb a.slot 16 h),
    )

pub returns-else-slot-lt16 : goal.returns-else-slot-lt16
returns-else-slot-lt16 c = rw (le-ltb c.args.slot 16 c.if-slot-lt16.false)
