-- `slots::member` meets its contract: a shift right divides by a power of two, and a 16-bit number has no bit above.
-- Assumes nothing.
use mathlib.Core.Path.{sym}
use borrow.Author.Rules.{rules}
use native.Mathlib.Omega.{arith}
use Rattle.basics.specs.Lines.{bit, active}
use Rattle.slots.proofs.MemberLaws.{mem_big}
use Rattle.slots.proofs.member.Goals as goal

pub returns-then-slot-lt16 : goal.returns-then-slot-lt16
unfolding active bit
returns-then-slot-lt16 c = search rules

pub returns-else-slot-lt16 : goal.returns-else-slot-lt16
returns-else-slot-lt16 c = sym (mem_big _ _ (omega arith) c.if-slot-lt16.false)
