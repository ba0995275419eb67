-- `slots::highest` meets its contract: a number's highest bit is its highest member. Assumes nothing.
use mathlib.Core.Path.{◌≡◌, sym}
use native.Mathlib.Omega.{arith}
use Rattle.slots.proofs.MemberLaws.{mem-empty}
use Rattle.slots.proofs.TopLaws.{top_none, top_power}
use Rattle.slots.proofs.highest.Goals as goal

pub returns-then-set-eq0 : goal.returns-then-set-eq0
returns-then-set-eq0 c = let none : c.args.set ≡ 0 = omega (arith, c.if-set-eq0.true) in sym (rw none (top_none 16 0 (λ i l. mem-empty i)))

pub returns-else-set-eq0 : goal.returns-else-set-eq0
returns-else-set-eq0 c = omega (arith, top_power c.args.set c.ilog2.result (omega arith) (omega (arith, c.ilog2.ensures.power_le)) (omega (arith, c.ilog2.ensures.next_power_gt)))
