-- `judge::after::next_since` meets its contract. Assumes nothing.
use Rattle.std.proofs.Common.{ltb, sym, ◌∙◌, arith, ◌+◌}
use borrow.Author.Tests.{ltb-true, ltb-false}
use Rattle.std.proofs.Math.Nat.{min-eq_left, min-eq_right}
use Rattle.basics.proofs.Bools.{by-test, cond-true, cond-false}
use Rattle.judge.proofs.after.next_since.Goals as goal

pub returns : goal.returns
returns c = let n = c.args.since + c.args.d in
    by-test (ltb n 3)
    (λ e. let low = ltb-true n 3 e in c.min.ensures ∙ min-eq_left (omega arith) ∙ sym (cond-true _ _ e))
    (λ e. let high = ltb-false n 3 e in c.min.ensures ∙ min-eq_right (omega arith) ∙ sym (cond-false _ _ e))
