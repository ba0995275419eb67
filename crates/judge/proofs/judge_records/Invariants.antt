-- `judge::judge_records` meets its contract. Assumes nothing.
use Prim.Native.Nat.{◌-◌}
use Rattle.judge.proofs.Runs.{Going}
use Rattle.judge.proofs.judge_records.Given as goal

abbrev pub invariant-loop-i : goal.invariant-loop-i
invariant-loop-i l = Going l.bytes l.n l.initial.state l.initial.totals l.state l.totals l.i

abbrev pub decreases-loop-i : goal.decreases-loop-i
decreases-loop-i l = l.n - l.i
