-- `judge::quick::quick_run` meets its contract. Assumes nothing.
use Prim.Native.Nat.{◌-◌, ◌/◌}
use mathlib.Core.Path.{◌≡◌}
use lib.ListN.{length}
use Rattle.judge.specs.Quick.{Left}
use Rattle.judge.proofs.Runs.{reached}
use Rattle.judge.proofs.quick.quick_run.Given as goal

abbrev pub invariant-loop-i : goal.invariant-loop-i
invariant-loop-i l = (l.n ≡ length l.part / 16) × Left l.part l.initial.state l.initial.totals (reached l.i l.state l.totals)

abbrev pub decreases-loop-i : goal.decreases-loop-i
decreases-loop-i l = l.n - l.i
