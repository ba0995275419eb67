-- `phases::differences` meets its contract: after i turns the first i differences are there. Assumes nothing.
use Prim.Native.Nat.{◌≤◌}
use mathlib.Core.Path.{◌≡◌}
use Rattle.marks.specs.Report.{diffs_of}
use Rattle.phases.proofs.Looks.{up_to}
use Rattle.phases.proofs.differences.Given as goal

abbrev pub invariant-loop-i : goal.invariant-loop-i
invariant-loop-i l = (l.i ≤ up_to l.found) × (l.diffs ≡ diffs_of l.spans l.i)
