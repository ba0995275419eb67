-- `nodes::gather` so far: `sets` is what the nodes below `slot` come to.
use mathlib.Core.Path.{◌≡◌}
use Rattle.cycle.specs.Nodes.{gathered}
use Rattle.nodes.proofs.gather.Given as goal

abbrev pub invariant-loop-slot : goal.invariant-loop-slot
invariant-loop-slot l = l.sets ≡ gathered l.slot l.nodes
