-- `breach::lowest` meets its contract. Assumes nothing.
use Rattle.std.proofs.Common.{◌≡◌}
use Rattle.std.specs.Prelude.{drop}
use Rattle.rules.specs.Run.{lowest}
use Rattle.breach.proofs.lowest.Given as goal

-- the tests that are left say the same
abbrev pub invariant-loop-rule : goal.invariant-loop-rule
invariant-loop-rule l = lowest (drop l.rule-index l.rule-items) ≡ lowest l.fn.tests
