-- `why::figures_in` meets its contract. Assumes nothing.
use Rattle.std.proofs.Common.{◌≡◌}
use Rattle.std.specs.Prelude.{drop}
use Rattle.why.specs.Figures.{figures_in}
use Rattle.why.proofs.figures_in.Given as goal

-- the rows that are left say the same of the rule
abbrev pub invariant-loop-name : goal.invariant-loop-name
invariant-loop-name l = figures_in l.fn.rule (drop l.name-index l.name-items) ≡ figures_in l.fn.rule l.fn.rows
