-- `contest::with_line` meets its contract.
-- Assumes nothing.
use mathlib.Core.Path.{sym, ◌∙◌}
use borrow.Author.Tests.{lt-ltb}
use native.Mathlib.Omega.{arith}
use Rattle.contest.specs.Walk.{with_line}
use Rattle.contest.proofs.with_line.Goals as goal

pub returns-then-is_driven : goal.returns-then-is_driven
unfolding with_line
returns-then-is_driven c = rw (c.with.ensures, lt-ltb c.args.line 16 (omega arith), sym c.is_driven.ensures ∙ c.if-is_driven.true)

pub returns-else-is_driven : goal.returns-else-is_driven
unfolding with_line
returns-else-is_driven c = rw (sym c.is_driven.ensures ∙ c.if-is_driven.false)
