-- `contest::settle` meets its contract: the walk ends at the highest contesting slot, which is the one settled value.
-- Assumes nothing.
use mathlib.Core.Path.{◌≡◌, sym, subst}
use native.Mathlib.Omega.{arith}
use Rattle.slots.specs.Set.{top}
use Rattle.slots.proofs.TopLaws.{top_less}
use Rattle.contest.specs.Contest.{Settles}
use Rattle.contest.proofs.Settling.{settles, walk_top}
use Rattle.contest.proofs.settle.Goals.{After-settle_from}
use Rattle.contest.proofs.settle.Goals as goal

-- the walk's end
ends : (c : After-settle_from) → c.settle_from.result ≡ top c.args.set
ends c = omega (arith, c.settle_from.ensures, walk_top c.args.set)

pub overflow_cast-result : goal.overflow_cast-result
overflow_cast-result c = omega (arith, ends c, top_less 15 c.args.set)

pub returns : goal.returns
returns c = let set = c.args.set in subst (Settles set) (sym (ends c)) (settles set)
