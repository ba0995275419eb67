-- `text::spell` meets its contract: the digits that are left to spell, with those behind the place, are the number's.
-- Assumes nothing.
use Prim.Native.Nat.{suc, ◌<◌, ◌^◌}
use mathlib.Core.Path.{◌≡◌}
use mathlib.Core.List.{◌++◌}
use lib.ListN.{length, drop}
use Rattle.text.specs.Decimal.{spelled, decimal_of}
use Rattle.text.proofs.spell.Given as goal

abbrev pub invariant-loop-rest : goal.invariant-loop-rest
invariant-loop-rest l = (l.at < 20) × (l.rest < 10 ^ suc l.at) × (length l.digits ≡ 20) × (spelled (suc l.at) l.rest ++ drop (suc l.at) l.digits ≡ decimal_of l.n)

abbrev pub decreases-loop-rest : goal.decreases-loop-rest
decreases-loop-rest l = l.at
