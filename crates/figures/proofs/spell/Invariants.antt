-- `figures::spell` meets its contract: the digits that are left to spell, with those that stand from the place on, are the number's. Assumes nothing.
use Prim.Native.Nat.{◌-◌, ◌≤◌}
use mathlib.Core.Path.{◌≡◌}
use mathlib.Core.List.{◌++◌}
use lib.ListN.{length, drop}
use Rattle.io.specs.Digits.{last_digits}
use Rattle.figures.proofs.spell.Given as goal

abbrev pub invariant-loop-at : goal.invariant-loop-at
invariant-loop-at l = (l.first ≤ l.at) × (length l.glyphs ≡ 64) × (last_digits l.base (l.at - l.first) l.rest ++ drop l.at l.glyphs ≡ last_digits l.base (64 - l.first) l.n)
