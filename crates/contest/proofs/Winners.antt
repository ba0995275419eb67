-- Laws of the winner. Assumes nothing.
use Prim.Native.Nat.{ℕ}
use mathlib.Core.Path.{◌≡◌}
use borrow.Author.Tests.{eq-eqb, ne_eqb}
use Rattle.basics.proofs.Bools.{cond-true, cond-false}
use Rattle.slots.specs.Set.{top}
use Rattle.contest.specs.Contest.{winner_of}
use Rattle.std.specs.Prelude.{Some, None}

pub top_wins : (set : ℕ) → (set ≡ 0 → ⊥) → winner_of set ≡ Some (top set)
unfolding winner_of
top_wins set n = cond-false _ _ (ne_eqb set 0 n)

pub nobody_wins : (set : ℕ) → set ≡ 0 → winner_of set ≡ None
unfolding winner_of
nobody_wins set e = cond-true _ _ (eq-eqb set 0 e)
