-- What "asks until it starts" and "no second turn" amount to (`Meant` of specs/Pinned.antt). Assumes nothing.
use Rattle.std.specs.Prelude.{Option, Some}
use Prim.Native.Nat.{ℕ, ◌<◌}
use mathlib.Core.Path.{◌≡◌, refl}
use mathlib.Core.Bool.{Bool, true, false}
use mathlib.Core.List.{List, [], ◌∷◌, ◌++◌}
use native.Mathlib.Omega.{arith}
use lib.Dec.{eqb}
use borrow.Author.Tests.{eq-eqb, ne_eqb, eqb-true}
use Rattle.basics.proofs.Bools.{by-test}
use Rattle.cycle.specs.declared.Bus.{Bus}
use Rattle.cycle.specs.Runs.{Input, next, after, start_in, count, turn_goes_on, one_turn, Still, is_slot, Asks}
use Rattle.cycle.specs.Pinned.{Wanting, Meant}

-- once m has started nothing more is asked; and what holds anyway holds as long as it is asked
done : (m : ℕ) (o : Option ℕ) (X : Type 0) → o ≡ Some m → Still (is_slot m o) X
done m o X e = rw (e, eq-eqb m m refl) tt

still : (c : Bool) {X : Type 0} → X → Still c X
still true x = tt
still false x = x

until_start_lem : (m : ℕ) (b : Bus) (before : List Input) (i : Input) (later : List Input)
    → Wanting m (before ++ (i ∷ [])) → start_in (after b before) i ≡ Some m → Asks m b (before ++ (i ∷ later))
unfolding after
until_start_lem m b [] i later w e = (w.0, done m (start_in b i) _ e)
until_start_lem m b (j ∷ before) i later w e = (w.0, still (is_slot m (start_in b j)) (until_start_lem m (next b j) before i later w.1 e))

-- ---- one turn
-- STARTs among which m's is the first of the last part
counted : (m : ℕ) (before later : List ℕ) → 0 < count m (before ++ (m ∷ later))
unfolding count
counted m [] later = rw (eq-eqb m m refl) (omega arith)
counted m (x ∷ before) later =
    let h = counted m before later in
    by-test (eqb x m) (λ e. rw e (omega arith)) (λ e. rw e h)

module _ (m s : ℕ) (later : List ℕ) (d : s ≡ m → ⊥) where
  -- another's START ends m's turn
  ended : turn_goes_on m (s ∷ later) ≡ true → count m later ≡ 0
  unfolding turn_goes_on
  ended e = eqb-true _ _ (rw (ne_eqb s m d) at e)

  goes_on : (before : List ℕ) → turn_goes_on m (before ++ (m ∷ s ∷ later)) ≡ true → count m later ≡ 0
  unfolding turn_goes_on
  goes_on [] e = ended (rw (eq-eqb m m refl) at e)
  goes_on (x ∷ before) e =
      by-test (eqb x m) (λ q. goes_on before (rw q at e))
      (λ q. let z = eqb-true (count m (before ++ (m ∷ s ∷ later))) 0 (rw q at e) in absurd (omega (arith, counted m before (s ∷ later))))

  only-turn : (before : List ℕ) → one_turn m (before ++ (m ∷ s ∷ later)) ≡ true → count m later ≡ 0
  unfolding one_turn
  only-turn [] e = ended (rw (eq-eqb m m refl) at e)
  only-turn (x ∷ before) e = by-test (eqb x m) (λ q. goes_on before (rw q at e)) (λ q. only-turn before (rw q at e))

pub meant : (m : ℕ) → Meant m
meant m = record { until_start = until_start_lem m; only_turn = λ before s later d. only-turn m s later d before }
