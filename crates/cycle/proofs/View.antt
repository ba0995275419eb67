-- What a cycle can be: six cases, each with what led to it. Assumes nothing.
use Rattle.std.specs.Prelude.{Option, Some, None}
use Prim.Native.Nat.{ℕ, ◌+◌, ◌-◌, ◌<◌, ◌≤◌}
use mathlib.Core.Path.{◌≡◌, refl}
use mathlib.Core.Bool.{true, cond, not, ◌&&◌}
use native.Mathlib.Omega.{arith}
use lib.Dec.{eqb, ltb}
use borrow.Author.Tests.{eqb-true, eqb-false, ltb-true, ltb-false}
use Rattle.basics.proofs.Bools.{choice, and_both}
use Rattle.slots.specs.Set.{mem, top}
use Rattle.cycle.specs.declared.Bus.{Bus}
use Rattle.cycle.specs.declared.Arbitration.{Arbitration}
use Rattle.cycle.specs.declared.Transfer.{Transfer}
use Rattle.cycle.specs.declared.Transfer.TheVariants.{Idle, Open}
use Rattle.cycle.specs.Arbitration.{attends, formed, parked, forming, waits, stays, leaves, starting, serving, arbitration_of}
use Rattle.cycle.specs.Runs.{Input, wants_in, holds_in, words_in}
use Rattle.cycle.proofs.RunLaws.{arb}

pub data Case (b : Bus) (i : Input) (r : Arbitration) : Type 0 where
  -- the wave was empty: all that want form it
  forms : b.wave ≡ 0 → r ≡ formed b (wants_in i) → Case b i r
  -- the wave was empty and the owner is parked
  parks : (o : ℕ) → b.wave ≡ 0 → b.transfer ≡ Idle → mem o (wants_in i) ≡ true → r ≡ parked o (wants_in i) → Case b i r
  -- the wave settles
  settles : (b.wave ≡ 0 → ⊥) → 0 < b.settling → r ≡ waits b (b.settling - 1) → Case b i r
  -- the wave waits for the open transfer
  holds_off : (b.wave ≡ 0 → ⊥) → b.settling ≡ 0 → (w a : ℕ) → b.transfer ≡ Open w a → r ≡ waits b 0 → Case b i r
  -- the highest member starts and stays
  repeats : (b.wave ≡ 0 → ⊥) → b.settling ≡ 0 → b.transfer ≡ Idle → b.turn + 1 < b.limit → r ≡ stays b (top b.wave) → Case b i r
  -- the highest member starts and leaves
  retires : (b.wave ≡ 0 → ⊥) → b.settling ≡ 0 → b.transfer ≡ Idle → r ≡ leaves b (top b.wave) → Case b i r

module _ (b : Bus) (i : Input) where
  view_start : (b.wave ≡ 0 → ⊥) → b.settling ≡ 0 → b.transfer ≡ Idle → Case b i (starting b (top b.wave) (wants_in i) (holds_in i) (words_in i))
  unfolding starting
  view_start n s t =
      let h = top b.wave in
      let x = mem h (holds_in i) && not (attends h (wants_in i) (words_in i)) in
      let y = ltb (b.turn + 1) b.limit in
      choice (Case b i) (x && y)
      (λ e. repeats n s t (ltb-true (b.turn + 1) b.limit (and_both x y e).1) refl)
      (λ e. retires n s t refl)

  view_serving : (b.wave ≡ 0 → ⊥) → b.settling ≡ 0 → (t : Transfer) → b.transfer ≡ t → Case b i (serving t b (wants_in i) (holds_in i) (words_in i))
  unfolding serving
  view_serving n s Idle e = view_start n s e
  view_serving n s (Open w a) e = holds_off n s w a e refl

  view_forming : b.wave ≡ 0 → (t : Transfer) → b.transfer ≡ t → (o : Option ℕ) → Case b i (forming t o b (wants_in i))
  unfolding forming
  view_forming z Idle e None = forms z refl
  view_forming z Idle e (Some o) = choice (Case b i) (mem o (wants_in i)) (λ m. parks o z e m refl) (λ m. forms z refl)
  view_forming z (Open w a) e o = forms z refl

  view_settling : (b.wave ≡ 0 → ⊥)
      → Case b i (cond (ltb 0 b.settling) (waits b (b.settling - 1)) (serving b.transfer b (wants_in i) (holds_in i) (words_in i)))
  view_settling n =
      choice (Case b i) (ltb 0 b.settling)
      (λ e. settles n (ltb-true _ _ e) refl)
      (λ e. view_serving n (let h : b.settling ≤ 0 = ltb-false _ _ e in omega arith) _ refl)

  pub view : Case b i (arb b i)
  unfolding arb arbitration_of
  view = choice (Case b i) (eqb b.wave 0) (λ e. view_forming (eqb-true _ _ e) _ refl _) (λ e. view_settling (eqb-false _ _ e))
