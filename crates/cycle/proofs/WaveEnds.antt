-- A wave is over within the longest pause for each START that its members may make. Assumes nothing.
use Prim.Native.Nat.{ℕ, suc, ◌+◌, ◌-◌, ◌*◌, ◌<◌, ◌≤◌}
use mathlib.Core.Path.{◌≡◌, refl, ap}
use mathlib.Core.Bool.{Bool, true, false, cond}
use mathlib.Core.List.{List, [], ◌∷◌}
use native.Mathlib.Omega.{arith}
use native.Mathlib.Decide.{ℕ_discrete}
use lib.ListN.{length}
use lib.Dec.{eqb}
use borrow.Author.Tests.{eq-eqb, eqb-false}
use Rattle.basics.specs.Numbers.{transfer_most}
use Rattle.slots.specs.Set.{without, top, card}
use Rattle.cycle.specs.declared.Bus.{Bus}
use Rattle.cycle.specs.declared.Arbitration.{Arbitration}
use Rattle.cycle.specs.Arbitration.{waits, stays, leaves}
use Rattle.cycle.specs.Cycle.{cycle_of, cycle_by, moved_by, state_by}
use Rattle.cycle.specs.Runs.{Input, cycle_in, next, over_in}
use Rattle.cycle.specs.Waits.{pause_most}
use Rattle.cycle.proofs.RunLaws.{arb, next_by}
use Rattle.cycle.proofs.View.{Case, forms, parks, settles, holds_off, repeats, retires, view}
use Rattle.cycle.proofs.WaveSets.{card-top}
use Rattle.cycle.proofs.Bounds.{Sound}
use Rattle.cycle.proofs.Nearer.{wait, wait_most, nearer_settles, nearer_waits}
use Rattle.cycle.proofs.Sound.{sound_by}

-- the STARTs that a wave may still see, at most
unfoldable pub remaining : Bus → ℕ
remaining b = b.limit * card b.wave - b.turn

room : (b : Bus) → Sound b → (b.wave ≡ 0 → ⊥) → b.limit * card b.wave ≡ b.limit * card (without (top b.wave) b.wave) + b.limit
room b s n = rw (card-top b.wave s.slots n) (omega arith)

fewer_stays : (b : Bus) (i : Input) → Sound b → (b.wave ≡ 0 → ⊥) → b.turn + 1 < b.limit → suc (remaining (next_by b i (stays b (top b.wave)))) ≤ remaining b
unfolding remaining next_by cycle_by moved_by state_by
fewer_stays b i s n u = omega (arith, room b s n)

fewer_leaves : (b : Bus) (i : Input) → Sound b → (b.wave ≡ 0 → ⊥) → suc (remaining (next_by b i (leaves b (top b.wave)))) ≤ remaining b
unfolding remaining next_by cycle_by moved_by state_by leaves
fewer_leaves b i s n = omega (arith, room b s n, s.turns)

fewer_one : (b : Bus) → Sound b → (b.wave ≡ 0 → ⊥) → 1 ≤ remaining b
unfolding remaining
fewer_one b s n = omega (arith, room b s n, s.turns)

same_remaining : (b : Bus) (i : Input) (n : ℕ) → remaining (next_by b i (waits b n)) ≡ remaining b
unfolding remaining next_by cycle_by moved_by state_by
same_remaining b i n = refl

over_by : (b : Bus) (i : Input) (is : List Input) (r : Arbitration) → Sound b → Case b i r → (b.wave ≡ 0 → ⊥) → wait b + pause_most * remaining b ≤ suc (length is) + transfer_most
    → ((b' : Bus) → Sound b' → wait b' + pause_most * remaining b' ≤ length is + transfer_most → over_in b' is ≡ true)
    → over_in (next_by b i r) is ≡ true
over_by b i is r s (forms z e) n h f = absurd (n z)
over_by b i is r s (parks o z t m e) n h f = absurd (n z)
over_by b i is r s (settles n' l e) n h f =
    rw e
    (f (next_by b i (waits b (b.settling - 1))) (sound_by b i _ s (settles n' l refl))
    (omega (arith, nearer_settles b i s l, same_remaining b i (b.settling - 1))))
over_by b i is r s (holds_off n' l w a t e) n h f =
    rw e
    (f (next_by b i (waits b 0)) (sound_by b i _ s (holds_off n' l w a t refl))
    (omega (arith, nearer_waits b i w a s l t, same_remaining b i 0)))
over_by b i is r s (repeats n' l t u e) n h f =
    let s' = sound_by b i (stays b (top b.wave)) s (repeats n' l t u refl) in
    rw e
    (f (next_by b i (stays b (top b.wave))) s'
    (omega (arith, wait_most (next_by b i (stays b (top b.wave))) s', fewer_stays b i s n u)))
over_by b i is r s (retires n' l t e) n h f =
    let s' = sound_by b i (leaves b (top b.wave)) s (retires n' l t refl) in
    rw e
    (f (next_by b i (leaves b (top b.wave))) s'
    (omega (arith, wait_most (next_by b i (leaves b (top b.wave))) s', fewer_leaves b i s n)))

pub over_of : (is : List Input) (b : Bus) → Sound b → wait b + pause_most * remaining b ≤ length is + transfer_most → over_in b is ≡ true
unfolding over_in next cycle_in cycle_of next_by arb
over_of [] b s h = go (ℕ_discrete b.wave 0)
  where
    go : Dec (b.wave ≡ 0) → eqb b.wave 0 ≡ true
    go (yes z) = eq-eqb _ _ z
    go (no n) = absurd (omega (arith, fewer_one b s n))
over_of (i ∷ is) b s h = go (eqb b.wave 0) refl (λ b' s' h'. over_of is b' s' h')
  where
    go : (c : Bool) → eqb b.wave 0 ≡ c → ((b' : Bus) → Sound b' → wait b' + pause_most * remaining b' ≤ length is + transfer_most → over_in b' is ≡ true)
        → cond c true (over_in (next b i) is) ≡ true
    go true e f = refl
    go false e f = over_by b i is (arb b i) s (view b i) (eqb-false _ _ e) h f

pub remaining_most : (limit : ℕ) (b : Bus) → b.limit ≡ limit → remaining b ≤ limit * card b.wave
unfolding remaining
remaining_most limit b e = omega (arith, ap (λ (n : ℕ). n * card b.wave) e)
