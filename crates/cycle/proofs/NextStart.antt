-- While a wave has members, its next START comes within the longest pause. Assumes nothing.
use Prim.Native.Nat.{suc, ◌-◌, ◌<◌}
use mathlib.Core.Path.{◌≡◌, refl}
use mathlib.Core.List.{List, [], ◌∷◌}
use native.Mathlib.Omega.{arith}
use lib.ListN.{length}
use Rattle.cycle.specs.declared.Bus.{Bus}
use Rattle.cycle.specs.declared.Arbitration.{Arbitration}
use Rattle.cycle.specs.Arbitration.{waits, leaves}
use Rattle.cycle.specs.Cycle.{cycle_of, cycle_by, moved_by, state_by, reply_by}
use Rattle.cycle.specs.Runs.{Input, cycle_in, next, start_in, and_then, starters}
use Rattle.cycle.proofs.RunLaws.{arb, next_by, shown_by}
use Rattle.cycle.proofs.View.{Case, forms, parks, settles, holds_off, repeats, retires, view}
use Rattle.cycle.proofs.Bounds.{Sound}
use Rattle.cycle.proofs.Nearer.{wait, nearer_settles, nearer_waits}
use Rattle.cycle.proofs.Sound.{sound_by}

within_step : (b : Bus) (i : Input) (is : List Input) (r : Arbitration) → Sound b → Case b i r → (b.wave ≡ 0 → ⊥) → wait b < suc (length is)
    → ((b' : Bus) → Sound b' → (b'.wave ≡ 0 → ⊥) → wait b' < length is → 0 < length (starters b' is))
    → 0 < length (and_then (shown_by b i r) (starters (next_by b i r) is))
unfolding leaves and_then next_by shown_by cycle_by moved_by state_by reply_by
within_step b i is r s (forms z e) n h f = absurd (n z)
within_step b i is r s (parks o z t m e) n h f = absurd (n z)
within_step b i is r s (settles n' l e) n h f =
    rw e (f (next_by b i (waits b (b.settling - 1))) (sound_by b i _ s (settles n' l refl)) n (omega (arith, nearer_settles b i s l)))
within_step b i is r s (holds_off n' l w a t e) n h f =
    rw e (f (next_by b i (waits b 0)) (sound_by b i _ s (holds_off n' l w a t refl)) n (omega (arith, nearer_waits b i w a s l t)))
within_step b i is r s (repeats n' l t u e) n h f = rw e (omega arith)
within_step b i is r s (retires n' l t e) n h f = rw e (omega arith)

pub within : (is : List Input) (b : Bus) → Sound b → (b.wave ≡ 0 → ⊥) → wait b < length is → 0 < length (starters b is)
unfolding starters next start_in cycle_in cycle_of next_by shown_by arb
within [] b s n h = absurd (omega arith)
within (i ∷ is) b s n h = within_step b i is (arb b i) s (view b i) n h (λ b' s' n' h'. within is b' s' n' h')
