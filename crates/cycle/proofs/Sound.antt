-- Every state of a run is within the bounds, so that no call of it is refused for its state. Assumes nothing.
use Rattle.std.specs.Prelude.{Option, Some, None}
use Prim.Native.Nat.{ℕ, ◌≤◌}
use mathlib.Core.Path.{◌≡◌, refl, sym, subst}
use mathlib.Core.Bool.{true}
use mathlib.Core.List.{List, [], ◌∷◌}
use native.Mathlib.Omega.{arith}
use lib.Dec.{eqb}
use borrow.Author.Tests.{eq-eqb, eqb-true, lt-ltb, le-leb}
use Rattle.basics.proofs.Bools.{choice, by-test}
use Rattle.slots.specs.Set.{without, top}
use Rattle.slots.proofs.MemberLaws.{without-le, mem-small}
use Rattle.cycle.specs.declared.Bus.{Bus}
use Rattle.cycle.specs.declared.Arbitration.{Arbitration}
use Rattle.cycle.specs.declared.Transfer.{Transfer}
use Rattle.cycle.specs.declared.Transfer.TheVariants.{Idle, Open}
use Rattle.cycle.specs.State.{fresh}
use Rattle.basics.specs.Numbers.{lawful_limit}
use Rattle.cycle.specs.Bounds.{lawful_counts, lawful_owner, lawful_transfer, lawful_rest, in_bounds}
use Rattle.cycle.specs.Arbitration.{settled_at, formed, parked, leaves}
use Rattle.cycle.specs.Cycle.{state_by, moved_by, cycle_by, cycle_of}
use Rattle.cycle.specs.Runs.{Input, wants_in, cycle_in, next, after}
use Rattle.cycle.proofs.RunLaws.{arb, next_by, wants_small}
use Rattle.cycle.proofs.View.{Case, forms, parks, settles, holds_off, repeats, retires, view}
use Rattle.cycle.proofs.WaveSets.{highest}
use Rattle.cycle.proofs.Bounds.{Sound, OwnerIn, TransferIn, progress_in}

settled-le : (n w : ℕ) → n ≤ 2 → settled_at n w ≤ 2
settled-le n w h = choice (λ (m : ℕ). m ≤ 2) (eqb w 0) (λ e. omega arith) (λ e. h)

settled-zero : (n w : ℕ) → w ≡ 0 → settled_at n w ≡ 0
settled-zero n w z = rw (eq-eqb w 0 z)

from : (b : Bus) (i : Input) {r a : Arbitration} → r ≡ a → Sound (next_by b i a) → Sound (next_by b i r)
from b i e s = subst (λ (a : Arbitration). Sound (next_by b i a)) (sym e) s

-- the bounds hold through every cycle
pub sound_by : (b : Bus) (i : Input) (r : Arbitration) → Sound b → Case b i r → Sound (next_by b i r)
unfolding next_by cycle_by moved_by state_by formed parked leaves
sound_by b i r s (forms z e) =
    from b i e
    (record {
      slots = wants_small i;
      settled = settled-le 1 (wants_in i) (omega arith);
      turns = omega (arith, s.turns);
      limited = s.limited;
      owned = s.owned;
      aging = progress_in _ i.event None _ _ s.aging tt i.lawful;
      rest = λ q. refl;
      still = λ q. settled-zero 1 (wants_in i) q;
    })
sound_by b i r s (parks o z t m e) =
    let l = mem-small o (wants_in i) (wants_small i) m in
    from b i e
    (record {
      slots = omega (arith, without-le o (wants_in i), wants_small i);
      settled = settled-le 1 (without o (wants_in i)) (omega arith);
      turns = omega (arith, s.turns);
      limited = s.limited;
      owned = l;
      aging = progress_in _ i.event (Some o) _ _ s.aging l i.lawful;
      rest = λ q. refl;
      still = λ q. settled-zero 1 (without o (wants_in i)) q;
    })
sound_by b i r s (settles n l e) =
    from b i e
    (record {
      slots = s.slots;
      settled = omega (arith, s.settled);
      turns = s.turns;
      limited = s.limited;
      owned = s.owned;
      aging = progress_in _ i.event None _ _ s.aging tt i.lawful;
      rest = s.rest;
      still = λ q. absurd (n q);
    })
sound_by b i r s (holds_off n l w a t e) =
    from b i e
    (record {
      slots = s.slots;
      settled = omega arith;
      turns = s.turns;
      limited = s.limited;
      owned = s.owned;
      aging = progress_in _ i.event None _ _ s.aging tt i.lawful;
      rest = s.rest;
      still = λ q. refl;
    })
sound_by b i r s (repeats n l t u e) =
    let h = (highest b.wave s.slots n).small in
    from b i e
    (record {
      slots = s.slots;
      settled = omega arith;
      turns = u;
      limited = s.limited;
      owned = h;
      aging = progress_in _ i.event (Some (top b.wave)) _ _ s.aging h i.lawful;
      rest = λ q. absurd (n q);
      still = λ q. absurd (n q);
    })
sound_by b i r s (retires n l t e) =
    let h = (highest b.wave s.slots n).small in
    from b i e
    (record {
      slots = omega (arith, without-le (top b.wave) b.wave, s.slots);
      settled = settled-le 2 (without (top b.wave) b.wave) (omega arith);
      turns = omega (arith, s.turns);
      limited = s.limited;
      owned = h;
      aging = progress_in _ i.event (Some (top b.wave)) _ _ s.aging h i.lawful;
      rest = λ q. refl;
      still = λ q. settled-zero 2 (without (top b.wave) b.wave) q;
    })

-- a cycle goes by what its arbitration comes to
pub next_is : (b : Bus) (i : Input) → next b i ≡ next_by b i (arb b i)
unfolding next cycle_in cycle_of next_by arb
next_is b i = refl

pub sound-next : (b : Bus) (i : Input) → Sound b → Sound (next b i)
sound-next b i s = rw (next_is b i) (sound_by b i (arb b i) s (view b i))

pub sound-after : (is : List Input) (b : Bus) → Sound b → Sound (after b is)
unfolding after
sound-after [] b s = s
sound-after (i ∷ is) b s = sound-after is (next b i) (sound-next b i s)

pub sound-fresh : (limit : ℕ) → 1 ≤ limit → limit ≤ 16 → Sound (fresh limit)
sound-fresh limit h k =
    record {
      slots = omega arith;
      settled = omega arith;
      turns = h;
      limited = k;
      owned = tt;
      aging = tt;
      rest = λ q. refl;
      still = λ q. refl;
    }

-- from the bounds to the test that a call makes
owner-lawful : (o : Option ℕ) → OwnerIn o → lawful_owner o ≡ true
unfolding lawful_owner
owner-lawful None h = refl
owner-lawful (Some s) h = lt-ltb s 16 h

transfer-lawful : (t : Transfer) → TransferIn t → lawful_transfer t ≡ true
unfolding lawful_transfer
transfer-lawful Idle h = refl
transfer-lawful (Open w a) h = rw (le-leb 1 w h.0, le-leb w 16 h.1)

rest-lawful : (b : Bus) → Sound b → lawful_rest b.wave b.settling b.turn ≡ true
unfolding lawful_rest
rest-lawful b s =
    by-test (eqb b.wave 0)
    (λ e. let z = eqb-true b.wave 0 e in rw (e, eq-eqb b.settling 0 (s.still z), eq-eqb b.turn 0 (s.rest z)))
    (λ e. rw e)

pub limit-lawful : (limit : ℕ) → 1 ≤ limit → limit ≤ 16 → lawful_limit limit ≡ true
limit-lawful limit h k = rw (le-leb 1 limit h, le-leb limit 16 k)

pub bounds_lawful : (b : Bus) → Sound b → in_bounds b ≡ true
unfolding in_bounds lawful_counts
bounds_lawful b s =
    rw (limit-lawful b.limit (omega (arith, s.turns)) s.limited, le-leb b.settling 2 s.settled, lt-ltb b.turn b.limit s.turns, owner-lawful b.owner s.owned, transfer-lawful b.transfer s.aging, rest-lawful b s)
