-- THE NUMBERS OF DEMAND 3 ARE REACHED, at every hold limit and by every slot: the slowest run reaches them all, from the cycle in which slot m,
-- parked, starts and the others form a wave. Assumes nothing.
use Prim.Native.Nat.{ℕ, ◌+◌, ◌-◌, ◌*◌, ◌<◌, ◌≤◌}
use mathlib.Core.Path.{◌≡◌, refl, ap}
use mathlib.Core.List.{List, [], ◌∷◌, ◌++◌}
use native.Mathlib.Omega.{arith}
use lib.ListN.{length}
use Rattle.basics.specs.Numbers.{transfer_most}
use Rattle.cycle.specs.declared.Bus.{Bus}
use Rattle.cycle.specs.State.{fresh}
use Rattle.cycle.specs.Waits.{pause_most}
use Rattle.cycle.specs.Runs.{Input, next, after, start_in, starters, count, ahead}
use Rattle.cycle.proofs.Shares.{share}
use Rattle.reached.specs.Reached.{PausesAfterStart, PausesAfterForming, Lasts, Sees, Waits}
use Rattle.reached.proofs.Slowest.{slow_in, slow_run, slow_length, slow_asks}
use Rattle.reached.proofs.Due.{due}
use Rattle.reached.proofs.Begins.{attention, attended, Begun, begins, members, fifteen, stage, due_begun, share_begun}
use Rattle.reached.proofs.Onward.{waits_out, lasts_on, pauses_on}

module _ (limit : ℕ) (h : 1 ≤ limit) (k : limit ≤ 16) where
  module _ (m : ℕ) (l : m < 16) where
    abbrev parked_bus : Bus
    parked_bus = after (fresh limit) (attention m l)

    abbrev first : Input
    first = slow_in parked_bus

    abbrev from : Bus
    from = next parked_bus first

    abbrev past : List Input
    past = attention m l ++ (first ∷ [])

    begun : Begun limit m (start_in parked_bus first) from
    begun = begins limit m h k l

    waited : let starts = starters from (slow_run (due m from) from) in (count m starts ≡ 0) × (ahead m starts ≡ share m from)
    waited = waits_out m l (due m from) from begun.sound (stage l begun) refl

    -- THE SHARE, by every slot
    pub sees : Sees limit m
    unfolding after
    sees =
        record {
          past = past;
          future = slow_run (due m from) from;
          asks = slow_asks m l (due m from) from;
          all = omega (arith, waited.1, share_begun l begun);
        }

    -- THE OWN START, one cycle less, by every slot
    pub waits : Waits limit m
    unfolding after
    waits =
        record {
          past = past;
          future = slow_run (due m from) from;
          asks = slow_asks m l (due m from) from;
          long = omega (arith, slow_length (due m from) from, due_begun l begun);
          none = waited.0;
        }

  -- slot 15 starts, and the others wait
  abbrev small : 15 < 16
  small = omega arith

  abbrev silence : List Input
  silence = slow_run transfer_most (from 15 small)

  silence_long : length silence + 1 ≡ pause_most
  silence_long = omega (arith, slow_length transfer_most (from 15 small))

  silent : starters (from 15 small) silence ≡ []
  silent =
      let r = begun 15 small in pauses_on transfer_most (from 15 small) r.sound (members small r) (omega (arith, r.far))

  -- THE PAUSE, one cycle less, after that START
  pub pauses_after-start : PausesAfterStart limit
  pauses_after-start =
      record {
        past = attention 15 small;
        i = first 15 small;
        future = silence;
        starter = 15;
        starts = (begun 15 small).starts;
        members = members small (begun 15 small);
        long = silence_long;
        none = silent;
      }

  -- and after the wave's forming, in the same cycle
  pub pauses_after-forming : PausesAfterForming limit
  pauses_after-forming =
      record {
        past = attention 15 small;
        i = first 15 small;
        future = silence;
        empty = ap (λ (b : Bus). b.wave) (attended limit 15 small);
        members = members small (begun 15 small);
        long = silence_long;
        none = silent;
      }

  -- THE WAVE'S END, one cycle less
  pub lasts : Lasts limit
  unfolding after
  lasts =
      let r = begun 15 small in
      let n = pause_most * (limit * 15) - 1 in
      record {
        past = past 15 small;
        future = slow_run n (from 15 small);
        long = rw (fifteen small r) (omega (arith, slow_length n (from 15 small)));
        lasts = lasts_on n (from 15 small) r.sound (stage small r) (omega (arith, due_begun small r));
      }
