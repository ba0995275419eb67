-- The slowest run: all ask and hold, with sixteen words, and the slave strobes in the watchdog's last cycle, so that each START comes as late as
-- it can. Assumes nothing.
use Rattle.std.specs.Prelude.{Some, None}
use Prim.Native.Nat.{ℕ, zero, suc, ◌+◌, ◌-◌, ◌*◌, ◌<◌, ◌≤◌}
use mathlib.Core.Path.{◌≡◌, refl, sym, ap, ◌∙◌}
use mathlib.Core.Bool.{Bool, true, false, cond, not, ◌&&◌, and-false}
use mathlib.Core.List.{List, [], ◌∷◌}
use native.Mathlib.Omega.{arith}
use lib.ListN.{length, get_or}
use lib.Dec.{eqb, ltb}
use borrow.Author.Tests.{eq-eqb, ne_eqb, lt-ltb, le-ltb, eqb-true, ltb-true, ltb-false}
use Rattle.basics.specs.Numbers.{watchdog}
use Rattle.basics.proofs.Bools.{choice, by-test, cond-false}
use Rattle.slots.specs.Set.{mem, top}
use Rattle.cycle.specs.declared.Bus.{Bus}
use Rattle.cycle.specs.declared.Arbitration.{Arbitration}
use Rattle.cycle.specs.declared.Event.{Event}
use Rattle.cycle.specs.declared.Event.TheVariants.{Nothing, Strobe}
use Rattle.cycle.specs.declared.Transfer.{Transfer}
use Rattle.cycle.specs.declared.Transfer.TheVariants.{Idle, Open}
use Rattle.cycle.specs.declared.Note.TheVariants.{Clear}
use Rattle.cycle.specs.Bounds.{lawful_word}
use Rattle.cycle.specs.Arbitration.{attends, formed, parked, forming, waits, stays, leaves, starting, serving, arbitration_of}
use Rattle.cycle.specs.Transfers.{expires, opened, watched, struck, going_on, progress_of}
use Rattle.cycle.specs.Cycle.{state_by, moved_by, cycle_by}
use Rattle.cycle.specs.Runs.{Input, wants_in, holds_in, words_in, next, start_in, Still, is_slot, Asks}
use Rattle.reached.proofs.Inputs.{everyone, all_in, full, full-asks, full-holds, full-words, full_wants, full-attends}
use Rattle.cycle.proofs.RunLaws.{arb, next_by}
use Rattle.cycle.proofs.View.{Case, forms, parks, settles, holds_off, repeats, retires, view}
use Rattle.cycle.proofs.WaveSets.{highest}
use Rattle.cycle.proofs.Bounds.{Sound, TransferIn, left}
use Rattle.cycle.proofs.Nearer.{wait}

-- a strobe in the 256th cycle, and nothing before: it takes the owed word, or comes with the timer
unfoldable pub dawdling : Transfer → Event
dawdling Idle = Nothing
dawdling (Open owed age) = cond (expires age) Strobe Nothing

-- slot 0 is alone in the wave, at the last START of its turn
unfoldable pub closes : Bus → Bool
closes b = eqb b.wave 1 && not (ltb (b.turn + 1) b.limit)

-- that START is an attention cycle, so that slot 0 is parked and starts once more; every other one opens a transfer of sixteen words
unfoldable pub words_at : Bus → ℕ
words_at b = cond (closes b) 0 16

pub words-lawful : (b : Bus) → lawful_word (words_at b) ≡ true
unfolding words_at lawful_word
words-lawful b = choice (λ n. lawful_word n ≡ true) (closes b) (λ e. refl) (λ e. refl)

unfoldable pub slow_in : Bus → Input
slow_in b = full (dawdling b.transfer) (words_at b) (words-lawful b)

unfoldable pub slow_run : ℕ → Bus → List Input
slow_run zero b = []
slow_run (suc n) b = slow_in b ∷ slow_run n (next b (slow_in b))

pub slow_length : (n : ℕ) (b : Bus) → length (slow_run n b) ≡ n
unfolding slow_run
slow_length zero b = refl
slow_length (suc n) b = ap suc (slow_length n (next b (slow_in b)))

-- each slot asks in every cycle
pub slow_asks : (m : ℕ) → m < 16 → (n : ℕ) (b : Bus) → Asks m b (slow_run n b)
unfolding slow_run slow_in
slow_asks m l zero b = tt
slow_asks m l (suc n) b = (full-asks _ _ _ m l, go (is_slot m (start_in b (slow_in b))) (slow_asks m l n (next b (slow_in b))))
  where
    go : (c : Bool) {X : Type 0} → X → Still c X
    go true x = tt
    go false x = x

-- ---- the transfer
-- with no START an open transfer comes one cycle nearer its end, and no more
dawdles : (t : Transfer) (wants : ℕ) (words : List ℕ) → TransferIn t → left (progress_of t (dawdling t) None wants words).transfer ≡ left t - 1
unfolding progress_of opened dawdling going_on struck watched left
dawdles Idle wants words h = omega arith
dawdles (Open w a) wants words h = by-test (expires a) (λ e. rw e (fires e)) (λ e. rw e (passes e))
  where
    passes : expires a ≡ false → left (watched w a Clear).transfer ≡ watchdog * w - a - 1
    passes e = rw e (omega arith)

    fires : expires a ≡ true → left (struck w a).transfer ≡ watchdog * w - a - 1
    fires e =
        let q : a + 1 ≡ watchdog = eqb-true (a + 1) watchdog e in
        by-test (ltb 1 w) (λ f. rw f (omega (arith, ltb-true 1 w f))) (λ f. rw (f, e) (omega (arith, ltb-false 1 w f)))

-- with no START
pub elapses : (b : Bus) (a : Arbitration) → Sound b → a.starter ≡ None → left (next_by b (slow_in b) a).transfer ≡ left b.transfer - 1
unfolding next_by cycle_by moved_by state_by slow_in full
elapses b a s e = rw e (dawdles b.transfer (wants_in (slow_in b)) (words_in (slow_in b)) s.aging)

-- what may last no longer is idle
pub idle_at : (b : Bus) → Sound b → wait b ≡ 0 → b.transfer ≡ Idle
unfolding wait left
idle_at b s h = go b.transfer s.aging (omega arith)
  where
    go : (t : Transfer) → TransferIn t → left t ≡ 0 → t ≡ Idle
    go Idle a z = refl
    go (Open w a) k z = absurd (omega (arith, k.0, k.2))

-- ---- what comes in
module _ (b : Bus) where
  pub closing : b.wave ≡ 1 → b.limit ≤ b.turn + 1 → closes b ≡ true
  unfolding closes
  closing e u = rw (eq-eqb b.wave 1 e, le-ltb (b.turn + 1) b.limit u)

  pub not-alone : (b.wave ≡ 1 → ⊥) → closes b ≡ false
  unfolding closes
  not-alone d = rw (ne_eqb b.wave 1 d)

  pub not_yet : b.turn + 1 < b.limit → closes b ≡ false
  unfolding closes
  not_yet u = rw (lt-ltb (b.turn + 1) b.limit u, and-false)

  wants_slow : wants_in (slow_in b) ≡ everyone
  unfolding slow_in
  wants_slow = full_wants _ _ _

  module _ (s : ℕ) (l : s < 16) where
    holds_slow : mem s (holds_in (slow_in b)) ≡ true
    unfolding slow_in
    holds_slow = full-holds _ _ _ s l

    words_slow : closes b ≡ false → get_or (words_in (slow_in b)) s 0 ≡ 16
    unfolding slow_in words_at
    words_slow c = full-words _ _ _ s l ∙ cond-false 0 16 c

    attends_slow : attends s (wants_in (slow_in b)) (words_in (slow_in b)) ≡ closes b
    unfolding slow_in words_at
    attends_slow = full-attends _ _ _ s l ∙ choice (λ n. eqb n 0 ≡ closes b) (closes b) (λ e. sym e) (λ e. sym e)

-- a START of s where arbitration comes to a
module _ (b : Bus) (a : Arbitration) (s : ℕ) (l : s < 16) (t : b.transfer ≡ Idle) (e : a.starter ≡ Some s) where
  started : (next_by b (slow_in b) a).transfer ≡ cond (closes b) Idle (Open (get_or (words_in (slow_in b)) s 0) 0)
  unfolding next_by cycle_by moved_by state_by progress_of opened
  started =
      ap (λ (x : Transfer). (progress_of x (slow_in b).event a.starter (wants_in (slow_in b)) (words_in (slow_in b))).transfer) t
      ∙ rw (e, attends_slow b s l)

  pub opening : closes b ≡ false → (next_by b (slow_in b) a).transfer ≡ Open 16 0
  opening c = started ∙ rw (c, words_slow b s l c)

  pub attending : closes b ≡ true → (next_by b (slow_in b) a).transfer ≡ Idle
  attending c = started ∙ rw c

-- ---- a wave with members
module _ (b : Bus) (s : Sound b) (n : b.wave ≡ 0 → ⊥) where
  -- it waits
  pub waits_on : (i : Input) → 0 < wait b → arb b i ≡ waits b (b.settling - 1)
  unfolding wait left
  waits_on i h = go (arb b i) (view b i)
    where
      go : (r : Arbitration) → Case b i r → r ≡ waits b (b.settling - 1)
      go r (forms z e) = absurd (n z)
      go r (parks o z t m e) = absurd (n z)
      go r (settles n' l e) = e
      go r (holds_off n' l w a t e) = e ∙ ap (λ (k : ℕ). waits b k) (omega arith)
      go r (repeats n' l t u e) = absurd (let g = rw t at h in omega arith)
      go r (retires n' l t e) = absurd (let g = rw t at h in omega arith)

  pub wait_falls : 0 < wait b → suc (wait (next_by b (slow_in b) (waits b (b.settling - 1)))) ≡ wait b
  unfolding wait next_by cycle_by moved_by state_by
  wait_falls h = omega (arith, elapses b (waits b (b.settling - 1)) s refl)

  -- its highest member starts
  starts_now : (i : Input) → wait b ≡ 0 → arb b i ≡ starting b (top b.wave) (wants_in i) (holds_in i) (words_in i)
  unfolding arb arbitration_of serving wait
  starts_now i h = rw (ne_eqb b.wave 0 n, idle_at b s h, le-ltb 0 b.settling (omega arith))

  small : top b.wave < 16
  small = (highest b.wave s.slots n).small

  -- and stays below its limit, and leaves at it
  pub again : wait b ≡ 0 → b.turn + 1 < b.limit → arb b (slow_in b) ≡ stays b (top b.wave)
  unfolding starting
  again h u = starts_now (slow_in b) h
      ∙ rw (lt-ltb (b.turn + 1) b.limit u, holds_slow b (top b.wave) small, attends_slow b (top b.wave) small, not_yet b u)

  pub lastly : wait b ≡ 0 → b.limit ≤ b.turn + 1 → arb b (slow_in b) ≡ leaves b (top b.wave)
  unfolding starting
  lastly h u = starts_now (slow_in b) h ∙ rw (le-ltb (b.turn + 1) b.limit u, and-false)

-- ---- an empty wave
module _ (b : Bus) (z : b.wave ≡ 0) where
  parks_by : (i : Input) (o : ℕ) → b.transfer ≡ Idle → b.owner ≡ Some o → mem o (wants_in i) ≡ true → arb b i ≡ parked o (wants_in i)
  unfolding arb arbitration_of forming
  parks_by i o t e h = rw (eq-eqb b.wave 0 z, t, e, h)

  forms_by : (i : Input) (w a : ℕ) → b.transfer ≡ Open w a → arb b i ≡ formed b (wants_in i)
  unfolding arb arbitration_of forming
  forms_by i w a t = rw (eq-eqb b.wave 0 z, t)

  -- its owner is parked and starts, and the others form a wave
  pub parks_now : (o : ℕ) → o < 16 → b.transfer ≡ Idle → b.owner ≡ Some o → arb b (slow_in b) ≡ parked o everyone
  parks_now o l t e =
      parks_by (slow_in b) o t e (ap (mem o) (wants_slow b) ∙ all_in o l) ∙ ap (parked o) (wants_slow b)

  -- all form a wave
  pub forms_now : (w a : ℕ) → b.transfer ≡ Open w a → arb b (slow_in b) ≡ formed b everyone
  forms_now w a t = forms_by (slow_in b) w a t ∙ ap (formed b) (wants_slow b)
