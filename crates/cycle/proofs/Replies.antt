-- What a cycle answers in an attention cycle, to a stray event, to a finish, to a word and by the watchdog (`Answers` of specs/Pinned.antt). Assumes nothing.
use Rattle.std.specs.Prelude.{Option, Some, None}
use Prim.Native.Nat.{ℕ, ◌+◌, ◌-◌, ◌<◌, ◌≤◌}
use mathlib.Core.Path.{◌≡◌, refl}
use mathlib.Core.Bool.{true, false, cond, not, or-true}
use mathlib.Core.List.{List}
use mathlib.Core.Logic.{◌⊎◌, inl, inr}
use native.Mathlib.Omega.{arith}
use lib.ListN.{get_or}
use Rattle.slots.specs.Set.{mem}
use borrow.Author.Tests.{eq-eqb, ne_eqb, lt-ltb, le-ltb}
use Rattle.basics.specs.Numbers.{watchdog}
use Rattle.codes.specs.declared.Status.{Status}
use Rattle.codes.specs.declared.Status.TheVariants.{Timeout}
use Rattle.cycle.specs.declared.Bus.{Bus}
use Rattle.cycle.specs.declared.Event.{Event}
use Rattle.cycle.specs.declared.Event.TheVariants.{Nothing, Strobe, Finish}
use Rattle.cycle.specs.declared.Transfer.TheVariants.{Idle, Open}
use Rattle.cycle.specs.declared.Note.TheVariants.{Clear, Extra, Stray}
use Rattle.cycle.specs.Arbitration.{attends}
use Rattle.cycle.specs.Transfers.{opened, attention, stray_of, watched, struck, going_on, progress_of}
use Rattle.cycle.specs.Cycle.{starts_of, state_by, reply_by, moved_by, cycle_by, cycle_of}
use Rattle.cycle.specs.Nodes.{blank}
use Rattle.cycle.specs.Runs.{Input, wants_in, words_in, cycle_in, next, start_in}
use Rattle.cycle.specs.Pinned.{Answers}
use Rattle.cycle.proofs.NodeLaws.{wants_mean, words_mean}
use Rattle.cycle.proofs.RunLaws.{arb}
use Rattle.cycle.proofs.Alone.{alone}

-- the starter that the lines show is arbitration's
shown : (s : ℕ) (o : Option ℕ) → cond (starts_of o) o None ≡ Some s → o ≡ Some s
shown s None e = e
shown s (Some t) e = e

noted : (e : Event) → (e ≡ Nothing → ⊥) → stray_of e ≡ Stray
noted Nothing n = absurd (n refl)
noted Strobe n = refl
noted (Finish s) n = refl

-- nobody starts, so there is no attention cycle
unattended : (o : Option ℕ) (wants : ℕ) (words : List ℕ) → cond (starts_of o) o None ≡ None → attention o wants words ≡ false
unfolding attention
unattended None wants words e = refl
unattended (Some s) wants words e = absurd (let z : ◌≡◌ {A = ℕ} 0 1 = cc in omega arith)

module _ (b : Bus) (i : Input) where
  attending : (s : ℕ) → s < 16 → let n = get_or i.nodes s blank in (n.wants ≡ false) ⊎ (n.words ≡ 0) → attends s (wants_in i) (words_in i) ≡ true
  unfolding attends
  attending s l (inl w) = rw (wants_mean i.nodes s l, w)
  attending s l (inr w) = rw (words_mean i.nodes s l, w) (or-true (not (mem s (wants_in i))))

  attention_of : (s : ℕ) → s < 16 → start_in b i ≡ Some s → let n = get_or i.nodes s blank in (n.wants ≡ false) ⊎ (n.words ≡ 0)
      → let r = (cycle_in b i).reply in (r.ack ≡ true) × (r.status ≡ None) × ((next b i).transfer ≡ Idle)
  unfolding start_in next cycle_in cycle_of cycle_by moved_by state_by reply_by progress_of opened attention arb
  attention_of s l e w = rw (shown s (arb b i).starter e, alone b i s e, attending s l w) (refl, refl, refl)

  stray_of_lem : b.transfer ≡ Idle → (i.event ≡ Nothing → ⊥)
      → let r = (cycle_in b i).reply in (r.note ≡ Stray) × (start_in b i ≡ None → r.ack ≡ false) × (r.status ≡ None)
  unfolding start_in cycle_in cycle_of cycle_by moved_by reply_by progress_of arb
  stray_of_lem t n = rw t (noted i.event n, λ e. unattended _ _ _ e, refl)

  finish_of_lem : (owed age : ℕ) (s : Status) → b.transfer ≡ Open owed age → i.event ≡ Finish s
      → let r = (cycle_in b i).reply in (r.ack ≡ true) × (r.status ≡ Some s) × ((next b i).transfer ≡ Idle)
  unfolding next cycle_in cycle_of cycle_by moved_by state_by reply_by progress_of going_on
  finish_of_lem owed age s t e = rw (t, e) (refl, refl, refl)

  word_of : (owed age : ℕ) → b.transfer ≡ Open owed age → 1 < owed → i.event ≡ Strobe
      → let r = (cycle_in b i).reply in (r.ack ≡ false) × (r.note ≡ Clear) × ((next b i).transfer ≡ Open (owed - 1) 0)
  unfolding next cycle_in cycle_of cycle_by moved_by state_by reply_by progress_of going_on struck
  word_of owed age t l e = rw (t, e, lt-ltb 1 owed l) (refl, refl, refl)

  extra_of : (owed age : ℕ) → b.transfer ≡ Open owed age → (age + 1 ≡ watchdog → ⊥) → owed ≤ 1 → i.event ≡ Strobe
      → let r = (cycle_in b i).reply in (r.ack ≡ false) × (r.note ≡ Extra) × ((next b i).transfer ≡ Open owed (age + 1))
  unfolding next cycle_in cycle_of cycle_by moved_by state_by reply_by progress_of going_on struck watched
  extra_of owed age t n l e = rw (t, e, le-ltb 1 owed l, ne_eqb (age + 1) watchdog n) (refl, refl, refl)

  timer_of : (owed age : ℕ) → b.transfer ≡ Open owed age → age + 1 ≡ watchdog → (i.event ≡ Nothing) ⊎ ((i.event ≡ Strobe) × (owed ≤ 1))
      → let r = (cycle_in b i).reply in (r.ack ≡ true) × (r.status ≡ Some Timeout) × (r.note ≡ Clear) × ((next b i).transfer ≡ Idle)
  unfolding next cycle_in cycle_of cycle_by moved_by state_by reply_by progress_of going_on struck watched
  timer_of owed age t q (inl e) = rw (t, e, eq-eqb (age + 1) watchdog q) (refl, refl, refl, refl)
  timer_of owed age t q (inr e) = rw (t, e.0, le-ltb 1 owed e.1, eq-eqb (age + 1) watchdog q) (refl, refl, refl, refl)

  pub answers : Answers b i
  answers = record { attention = attention_of; stray = stray_of_lem; finish = finish_of_lem; word = word_of; extra = extra_of; timer = timer_of }
