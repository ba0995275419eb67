-- Each entry is that of its slot in the recording, record by record. Assumes nothing.
use Prim.Native.Nat.{ℕ, zero, suc, ◌+◌, ◌≤◌}
use mathlib.Core.Bool.{Bool, true, false, not, cond}
use mathlib.Core.List.{List, [], ◌∷◌}
use mathlib.Core.Path.{◌≡◌, refl, sym, subst, ◌∙◌}
use native.Mathlib.Omega.{arith}
use lib.ListN.{length, get_or, replicate, length-replicate}
use lib.Dec.{eqb}
use borrow.Author.Tests.{eqb-true, eqb-false, not-true}
use Rattle.basics.specs.Lines.{one}
use Rattle.basics.proofs.Bools.{by-test, and_both, cond-false}
use Rattle.entries.specs.declared.Entry.{Entry}
use Rattle.entries.specs.Entries.{zero_entry}
use Rattle.rules.specs.declared.Judge.{Judge}
use Rattle.rules.specs.declared.Tally.{Tally}
use Rattle.rules.specs.Recording.{Lines, Recording, recording_in, sixteen, gap}
use Rattle.rules.specs.Run.{Taken, rule_of, records_in}
use Rattle.rules.specs.State.{is_open, diff_of, judge_of, tally_of, fresh_judge, zero_tally}
use Rattle.rules.specs.Thirteen.{from_third, AllKept, Keeps, Rule8a}
use Rattle.rules.specs.Totals.{Number, none, more, other}
use Rattle.rules.proofs.Laws.{arb-le}
use Rattle.rules.proofs.Places.{clash}
use Rattle.rules.proofs.Ride.{Forward}
use Rattle.rules.proofs.Step.{taken_at, JudgeIs, forward_to}
use Rattle.rules.proofs.Reach.{Before, before-fresh, before-next, Listed, listed, length-records}
use Rattle.rules.proofs.Exactly.{number-only}
use Rattle.usage.specs.Using.{StartOf, Busy, cycles_of, Used, UsedBy}
use Rattle.usage.specs.Charge.{none_used, starts_in, charged_to, busy_in, charged, next_judge, Passes, account_of}
use Rattle.usage.proofs.Starting.{start-only, start-starts, starts_in_lem, starter, charged-most, Carries, carries-next}
use Rattle.usage.proofs.BusyCycles.{Alone, busy-next, closes}
use Rattle.usage.proofs.Running.{added_at_lem, charged-length}

-- ---- what a record keeps that breaks no rule
-- of rules 4 and 8a, where it has no RESET
later-kept : (limit : ℕ) (r : Recording) (i : ℕ) → Keeps limit r i → (r.lines i).reset ≡ false → AllKept (from_third limit r.lines i)
later-kept limit r i k nr = subst (λ (b : Bool). AllKept (cond b [] (from_third limit r.lines i))) nr k.1.1

pub kept-alone : (limit : ℕ) (r : Recording) (i : ℕ) → Keeps limit r i → Alone r.lines i
kept-alone limit r i k nr = (later-kept limit r i k nr).1.0

kept-parked : (limit : ℕ) (r : Recording) (i : ℕ) → Keeps limit r i → (r.lines i).reset ≡ false → Rule8a r.lines i
kept-parked limit r i k nr = (later-kept limit r i k nr).1.1.1.1.1.0

-- ---- one slot's entry
starts-next : (r : Lines) (i s c slot : ℕ) → (starts_in (r i) ≡ true → StartOf r slot i) → Number (StartOf r s) i c → Number (StartOf r s) (suc i) (c + cond (eqb slot s) (one (starts_in (r i))) 0)
starts-next r i s c slot starting h =
    by-test (starts_in (r i))
    (λ e. let a = starting e in
    by-test (eqb slot s)
    (λ b. let z : c + 1 ≡ c + cond (eqb slot s) (one (starts_in (r i))) 0 = rw (e, b) in
    subst (Number (StartOf r s) (suc i)) z (more (subst (λ k. StartOf r k i) (eqb-true slot s b) a) h))
    (λ b. let y : cond (eqb slot s) (one (starts_in (r i))) 0 ≡ 0 = cond-false (one (starts_in (r i))) 0 b in
    let z : c ≡ c + cond (eqb slot s) (one (starts_in (r i))) 0 = omega arith in
    subst (Number (StartOf r s) (suc i)) z (other (λ q. eqb-false slot s b (start-only r i slot s a q)) h)))
    (λ e. let y : cond (eqb slot s) (one (starts_in (r i))) 0 ≡ 0 = rw e (nought (eqb slot s)) in
    let z : c ≡ c + cond (eqb slot s) (one (starts_in (r i))) 0 = omega arith in
    subst (Number (StartOf r s) (suc i)) z (other (λ q. let u = start-starts r i s q in clash (starts_in_lem r i u.active u.alive) e) h))
  where
    nought : (b : Bool) → ◌≡◌ {A = ℕ} (cond b 0 0) 0
    nought true = refl
    nought false = refl

-- ---- all entries
module _ (limit : ℕ) (r : Recording) (i : ℕ) (j : Judge) (es : List Entry) (h : JudgeIs limit r.lines i j) (k : Keeps limit r i) (la : (r.lines i).arb ≤ 15) where
  abbrev l : Lines
  l = r.lines

  abbrev d : ℕ
  d = gap r.lines i

  forward : Forward l i
  forward = forward_to limit l i j h k.1.0

  abbrev slot : ℕ
  slot = charged_to j.wave (l i) d

  starting : (l i).start ≡ true → (l i).reset ≡ false → StartOf l (charged_to j.wave (l i) (gap l i)) i
  starting s nr = starter l i j.wave forward h.wave (kept-parked limit r i k nr) s nr

  carried : Carries l i j → Carries l (suc i) (judge_of j (l i) d)
  carried c = carries-next l i j starting c

  each_next : Carries l i j → length es ≡ 16 → (s : ℕ) → Used l s i (get_or es s zero_entry) → Used l s (suc i) (get_or (charged es j (l i) d) s zero_entry)
  unfolding charged
  each_next c long s u =
      let most : slot ≤ 15 = charged-most j.wave (l i) d h.sound.owner la in
      subst (Used l s (suc i)) (sym (added_at_lem es slot (one (starts_in (l i))) (busy_in j.transfer (l i) d) s (omega arith)))
      (record {
        starts = starts-next l i s (get_or es s zero_entry).starts slot (λ e. let z = and_both (l i).start (not (l i).reset) e in starting z.0 (not-true (l i).reset z.1)) u.starts;
        busy = busy-next l s i (get_or es s zero_entry).busy slot (busy_in j.transfer (l i) d) forward (kept-alone limit r i k) (closes l i j forward h.transfer c starting) u.busy;
      })

  used_next : Carries l i j → UsedBy l i es → UsedBy l (suc i) (charged es j (l i) d)
  used_next c u =
      record { sixteen = charged-length es j (taken_at r i) d ∙ u.sixteen; each = λ s lt. each_next c u.sixteen s (u.each s lt) }

-- ---- one record after another
-- where the account is the recording's before record i, it is behind the records that follow and break no rule
used_from : (limit : ℕ) (r : Recording) (i n : ℕ) (j : Judge) (t : Tally) (es : List Entry) (rs : List Taken) → ((m : ℕ) → (r.lines m).arb ≤ 15) → Listed r i rs → n ≡ i + length rs
    → Passes j rs → Before limit r i j t → Carries r.lines i j → UsedBy r.lines i es → UsedBy r.lines n (account_of j es rs)
used_from limit r i n j t es [] la at en pass b c u = let e : i ≡ n = omega arith in subst (λ k. UsedBy r.lines k es) e u
used_from limit r i n j t es (x ∷ rs) la at en pass b c u =
    subst (λ (y : Taken). UsedBy r.lines n (account_of j es (y ∷ rs))) at.0
    (used_from limit r (suc i) n (next_judge j (taken_at r i)) _ (charged es j (r.lines i) e) rs la at.1 (omega arith)
    (subst (λ (y : Taken). Passes (next_judge j y) rs) (sym at.0) pass.1) next
    (subst (λ k. Carries r.lines (suc i) (judge_of j (r.lines i) k)) (sym same) (carried limit r i j es b.judge kept (la i) c))
    (subst (λ k. UsedBy r.lines (suc i) (charged es j (r.lines i) k)) (sym same) (used_next limit r i j es b.judge kept (la i) c u)))
  where
    e : ℕ
    e = diff_of j (r.lines i).stamp

    same : e ≡ gap r.lines i
    same = b.judge.apart

    unbroken : (rule_of j (taken_at r i) e).number ≡ 0
    unbroken = subst (λ (y : Taken). (rule_of j y (diff_of j y.lines.stamp)).number ≡ 0) (sym at.0) pass.0

    next : Before limit r (suc i) (judge_of j (r.lines i) e) (tally_of t (is_open j.transfer) (r.lines i).reset (r.lines i).start (r.lines i).ack e)
    next = before-next limit r i j t e b (la i) same unbroken

    kept : Keeps limit r i
    kept = next.good i (omega arith)

-- an account of nothing
none_at : (n s : ℕ) → get_or (replicate n zero_entry) s zero_entry ≡ zero_entry
none_at zero s = refl
none_at (suc n) zero = refl
none_at (suc n) (suc s) = none_at n s

used_none : (r : Lines) → UsedBy r 0 none_used
used_none r =
    record { sixteen = length-replicate 16 zero_entry; each = λ s lt. subst (Used r s 0) (sym (none_at 16 s)) (record { starts = none; busy = none }) }

-- EACH ENTRY IS THE RECORDING'S, of the first n records of the bytes where none of them breaks a rule
pub used : (limit : ℕ) (bytes : List ℕ) (n : ℕ) → 1 ≤ limit → limit ≤ 16 → Passes (fresh_judge limit) (records_in n bytes)
    → UsedBy (recording_in bytes).lines n (account_of (fresh_judge limit) none_used (records_in n bytes))
used limit bytes n low high pass =
    used_from limit (recording_in bytes) 0 n (fresh_judge limit) zero_tally none_used (records_in n bytes) (λ m. arb-le (sixteen bytes m)) (listed bytes 0 n)
    (let z = length-records n bytes in omega arith) pass (before-fresh limit (recording_in bytes) low high) (λ k o. absurd (let z = o.earlier in omega arith)) (used_none (recording_in bytes).lines)

-- ---- an entry is one
pub used_only : (r : Lines) (s n : ℕ) (e f : Entry) → Used r s n e → Used r s n f → e ≡ f
used_only r s n e f a b =
    same e.starts f.starts e.busy f.busy (number-only (StartOf r s) n e.starts f.starts a.starts b.starts) (number-only (Busy r s n) (cycles_of r n) e.busy f.busy a.busy b.busy)
  where
    same : (w x y z : ℕ) → w ≡ x → y ≡ z → ◌≡◌ {A = Entry} (record { starts = w; busy = y }) (record { starts = x; busy = z })
    same w x y z p q = rw (p, q)
