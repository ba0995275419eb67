-- What a caller of the judge with an account is told: the whole recording's account, in whatever parts it was given. Assumes nothing.
use Prim.Native.Nat.{ℕ, ◌+◌, ◌-◌, ◌*◌, ◌/◌, ◌%◌, ◌≤◌, ◌<◌}
use mathlib.Core.Bool.{Bool, true, false, false≢true}
use mathlib.Core.List.{List, ◌++◌}
use mathlib.Core.Path.{◌≡◌, refl, sym, ap, subst, ◌∙◌}
use native.Mathlib.Omega.{arith}
use lib.ListN.{length, take, get_or, length-append, length-replicate}
use lib.Seq.{length-take-le}
use lib.Dec.{eqb, leb}
use borrow.Author.Tests.{eqb-true, eqb-false}
use Rattle.basics.specs.Order.{unless}
use Rattle.basics.proofs.Bools.{by-test, choice, cond-true, cond-false, both_and}
use Rattle.entries.specs.declared.Entry.{Entry}
use Rattle.entries.specs.Entries.{zero_entry}
use Rattle.rules.specs.declared.Judge.{Judge}
use Rattle.rules.specs.declared.Tally.{Tally}
use Rattle.rules.specs.declared.Progress.{Progress}
use Rattle.rules.specs.declared.Broken.{Broken}
use Rattle.rules.specs.declared.Verdict.{Verdict}
use Rattle.rules.specs.declared.Verdict.TheVariants.{Conforming, Breach, OutOfBounds, TooMany, Torn}
use Rattle.rules.specs.declared.Outcome.{Outcome}
use Rattle.rules.specs.Bounds.{SoundJudge, SoundTally}
use Rattle.rules.specs.Recording.{Recording, recording_in, cycle, Opened}
use Rattle.rules.specs.Run.{records_in, from, run_of}
use Rattle.rules.specs.State.{fresh_judge, zero_tally}
use Rattle.rules.specs.Thirteen.{Keeps}
use Rattle.rules.specs.Verdict.{most_records, refusal_of, refused_by, verdict_of}
use Rattle.rules.specs.Exact.{Rightly, counted, conforms, After, fresh, later, Told, too_many, torn, judged}
use Rattle.rules.proofs.Laws.{run_sound, fresh-sound, sound-judge, sound-tally, none-refused, refusal-none, outcome-judged}
use Rattle.rules.proofs.Told.{PastIs, past_is, accepted_of, reached_records, fresh_of_lem, zero-sound, records-take, told}
use Rattle.rules.proofs.Reach.{Reached, reached}
use Rattle.feeding.proofs.GoOn.{run_count}
use Rattle.usage.specs.declared.Accounted.{Accounted}
use Rattle.usage.specs.Using.{Busy, UsedBy}
use Rattle.usage.specs.Charge.{none_used, Passes, account_of}
use Rattle.usage.specs.Calls.{account_refusal, accounted_in, accounted_of, judges_outcome}
use Rattle.usage.specs.Told.{AfterUse, fresh as freshUse, later as laterUse, Reckoned, ToldUse, Accounting}
use Rattle.usage.proofs.BusyCycles.{busy-before}
use Rattle.usage.proofs.Running.{state_of, run_passes, Passed, passed, passes_append, account-own}
use Rattle.usage.proofs.Counting.{used, used_only}
use Rattle.usage.proofs.Calling.{accounted_judged, accounted_refused, refusal-same, accepted_bounds, outcome-same, past_use, parts_account, parts_records, past_run, past-passes, past_used, past-sound, past-adds, past-most, past_bounds, past-share, use_past}

-- ---- a refusal
-- a sound judge and tally are not refused by 5
not_five : (size : ℕ) (j : Judge) (t : Tally) → SoundJudge j → SoundTally t → refusal_of size j t ≡ 5 → ⊥
unfolding refusal_of
not_five size j t hj ht = rw (both_and _ _ (sound-judge j hj) (sound-tally t ht)) (other (leb (t.records + size / 16) most_records) (eqb (size % 16) 0))
  where
    other : (a b : Bool) → unless a 8 (unless b 1 0) ≡ 5 → ⊥
    other true true e = omega arith
    other true false e = omega arith
    other false b e = omega arith

reckoned-refused : (past now : List ℕ) (es : List Entry) (number : ℕ) → (number ≡ 5 → ⊥) → Reckoned past now es (refused_by number) es
unfolding refused_by
reckoned-refused past now es number ne =
    let P : Verdict → Type 0 = λ v. Reckoned past now es v es in
    choice P (eqb number 5) (λ e. absurd (ne (eqb-true number 5 e))) (λ _. choice P (eqb number 8) (λ _. refl) (λ _. refl))

-- ---- a call that is accepted
module _ (limit : ℕ) (past now : List ℕ) (j : Judge) (t : Tally) (es : List Entry) (a : AfterUse limit past j t es) where
  abbrev p : Progress
  p = run_of (from j t) (records_in (length now / 16) now)

  -- how many of now's records are counted
  abbrev k : ℕ
  k = p.tally.records - t.records

  gone : Passed j t (length now / 16) now p
  gone = passed (length now / 16) j t now

  was : PastIs limit past j t
  was = past_run limit past j t es a

  records : t.records ≡ length past / 16
  records = reached_records limit past (length past / 16) j t (subst (Reached limit (recording_in past) (length past / 16)) was.run (reached limit past (length past / 16) was.low was.high))

  -- the account of the records before the breach, past and now
  account-all : account_of j es (records_in k now) ≡ account_of (fresh_judge limit) none_used (records_in (length past / 16 + k) (past ++ now))
  account-all = ap (λ (x : List Entry). account_of j x (records_in k now)) (use_past limit past j t es a).account ∙ sym (parts_account limit past now j t k was)

  used_all : UsedBy (recording_in (past ++ now)).lines (length past / 16 + k) (account_of j es (records_in k now))
  used_all =
      let state : state_of (fresh_judge limit) (records_in (length past / 16) past) ≡ j = sym (run_passes (fresh_judge limit) zero_tally (records_in (length past / 16) past) (ap (λ (x : Progress). x.rule) was.run)).1 ∙ ap (λ (x : Progress). x.judge) was.run in
      subst (UsedBy (recording_in (past ++ now)).lines (length past / 16 + k)) (sym account-all)
      (used limit (past ++ now) (length past / 16 + k) was.low was.high
      (subst (Passes (fresh_judge limit)) (sym (parts_records past now k was.whole))
      (passes_append (fresh_judge limit) (records_in (length past / 16) past) (records_in k now) (past-passes limit past j t es a) (subst (λ (x : Judge). Passes x (records_in k now)) (sym state) gone.pass))))

  reckoned-judged : Reckoned past now es (verdict_of p) (account_of j es (records_in k now))
  unfolding verdict_of
  reckoned-judged =
      let P : Verdict → Type 0 = λ v. Reckoned past now es v (account_of j es (records_in k now)) in
      let w = was.whole in
      choice P (eqb p.rule 0)
      (λ e. let count = run_count (from j t) (length now / 16) now refl (eqb-true p.rule 0 e) in
      let n : length past / 16 + k ≡ length (past ++ now) / 16 = omega (arith, length-append past now) in
      subst (λ (m : ℕ). UsedBy (recording_in (past ++ now)).lines m (account_of j es (records_in k now))) n used_all)
      (λ e. let n : length past / 16 + k ≡ p.tally.records = omega (arith, records, gone.more) in
      subst (λ (m : ℕ). UsedBy (recording_in (past ++ now)).lines m (account_of j es (records_in k now))) n used_all)

  same : account_refusal (length now) j t es ≡ refusal_of (length now) j t
  same = refusal-same (length now) j t es (past_bounds limit past j t es a) (past_used limit past j t es a).sixteen

  reckoned : Reckoned past now es (accounted_of now j t es).verdict (accounted_of now j t es).entries
  reckoned =
      by-test (eqb (account_refusal (length now) j t es) 0)
      (λ e. subst (λ (x : Accounted). Reckoned past now es x.verdict x.entries) (sym (accounted_judged now j t es (eqb-true (account_refusal (length now) j t es) 0 e))) reckoned-judged)
      (λ e. subst (λ (x : Accounted). Reckoned past now es x.verdict x.entries) (sym (accounted_refused now j t es (eqb-false (account_refusal (length now) j t es) 0 e)))
      (reckoned-refused past now es (account_refusal (length now) j t es) (λ z. not_five (length now) j t (past-sound limit past j t es a).judge (past-sound limit past j t es a).tally (sym same ∙ z))))

  pub told_use : ToldUse limit past now j t es (accounted_of now j t es)
  told_use =
      record {
        judged = subst (Told limit past now j t) (sym (outcome-same now j t es (past_bounds limit past j t es a) (past_used limit past j t es a).sixteen)) (told limit past now j t (use_past limit past j t es a).after);
        reckoned = reckoned;
      }

-- the same, of a function's answer that is known to be that
pub told_use_of : (now : List ℕ) (j : Judge) (t : Tally) (es : List Entry) (a : Accounted) → a ≡ accounted_of now j t es → (limit : ℕ) (past : List ℕ) → AfterUse limit past j t es → ToldUse limit past now j t es a
told_use_of now j t es a e limit past u = subst (ToldUse limit past now j t es) (sym e) (told_use limit past now j t es u)

-- ---- what a breach leaves
-- the judge's caller has room for what he was told
after-room : (limit : ℕ) (past : List ℕ) (j : Judge) (t : Tally) → After limit past j t → t.records ≤ most_records
after-room limit _ _ _ (fresh e) = omega arith
after-room limit _ _ _ (later {past} {j} {next} {t} {tally} now a e) =
    let ok = accepted_of now j t (ap (λ (o : Outcome). conforms o.verdict) e) in
    let h = none-refused (length now) j t ok in
    let s = run_sound (from j t) (length now / 16) now h.0 h.1.0 in
    let is : (run_of (from j t) (records_in (length now / 16) now)).tally ≡ tally = ap (λ (o : Outcome). o.tally) (sym (outcome-judged now j t ok) ∙ e) in
    let room = h.1.1.0 in
    let count = s.count in
    let z : (run_of (from j t) (records_in (length now / 16) now)).tally.records ≡ tally.records = ap (λ (x : Tally). x.records) is in
    omega arith

-- whoever was told of all parts that they conform may as well have had the recording's account from one call
after_use : (limit : ℕ) (past : List ℕ) (j : Judge) (t : Tally) → After limit past j t → AfterUse limit past j t (account_of (fresh_judge limit) none_used (records_in (length past / 16) past))
unfolding verdict_of
after_use limit past j t a = laterUse past (freshUse (fresh_of_lem limit was.low was.high)) call
  where
    was : PastIs limit past j t
    was = past_is limit past j t a

    records : t.records ≡ length past / 16
    records = reached_records limit past (length past / 16) j t (subst (Reached limit (recording_in past) (length past / 16)) was.run (reached limit past (length past / 16) was.low was.high))

    accepts : account_refusal (length past) (fresh_judge limit) zero_tally none_used ≡ 0
    accepts =
        let room = after-room limit past j t a in
        refusal-same (length past) (fresh_judge limit) zero_tally none_used refl (length-replicate 16 zero_entry)
        ∙ refusal-none (length past) (fresh_judge limit) zero_tally (fresh-sound limit was.low was.high) zero-sound (omega (arith, records)) was.whole

    call : accounted_of past (fresh_judge limit) zero_tally none_used ≡ record { verdict = Conforming; judge = j; tally = t; entries = account_of (fresh_judge limit) none_used (records_in (length past / 16) past) }
    call =
        let z : t.records - 0 ≡ length past / 16 = omega (arith, records) in
        accounted_judged past (fresh_judge limit) zero_tally none_used accepts
        ∙ ap (accounted_in past (fresh_judge limit) zero_tally none_used) was.run
        ∙ ap (λ (m : ℕ). record { verdict = Conforming; judge = j; tally = t; entries = account_of (fresh_judge limit) none_used (records_in m past) }) z

abbrev broke : Verdict → Bool
broke Conforming = false
broke (Breach b) = true
broke OutOfBounds = false
broke TooMany = false
broke Torn = false

refused-unbroken : (number : ℕ) → broke (refused_by number) ≡ false
unfolding refused_by
refused-unbroken number =
    let P : Verdict → Type 0 = λ v. broke v ≡ false in
    choice P (eqb number 5) (λ _. refl) (λ _. choice P (eqb number 8) (λ _. refl) (λ _. refl))

-- the records before it, as the judge alone tells
record Cut (limit : ℕ) (all : List ℕ) (j : Judge) (t : Tally) (place : ℕ) : Type 0 where
  after : After limit (take (place * 16) all) j t
  fits : place * 16 ≤ length all

told_cut : (limit : ℕ) (past now : List ℕ) (j : Judge) (t : Tally) (o : Outcome) (b : Broken) → o.verdict ≡ Breach b → Told limit past now j t o → Cut limit (past ++ now) o.judge o.tally b.place
told_cut limit past now j t _ b e (too_many _) = absurd (false≢true (ap broke e))
told_cut limit past now j t _ b e (torn _ _) = absurd (false≢true (ap broke e))
told_cut limit past now j t o b e (judged room even exact after) =
    let n = length (past ++ now) / 16 in
    let lt = (subst (Rightly limit (recording_in (past ++ now)) n) e exact.verdict).within in
    record {
      after = subst (λ (k : ℕ). After limit (take (k * 16) (past ++ now)) o.judge o.tally) (ap (counted n) e) after;
      fits = omega arith;
    }

-- where the judge's run breaks off
broken-place : (p : Progress) (b : Broken) → verdict_of p ≡ Breach b → p.tally.records ≡ b.place
unfolding verdict_of
broken-place p b e =
    by-test (eqb p.rule 0)
    (λ z. absurd (false≢true (ap broke (sym (cond-true _ _ z) ∙ e))))
    (λ z. ap (counted 0) (sym (cond-false _ _ z) ∙ e))

pub breach-leaves : (limit : ℕ) (past now : List ℕ) (j : Judge) (t : Tally) (es : List Entry) (b : Broken) → AfterUse limit past j t es → (accounted_of now j t es).verdict ≡ Breach b
    → AfterUse limit (take (b.place * 16) (past ++ now)) (accounted_of now j t es).judge (accounted_of now j t es).tally (accounted_of now j t es).entries
breach-leaves limit past now j t es b a e =
    by-test (eqb (account_refusal (length now) j t es) 0)
    (λ z. subst (AfterUse limit (take (b.place * 16) (past ++ now)) (accounted_of now j t es).judge (accounted_of now j t es).tally) (entries_are (eqb-true (account_refusal (length now) j t es) 0 z)) (after_use limit (take (b.place * 16) (past ++ now)) (accounted_of now j t es).judge (accounted_of now j t es).tally cut.after))
    (λ z. absurd (false≢true (sym (refused-unbroken (account_refusal (length now) j t es)) ∙ ap (λ (x : Accounted). broke x.verdict) (sym (accounted_refused now j t es (eqb-false (account_refusal (length now) j t es) 0 z))) ∙ ap broke e)))
  where
    cut : Cut limit (past ++ now) (accounted_of now j t es).judge (accounted_of now j t es).tally b.place
    cut = told_cut limit past now j t (judges_outcome (accounted_of now j t es)) b e (told_use limit past now j t es a).judged

    part : List ℕ
    part = take (b.place * 16) (past ++ now)

    entries_are : account_refusal (length now) j t es ≡ 0 → account_of (fresh_judge limit) none_used (records_in (length part / 16) part) ≡ (accounted_of now j t es).entries
    entries_are ok =
        let is = accounted_judged now j t es ok in
        let q : Progress = run_of (from j t) (records_in (length now / 16) now) in
        let place = broken-place q b (ap (λ (x : Accounted). x.verdict) (sym is) ∙ e) in
        let g = (passed (length now / 16) j t now).more in
        let m : length past / 16 + (q.tally.records - t.records) ≡ b.place = omega (arith, records limit past now j t es a, place, g) in
        let size : length part ≡ b.place * 16 = length-take-le (b.place * 16) (past ++ now) cut.fits in
        let n : length part / 16 ≡ b.place = omega arith in
        ap (λ (k : ℕ). account_of (fresh_judge limit) none_used (records_in k part)) n
        ∙ ap (account_of (fresh_judge limit) none_used) (records-take b.place (past ++ now) cut.fits)
        ∙ ap (λ (k : ℕ). account_of (fresh_judge limit) none_used (records_in k (past ++ now))) (sym m)
        ∙ sym (account-all limit past now j t es a)
        ∙ sym (ap (λ (x : Accounted). x.entries) is)

-- ---- THE PROMISE
own_entry_lem : (now : List ℕ) (j : Judge) (t : Tally) (a b : List Entry) (s : ℕ) → account_refusal (length now) j t a ≡ 0 → account_refusal (length now) j t b ≡ 0
    → get_or a s zero_entry ≡ get_or b s zero_entry → get_or (accounted_of now j t a).entries s zero_entry ≡ get_or (accounted_of now j t b).entries s zero_entry
own_entry_lem now j t a b s x y e =
    let n : ℕ = (run_of (from j t) (records_in (length now / 16) now)).tally.records - t.records in
    ap (λ (z : Accounted). get_or z.entries s zero_entry) (accounted_judged now j t a x)
    ∙ account-own j a b (records_in n now) s ((accepted_bounds (length now) j t a x).1 ∙ sym (accepted_bounds (length now) j t b y).1) e
    ∙ sym (ap (λ (z : Accounted). get_or z.entries s zero_entry) (accounted_judged now j t b y))

open_still : (limit : ℕ) (r : Recording) (n k s c : ℕ) → ((m : ℕ) → m < n → Keeps limit r m) → Opened r.lines n k → cycle r.lines k ≤ c → Busy r.lines s n c → ⊥
open_still limit r n k s c keeps o le b =
    let lt = busy-before r.lines s n k c (λ m one to. ((keeps m (let u = o.earlier in omega arith)).1.0 (omega arith)).0) o b in
    omega arith

pub accounting : (limit : ℕ) → Accounting limit
accounting limit =
    record {
      told = λ past now j t es a. told_use limit past now j t es a;
      share = λ past j t es s a lt. past-share limit past j t es a s lt;
      own = own_entry_lem;
      adds = past-adds limit;
      still = open_still limit;
      most = λ past j t es s a lt. past-most limit past j t es a s lt;
      breach = breach-leaves limit;
      refused = λ now j t es ne. ap (λ (x : Accounted). x.entries) (accounted_refused now j t es ne);
      many = λ past j k t u a b x y. (past_use limit past j t a x).account ∙ sym (past_use limit past k u b y).account;
      only = λ past n s e f. used_only (recording_in past).lines s n e f;
    }
