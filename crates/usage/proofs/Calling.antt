-- What a caller of the judge with an account is told. Assumes nothing.
use Prim.Native.Nat.{ℕ, ◌+◌, ◌-◌, ◌/◌, ◌%◌, ◌≤◌, ◌<◌}
use mathlib.Core.Bool.{true, ◌&&◌, false≢true, and-true}
use mathlib.Core.List.{List, ◌++◌}
use mathlib.Core.Path.{◌≡◌, refl, sym, ap, subst, ◌∙◌}
use mathlib.Core.Logic.{inl, inr}
use native.Mathlib.Omega.{arith}
use lib.ListN.{length, take, get_or, length-append, length-replicate}
use lib.Seq.{take_all}
use lib.Dec.{eqb, leb}
use borrow.Author.Tests.{eqb-true, eqb-false, eq-eqb, ne_eqb, le-leb}
use Rattle.basics.specs.Answers.{accepted}
use Rattle.basics.proofs.Bools.{by-test, cond-true, cond-false, and_both, both_and}
use Rattle.entries.specs.declared.Entry.{Entry}
use Rattle.entries.specs.Entries.{zero_entry}
use Rattle.rules.specs.declared.Judge.{Judge}
use Rattle.rules.specs.declared.Tally.{Tally}
use Rattle.rules.specs.declared.Progress.{Progress}
use Rattle.rules.specs.Bounds.{judge_bounds, tally_bounds}
use Rattle.rules.specs.Recording.{recording_in}
use Rattle.rules.specs.Run.{Taken, records_in, from, run_of}
use Rattle.rules.specs.State.{fresh_judge, zero_tally}
use Rattle.rules.specs.Totals.{Totals}
use Rattle.rules.specs.Verdict.{most_records, refusal_of, refused_by, outcome_of}
use Rattle.rules.specs.Exact.{conforms, After, fresh, later}
use Rattle.rules.proofs.Laws.{SoundProgress, unless-zero, run_sound, fresh-sound, sound-tally, records-append, outcome-judged, outcome-refused}
use Rattle.rules.proofs.Reach.{Reached, Ended, reached}
use Rattle.rules.proofs.Told.{start, PastIs, past_is, refused-not, open_of, zero-sound}
use Rattle.feeding.proofs.GoOn.{run_count}
use Rattle.usage.specs.declared.Accounted.{Accounted}
use Rattle.usage.specs.Using.{Used, UsedBy}
use Rattle.usage.specs.Charge.{none_used, Passes, account_of}
use Rattle.usage.specs.Calls.{entry_bounds, entries_bounds, refusal_for, account_refusal, accounted_in, accounted_of, judges_outcome, own_entry, share_refusal, share_of}
use Rattle.usage.specs.Told.{AfterUse, fresh as freshUse, later as laterUse, starts_of}
use Rattle.usage.proofs.Running.{state_of, run_passes, account-append}
use Rattle.usage.proofs.Counting.{used}
use Rattle.usage.proofs.Sums.{account_total, total_none, part_most, busy-most, bounds_all}

-- ---- a call that is accepted, and one that is not
pub accounted_judged : (bytes : List ℕ) (j : Judge) (t : Tally) (es : List Entry) → account_refusal (length bytes) j t es ≡ 0
    → accounted_of bytes j t es ≡ accounted_in bytes j t es (run_of (from j t) (records_in (length bytes / 16) bytes))
unfolding accounted_of
accounted_judged bytes j t es e = cond-true _ _ (eq-eqb (account_refusal (length bytes) j t es) 0 e)

pub accounted_refused : (bytes : List ℕ) (j : Judge) (t : Tally) (es : List Entry) → (account_refusal (length bytes) j t es ≡ 0 → ⊥)
    → accounted_of bytes j t es ≡ record { verdict = refused_by (account_refusal (length bytes) j t es); judge = j; tally = t; entries = es }
unfolding accounted_of
accounted_refused bytes j t es ne = cond-false _ _ (ne_eqb (account_refusal (length bytes) j t es) 0 ne)

-- with an account of sixteen entries within their bounds a call is refused as the judge's own is
pub refusal-same : (size : ℕ) (j : Judge) (t : Tally) (es : List Entry) → entries_bounds t es ≡ true → length es ≡ 16 → account_refusal size j t es ≡ refusal_of size j t
unfolding account_refusal refusal_for refusal_of
refusal-same size j t es b long =
    let all : take 16 es ≡ es = take_all 16 es (omega arith) in
    simp (all, b, eq-eqb (length es) 16 long, and-true)

-- what is accepted has sixteen entries within their bounds
pub accepted_bounds : (size : ℕ) (j : Judge) (t : Tally) (es : List Entry) → account_refusal size j t es ≡ 0 → (entries_bounds t es ≡ true) × (length es ≡ 16)
unfolding account_refusal refusal_for
accepted_bounds size j t es e =
    let a = unless-zero (judge_bounds j && tally_bounds t && entries_bounds t (take 16 es)) 5 _ refl e in
    let b = unless-zero (leb (t.records + size / 16) most_records) 8 _ refl a.1 in
    let c = unless-zero (eqb (size % 16) 0 && eqb (length es) 16) 1 0 refl b.1 in
    let long : length es ≡ 16 = eqb-true (length es) 16 (and_both (eqb (size % 16) 0) (eqb (length es) 16) c.0).1 in
    let all : take 16 es ≡ es = take_all 16 es (omega arith) in
    (ap (entries_bounds t) (sym all) ∙ (and_both (judge_bounds j && tally_bounds t) (entries_bounds t (take 16 es)) a.0).1, long)

-- the judge's own part of such a call
pub outcome-same : (bytes : List ℕ) (j : Judge) (t : Tally) (es : List Entry) → entries_bounds t es ≡ true → length es ≡ 16 → judges_outcome (accounted_of bytes j t es) ≡ outcome_of bytes j t
outcome-same bytes j t es b long =
    by-test (eqb (refusal_of (length bytes) j t) 0)
    (λ e. let z = eqb-true (refusal_of (length bytes) j t) 0 e in
    ap judges_outcome (accounted_judged bytes j t es (same ∙ z)) ∙ sym (outcome-judged bytes j t z))
    (λ e. let ne = eqb-false (refusal_of (length bytes) j t) 0 e in
    ap judges_outcome (accounted_refused bytes j t es (λ z. ne (sym same ∙ z)))
    ∙ ap (λ (n : ℕ). record { verdict = refused_by n; judge = j; tally = t }) same
    ∙ sym (outcome-refused bytes j t ne))
  where
    same : account_refusal (length bytes) j t es ≡ refusal_of (length bytes) j t
    same = refusal-same (length bytes) j t es b long

-- ---- after a past that conforms
pub record PastUse (limit : ℕ) (past : List ℕ) (j : Judge) (t : Tally) (es : List Entry) : Type 0 where
  pub after : After limit past j t
  pub account : es ≡ account_of (fresh_judge limit) none_used (records_in (length past / 16) past)

-- the records of the past, and those of now behind them
pub parts_records : (past now : List ℕ) (k : ℕ) → length past % 16 ≡ 0 → records_in (length past / 16 + k) (past ++ now) ≡ records_in (length past / 16) past ++ records_in k now
parts_records past now k whole = records-append (length past / 16) k past now (omega arith)

-- the account of both is the past's, gone on with
pub parts_account : (limit : ℕ) (past now : List ℕ) (j : Judge) (t : Tally) (k : ℕ) → PastIs limit past j t
    → account_of (fresh_judge limit) none_used (records_in (length past / 16 + k) (past ++ now)) ≡ account_of j (account_of (fresh_judge limit) none_used (records_in (length past / 16) past)) (records_in k now)
parts_account limit past now j t k h =
    let a : List Taken = records_in (length past / 16) past in
    let state : state_of (fresh_judge limit) a ≡ j = sym (run_passes (fresh_judge limit) zero_tally a (ap (λ (p : Progress). p.rule) h.run)).1 ∙ ap (λ (p : Progress). p.judge) h.run in
    ap (account_of (fresh_judge limit) none_used) (parts_records past now k h.whole)
    ∙ account-append (fresh_judge limit) none_used a (records_in k now)
    ∙ ap (λ (x : Judge). account_of x (account_of (fresh_judge limit) none_used a) (records_in k now)) state

pub past_use : (limit : ℕ) (past : List ℕ) (j : Judge) (t : Tally) (es : List Entry) → AfterUse limit past j t es → PastUse limit past j t es
past_use limit _ _ _ _ (freshUse e) = record { after = fresh e; account = refl }
past_use limit _ _ _ _ (laterUse {past} {j} {next} {t} {tally} {account} {entries} now a e) =
    by-test (eqb (account_refusal (length now) j t account) 0) (λ b. going (past_use limit past j t account a) (eqb-true (account_refusal (length now) j t account) 0 b)) (λ b. absurd (refused (eqb-false (account_refusal (length now) j t account) 0 b)))
  where
    refused : (account_refusal (length now) j t account ≡ 0 → ⊥) → ⊥
    refused ne = false≢true (sym (refused-not (account_refusal (length now) j t account)) ∙ ap (λ (x : Accounted). conforms x.verdict) (sym (accounted_refused now j t account ne) ∙ e))

    p : Progress
    p = run_of (from j t) (records_in (length now / 16) now)

    going : PastUse limit past j t account → account_refusal (length now) j t account ≡ 0 → PastUse limit (past ++ now) next tally entries
    going h ok =
        let is = sym (accounted_judged now j t account ok) ∙ e in
        let unbroken : p.rule ≡ 0 = open_of p (ap (λ (x : Accounted). conforms x.verdict) is) in
        let bounds = accepted_bounds (length now) j t account ok in
        let was = past_is limit past j t h.after in
        let count = run_count (from j t) (length now / 16) now refl unbroken in
        let k : p.tally.records - t.records ≡ length now / 16 = omega arith in
        let w = was.whole in
        let n : length past / 16 + length now / 16 ≡ length (past ++ now) / 16 = omega (arith, length-append past now) in
        record {
          after = later now h.after (sym (outcome-same now j t account bounds.0 bounds.1) ∙ ap judges_outcome e);
          account = sym (ap (λ (x : Accounted). x.entries) is)
              ∙ ap (λ (m : ℕ). account_of j account (records_in m now)) k
              ∙ ap (λ (x : List Entry). account_of j x (records_in (length now / 16) now)) h.account
              ∙ sym (parts_account limit past now j t (length now / 16) was)
              ∙ ap (λ (m : ℕ). account_of (fresh_judge limit) none_used (records_in m (past ++ now))) n;
        }

-- ---- what such a caller holds
module _ (limit : ℕ) (past : List ℕ) (j : Judge) (t : Tally) (es : List Entry) (a : AfterUse limit past j t es) where
  abbrev n : ℕ
  n = length past / 16

  pub use_past : PastUse limit past j t es
  use_past = past_use limit past j t es a

  pub past_run : PastIs limit past j t
  past_run = past_is limit past j t use_past.after

  pub past-passes : Passes (fresh_judge limit) (records_in n past)
  past-passes = (run_passes (fresh_judge limit) zero_tally (records_in n past) (ap (λ (p : Progress). p.rule) past_run.run)).0

  pub past_used : UsedBy (recording_in past).lines n es
  past_used = subst (UsedBy (recording_in past).lines n) (sym use_past.account) (used limit past n past_run.low past_run.high past-passes)

  pub past-totals : Totals (recording_in past).lines n t
  past-totals = go (subst (Reached limit (recording_in past) n) past_run.run (reached limit past n past_run.low past_run.high))
    where
      go : (h : Reached limit (recording_in past) n (from j t)) → Totals (recording_in past).lines n t
      go h = by_end h.ends
        where
          by_end : Ended limit (recording_in past) n (from j t) h.place → Totals (recording_in past).lines n t
          by_end (inl e) = subst (λ (k : ℕ). Totals (recording_in past).lines k t) e.1 h.before.totals
          by_end (inr e) = absurd (e.0 refl)

  pub past-sound : SoundProgress (0 + n) (from j t)
  past-sound = subst (SoundProgress (0 + n)) past_run.run (run_sound (start limit) n past (fresh-sound limit past_run.low past_run.high) zero-sound)

  -- "The sixteen START counts add up to the tally's starts."
  pub past-adds : starts_of es ≡ t.starts
  past-adds =
      let h = account_total n (fresh_judge limit) zero_tally none_used past (fresh-sound limit past_run.low past_run.high) (length-replicate 16 zero_entry) past-passes in
      let none = total_none 16 in
      let same : starts_of es ≡ starts_of (account_of (fresh_judge limit) none_used (records_in n past)) = ap starts_of use_past.account in
      let run : (run_of (start limit) (records_in n past)).tally.starts ≡ t.starts = ap (λ (p : Progress). p.tally.starts) past_run.run in
      omega (arith, h, none, same, run)

  pub past-most : (s : ℕ) → s < 16 → (get_or es s zero_entry).busy ≤ t.span + (get_or es s zero_entry).starts
  past-most s lt = subst (λ (x : ℕ). (get_or es s zero_entry).busy ≤ x + (get_or es s zero_entry).starts) (sym past-totals.span) (busy-most (recording_in past).lines s n (get_or es s zero_entry) (past_used.each s lt))

  entry_bounds_lem : (s : ℕ) → s < 16 → entry_bounds t (get_or es s zero_entry) ≡ true
  entry_bounds_lem s lt =
      let all = past-adds in
      let part = part_most es s in
      both_and _ _ (le-leb (get_or es s zero_entry).starts t.starts (omega arith)) (le-leb (get_or es s zero_entry).busy (t.span + (get_or es s zero_entry).starts) (past-most s lt))

  pub past_bounds : entries_bounds t es ≡ true
  past_bounds = bounds_all t es (λ s lt. entry_bounds_lem s (let long = past_used.sixteen in omega arith))

  -- one slot's entry
  pub past-share : (s : ℕ) → s < 16 → (e : Entry) × (share_of s t es ≡ accepted e) × Used (recording_in past).lines s n e
  unfolding share_of share_refusal own_entry
  past-share s lt = (
    get_or es s zero_entry,
    (let low : leb s 15 ≡ true = le-leb s 15 (omega arith) in
        let bounded = entry_bounds_lem s lt in
        let sound = sound-tally t past-sound.tally in
        let long = eq-eqb (length es) 16 past_used.sixteen in
        simp (low, sound, bounded, long)),
    past_used.each s lt,
  )
