-- Laws of the calls with an account: bounds, what a call puts together, and that the calls by value are those of the caller's account. Assumes nothing.
use Rattle.std.proofs.Common.{◌≡◌, ℕ, zero, suc, ◌+◌, ◌-◌, ◌/◌, ◌%◌, ◌^◌, ◌≤◌, Bool, true, ◌&&◌, eqb, leb, List, [], ◌∷◌, length, get_or, take, sym, refl, ap, ◌∙◌, subst, arith, take_all, eq-eqb, ne_eqb, eqb-true, le-leb, leb-false, leb-true}
use borrow.Author.Tests.{lt-leb, eqb-false}
use Rattle.basics.proofs.Bools.{by-test, cond-true, cond-false, and_both, both_and}
use Rattle.entries.specs.declared.Entry.{Entry}
use Rattle.entries.specs.Entries.{zero_entry, first_of, sixteen_of, spread_of}
use Rattle.entries.proofs.Laws.{sixteen_at, sixteen_of_lem, spread_all, spread_back}
use Rattle.rules.specs.declared.Judge.{Judge}
use Rattle.rules.specs.declared.Tally.{Tally}
use Rattle.rules.specs.declared.Progress.{Progress}
use Rattle.rules.specs.declared.Outcome.{Outcome}
use Rattle.rules.specs.declared.Verdict.{Verdict}
use Rattle.rules.specs.Bounds.{judge_bounds, tally_bounds, SoundJudge, SoundTally}
use Rattle.rules.specs.Run.{from, run_of, records_in}
use Rattle.rules.specs.Verdict.{most_records, refused_by, outcome_in, outcome_of}
use Rattle.rules.proofs.Laws.{unless-zero, judge-sound, tally-sound, refusal-none, outcome-judged}
use Rattle.usage.specs.declared.Accounted.{Accounted}
use Rattle.usage.specs.Charge.{Passes, account_of}
use Rattle.usage.specs.Calls.{entry_bounds, entries_bounds, refusal_for, account_refusal, accounted_of, judges_answer, own_entry, share_refusal, answer_by, share_of}
use Rattle.usage.specs.Told.{AfterUse, ToldUse}
use Rattle.usage.proofs.Running.{Passed, passed, account-length}
use Rattle.usage.proofs.Calling.{accounted_judged, accounted_refused, accepted_bounds}
use Rattle.usage.proofs.Telling.{told_use_of}
use Rattle.accounts.specs.Watch.{Within, Chargeable}
use Rattle.accounts.specs.ByValue.{accounted_for, share_for}

-- ---- bounds
-- a difference within, or the sum
pub shifted : (busy span starts : ℕ) → leb (busy - span) starts ≡ leb busy (span + starts)
shifted busy span starts =
    by-test (leb busy (span + starts))
    (λ e. let z = leb-true busy (span + starts) e in le-leb (busy - span) starts (omega arith) ∙ sym e)
    (λ e. let z = leb-false busy (span + starts) e in lt-leb (busy - span) starts (omega arith) ∙ sym e)

-- entries within the bounds of a tally leave room for 2^30 records
within_bounds : (t : Tally) (es : List Entry) (k : ℕ) → entries_bounds t es ≡ true → ((get_or es k zero_entry).starts ≤ t.starts) × ((get_or es k zero_entry).busy ≤ t.span + t.starts)
within_bounds t [] k e = (omega arith, omega arith)
within_bounds t (x ∷ es) zero e =
    let a = (and_both (entry_bounds t x) (entries_bounds t es) e).0 in
    let b = and_both (leb x.starts t.starts) (leb x.busy (t.span + x.starts)) a in
    let c = leb-true x.starts t.starts b.0 in
    let d = leb-true x.busy (t.span + x.starts) b.1 in
    (c, omega arith)
within_bounds t (x ∷ es) (suc k) e = within_bounds t es k (and_both (entry_bounds t x) (entries_bounds t es) e).1

pub bounds_room : (t : Tally) (es : List Entry) → SoundTally t → t.records ≤ 2 ^ 30 → entries_bounds t es ≡ true → Within (2 ^ 31) (2 ^ 62) es
bounds_room t es h most e k =
    let w = within_bounds t es k e in
    let a = h.starts in
    let b = h.span in
    (omega arith, omega arith)

-- ---- a call by value
pub record Accepted (size : ℕ) (j : Judge) (t : Tally) (es : List Entry) : Type 0 where
  pub judge : SoundJudge j
  pub tally : SoundTally t
  pub room : t.records + size / 16 ≤ 2 ^ 30
  pub whole : size % 16 ≡ 0
  pub bounds : entries_bounds t es ≡ true

pub accepted_for : (size : ℕ) (j : Judge) (t : Tally) (es : List Entry) (lent : ℕ) → 0 ≡ refusal_for size j t es lent → Accepted size j t es
unfolding refusal_for
accepted_for size j t es lent e =
    let a = unless-zero (judge_bounds j && tally_bounds t && entries_bounds t es) 5 _ refl (sym e) in
    let b = unless-zero (leb (t.records + size / 16) most_records) 8 _ refl a.1 in
    let c = unless-zero (eqb (size % 16) 0 && eqb lent 16) 1 0 refl b.1 in
    let p = and_both (judge_bounds j && tally_bounds t) (entries_bounds t es) a.0 in
    let q = and_both (judge_bounds j) (tally_bounds t) p.0 in
    record {
      judge = judge-sound j q.0;
      tally = tally-sound t q.1;
      room = leb-true (t.records + size / 16) most_records b.0;
      whole = eqb-true (size % 16) 0 (and_both (eqb (size % 16) 0) (eqb lent 16) c.0).0;
      bounds = p.1;
    }

-- it is refused
pub refused_for : (bytes : List ℕ) (j : Judge) (t : Tally) (es : List Entry) (lent n : ℕ) (v : Verdict) → n ≡ refusal_for (length bytes) j t es lent → (n ≡ 0 → ⊥) → v ≡ refused_by n
    → record { verdict = v; judge = j; tally = t; entries = es } ≡ accounted_for bytes j t es lent
unfolding accounted_for
refused_for bytes j t es lent n v e ne ve =
    ap (λ (x : Verdict). record { verdict = x; judge = j; tally = t; entries = es }) (ve ∙ ap refused_by e)
    ∙ sym (cond-false _ _ (ne_eqb (refusal_for (length bytes) j t es lent) 0 (λ z. ne (e ∙ z))))

-- it is judged: then the records that were passed are charged
module _ (bytes : List ℕ) (j : Judge) (t : Tally) (es : List Entry) (h : Accepted (length bytes) j t es) (o : Outcome) (oe : o ≡ outcome_of bytes j t) where
  abbrev run : Progress
  run = run_of (from j t) (records_in (length bytes / 16) bytes)

  outcome_is : o ≡ outcome_in run
  outcome_is = oe ∙ outcome-judged bytes j t (refusal-none (length bytes) j t h.judge h.tally h.room h.whole)

  gone : Passed j t (length bytes / 16) bytes run
  gone = passed (length bytes / 16) j t bytes

  tally_is : o.tally.records ≡ run.tally.records
  tally_is = ap (λ (x : Outcome). x.tally.records) outcome_is

  pub no_fewer : t.records ≤ o.tally.records
  no_fewer = let a = gone.more in let b = tally_is in omega arith

  pub chargeable : Chargeable bytes (o.tally.records - t.records) j es
  chargeable =
      let b = tally_is in
      let most = gone.most in
      let room = h.room in
      let same : run.tally.records - t.records ≡ o.tally.records - t.records = omega arith in
      record {
        sound = h.judge;
        fits = omega arith;
        few = omega arith;
        passes = subst (λ (k : ℕ). Passes j (records_in k bytes)) same gone.pass;
        room = bounds_room t es h.tally (omega arith) h.bounds;
      }

  pub judged_for : (lent : ℕ) (account : List Entry) → 0 ≡ refusal_for (length bytes) j t es lent → account ≡ account_of j es (records_in (o.tally.records - t.records) bytes)
      → record { verdict = o.verdict; judge = o.judge; tally = o.tally; entries = account } ≡ accounted_for bytes j t es lent
  unfolding accounted_for
  judged_for lent account e ae =
      ap (λ (x : List Entry). record { verdict = o.verdict; judge = o.judge; tally = o.tally; entries = x }) ae
      ∙ ap (λ (x : Outcome). record { verdict = x.verdict; judge = x.judge; tally = x.tally; entries = account_of j es (records_in (x.tally.records - t.records) bytes) }) outcome_is
      ∙ sym (cond-true _ _ (eq-eqb (refusal_for (length bytes) j t es lent) 0 (sym e)))

-- ---- of the caller's account
-- with sixteen entries there is no difference
pub account-whole : (bytes : List ℕ) (j : Judge) (t : Tally) (es : List Entry) → length es ≡ 16 → accounted_for bytes j t es 16 ≡ accounted_of bytes j t es
unfolding accounted_for accounted_of refusal_for account_refusal
account-whole bytes j t es long = rw (take_all 16 es (omega arith), long)

pub account-told : (bytes : List ℕ) (j : Judge) (t : Tally) (es : List Entry) (a : Accounted) → length es ≡ 16 → a ≡ accounted_for bytes j t es 16
    → (a ≡ accounted_of bytes j t es) × ((limit : ℕ) (past : List ℕ) → AfterUse limit past j t es → ToldUse limit past bytes j t es a)
account-told bytes j t es a long e = let is = e ∙ account-whole bytes j t es long in (is, told_use_of bytes j t es a is)

-- ---- of an account that is lent
-- what it lacks of sixteen entries is nothing, which is within every bounds
none_bounds : (t : Tally) (n : ℕ) → entries_bounds t (first_of n []) ≡ true
unfolding first_of
none_bounds t zero = refl
none_bounds t (suc n) = both_and (entry_bounds t zero_entry) (entries_bounds t (first_of n [])) (both_and _ _ (le-leb 0 t.starts (omega arith)) (le-leb 0 (t.span + 0) (omega arith))) (none_bounds t n)

first_bounds : (t : Tally) (n : ℕ) (es : List Entry) → entries_bounds t (first_of n es) ≡ entries_bounds t (take n es)
unfolding first_of
first_bounds t zero es = refl
first_bounds t (suc n) [] = none_bounds t (suc n)
first_bounds t (suc n) (e ∷ es) = ap (λ (b : Bool). entry_bounds t e && b) (first_bounds t n es)

sixteen_bounds : (t : Tally) (es : List Entry) → entries_bounds t (sixteen_of es) ≡ entries_bounds t (take 16 es)
unfolding sixteen_of
sixteen_bounds t es = first_bounds t 16 es

refusal_lent : (size : ℕ) (j : Judge) (t : Tally) (es : List Entry) → refusal_for size j t (sixteen_of es) (length es) ≡ account_refusal size j t es
unfolding refusal_for account_refusal
refusal_lent size j t es = simp (sixteen_bounds t es)

-- the call by value, with its entries put back into the account
abbrev pub put_back : List Entry → Accounted → Accounted
put_back es a = record { verdict = a.verdict; judge = a.judge; tally = a.tally; entries = spread_of es a.entries }

pub account_lent : (bytes : List ℕ) (j : Judge) (t : Tally) (es : List Entry) → put_back es (accounted_for bytes j t (sixteen_of es) (length es)) ≡ accounted_of bytes j t es
account_lent bytes j t es =
    by-test (eqb (account_refusal (length bytes) j t es) 0) (λ e. whole (eqb-true (account_refusal (length bytes) j t es) 0 e)) (λ e. refused (eqb-false (account_refusal (length bytes) j t es) 0 e))
  where
    whole : account_refusal (length bytes) j t es ≡ 0 → put_back es (accounted_for bytes j t (sixteen_of es) (length es)) ≡ accounted_of bytes j t es
    whole ok =
        let long = (accepted_bounds (length bytes) j t es ok).1 in
        let is = accounted_judged bytes j t es ok in
        let n : ℕ = (run_of (from j t) (records_in (length bytes / 16) bytes)).tally.records - t.records in
        let size : length es ≡ length (accounted_of bytes j t es).entries = sym (ap (λ (a : Accounted). length a.entries) is ∙ account-length j es (records_in n bytes)) in
        ap (λ (x : List Entry). put_back es (accounted_for bytes j t x (length es))) (sixteen_of_lem es long)
        ∙ ap (λ (k : ℕ). put_back es (accounted_for bytes j t es k)) long
        ∙ ap (put_back es) (account-whole bytes j t es long)
        ∙ ap (λ (x : List Entry). record { verdict = (accounted_of bytes j t es).verdict; judge = (accounted_of bytes j t es).judge; tally = (accounted_of bytes j t es).tally; entries = x }) (spread_all es (accounted_of bytes j t es).entries size)

    refused : (account_refusal (length bytes) j t es ≡ 0 → ⊥) → put_back es (accounted_for bytes j t (sixteen_of es) (length es)) ≡ accounted_of bytes j t es
    refused ne =
        let same = refusal_lent (length bytes) j t es in
        ap (put_back es) (sym (refused_for bytes j t (sixteen_of es) (length es) _ _ refl (λ z. ne (sym same ∙ z)) refl))
        ∙ ap (λ (n : ℕ). put_back es (record { verdict = refused_by n; judge = j; tally = t; entries = sixteen_of es })) same
        ∙ ap (λ (x : List Entry). record { verdict = refused_by (account_refusal (length bytes) j t es); judge = j; tally = t; entries = x }) (spread_back es)
        ∙ sym (accounted_refused bytes j t es ne)

-- what a caller learns who lends the tally and the account: the answer, what these have become, and what it says of the whole recording
pub lent_told : (bytes : List ℕ) (j : Judge) (t : Tally) (es zs : List Entry) (a : Accounted) → a ≡ accounted_for bytes j t (sixteen_of es) (length es) → zs ≡ spread_of es a.entries
    → (judges_answer a ≡ judges_answer (accounted_of bytes j t es)) × ((a.tally ≡ (accounted_of bytes j t es).tally) × ((zs ≡ (accounted_of bytes j t es).entries)
    × ((limit : ℕ) (past : List ℕ) → AfterUse limit past j t es → ToldUse limit past bytes j t es (record { verdict = a.verdict; judge = a.judge; tally = a.tally; entries = zs }))))
lent_told bytes j t es zs a ae ze =
    let all : record { verdict = a.verdict; judge = a.judge; tally = a.tally; entries = zs } ≡ accounted_of bytes j t es =
    ap (λ (x : List Entry). record { verdict = a.verdict; judge = a.judge; tally = a.tally; entries = x }) ze
    ∙ ap (put_back es) ae
    ∙ account_lent bytes j t es in
    (ap judges_answer all, (ap (λ (x : Accounted). x.tally) all, (ap (λ (x : Accounted). x.entries) all, told_use_of bytes j t es _ all)))

-- ---- one slot's entry of an account that is lent
own_lent : (slot : ℕ) (es : List Entry) → own_entry slot (sixteen_of es) ≡ own_entry slot es
unfolding own_entry
own_lent slot es =
    by-test (leb slot 15)
    (λ e. let le = leb-true slot 15 e in cond-true _ _ e ∙ sixteen_at es slot (omega arith) ∙ sym (cond-true _ _ e))
    (λ e. cond-false _ _ e ∙ sym (cond-false _ _ e))

pub share_lent : (slot : ℕ) (t : Tally) (es : List Entry) → share_for slot t (sixteen_of es) (length es) ≡ share_of slot t es
unfolding share_for share_of
share_lent slot t es = ap (λ (e : Entry). answer_by (share_refusal slot t e (length es)) e) (own_lent slot es)
