-- What a caller of the judge is told: the verdict and the totals of the whole recording, in whatever parts it was given. Assumes nothing.
use Prim.Native.Nat.{ℕ, zero, suc, ◌+◌, ◌*◌, ◌/◌, ◌%◌, ◌≤◌}
use mathlib.Core.Bool.{true, false, false≢true}
use mathlib.Core.List.{List, [], ◌++◌, append-nil}
use mathlib.Core.Path.{◌≡◌, refl, sym, ap, subst, ◌∙◌}
use mathlib.Core.Logic.{inl, inr}
use native.Mathlib.Omega.{arith}
use native.Mathlib.Nat.{add-zero}
use lib.ListN.{length, take, drop, length-append, take-append-drop}
use lib.Seq.{length-take-le}
use lib.Dec.{eqb, leb}
use borrow.Author.Tests.{eqb-true, eqb-false, leb-true, leb-false, le-leb}
use Rattle.basics.specs.Answers.{Answer, accepted}
use Rattle.basics.proofs.Bools.{choice, cond-true, cond-false, by-test, and_both, both_and}
use Rattle.rules.specs.declared.Judge.{Judge}
use Rattle.rules.specs.declared.Tally.{Tally}
use Rattle.rules.specs.declared.Progress.{Progress}
use Rattle.rules.specs.declared.Verdict.{Verdict}
use Rattle.rules.specs.declared.Verdict.TheVariants.{Conforming}
use Rattle.rules.specs.declared.Outcome.{Outcome}
use Rattle.rules.specs.State.{fresh_judge, zero_tally, diff_of}
use Rattle.basics.specs.Numbers.{lawful_limit}
use Rattle.rules.specs.Bounds.{SoundJudge, SoundTally}
use Rattle.rules.specs.Run.{Taken, taken_in, records_in, rule_of, from, broken, next_of, run_of}
use Rattle.rules.specs.Verdict.{most_records, fresh_of, refusal_of, refused_by, verdict_of, outcome_in, outcome_of}
use Rattle.rules.specs.Recording.{recording_in}
use Rattle.rules.specs.Totals.{Totals}
use Rattle.rules.specs.Exact.{counted, Exact, After, fresh, later, Told, too_many, torn, judged, conforms}
use Rattle.rules.proofs.Laws.{SoundProgress, step_good, step_bad, run_open, next_open, run_stopped, records-append, run_parts, run_sound, fresh-sound, sound-judge, sound-tally, none-refused, refusal-none, outcome-judged, outcome-refused}
use Rattle.rules.proofs.Reach.{Ended, Reached, reached}
use Rattle.rules.proofs.Exactly.{rightly_only, totals-only, reached_exact}

-- ---- what a verdict of conforming says
pub refused-not : (n : ℕ) → conforms (refused_by n) ≡ false
unfolding refused_by
refused-not n =
    let P : Verdict → Type 0 = λ v. conforms v ≡ false in
    choice P (eqb n 5) (λ _. refl) (λ _. choice P (eqb n 8) (λ _. refl) (λ _. refl))

pub accepted_of : (bytes : List ℕ) (j : Judge) (t : Tally) → conforms (outcome_of bytes j t).verdict ≡ true → refusal_of (length bytes) j t ≡ 0
accepted_of bytes j t e =
    by-test (eqb (refusal_of (length bytes) j t) 0) (eqb-true (refusal_of (length bytes) j t) 0) (λ f.
    absurd (false≢true (sym (refused-not (refusal_of (length bytes) j t)) ∙ ap (λ (o : Outcome). conforms o.verdict) (sym (outcome-refused bytes j t (eqb-false _ 0 f))) ∙ e)))

pub open_of : (p : Progress) → conforms (verdict_of p) ≡ true → p.rule ≡ 0
unfolding verdict_of
open_of p e =
    by-test (eqb p.rule 0) (eqb-true p.rule 0) (λ f. absurd (false≢true (sym (ap conforms (cond-false _ _ f)) ∙ e)))

fresh_is : (limit : ℕ) (j : Judge) → fresh_of limit ≡ accepted j → (1 ≤ limit) × (limit ≤ 16) × (j ≡ fresh_judge limit)
unfolding fresh_of
fresh_is limit j e =
    by-test (lawful_limit limit)
    (λ a. let z = and_both (leb 1 limit) (leb limit 16) a in
    (leb-true 1 limit z.0, leb-true limit 16 z.1, sym (ap (λ (x : Answer Judge). x.value) (sym (cond-true _ _ a) ∙ e))))
    (λ a. let z : ◌≡◌ {A = ℕ} 3 0 = ap (λ (x : Answer Judge). x.number) (sym (cond-false _ _ a) ∙ e) in absurd (omega arith))

pub fresh_of_lem : (limit : ℕ) → 1 ≤ limit → limit ≤ 16 → fresh_of limit ≡ accepted (fresh_judge limit)
unfolding fresh_of
fresh_of_lem limit low high = cond-true _ _ (both_and (leb 1 limit) (leb limit 16) (le-leb 1 limit low) (le-leb limit 16 high))

-- ---- after a past that conforms
-- all records of the past, judged from the start
abbrev pub start : ℕ → Progress
start limit = from (fresh_judge limit) zero_tally

pub record PastIs (limit : ℕ) (past : List ℕ) (j : Judge) (t : Tally) : Type 0 where
  pub low : 1 ≤ limit
  pub high : limit ≤ 16
  pub whole : length past % 16 ≡ 0
  pub run : run_of (start limit) (records_in (length past / 16) past) ≡ from j t

pub past_is : (limit : ℕ) (past : List ℕ) (j : Judge) (t : Tally) → After limit past j t → PastIs limit past j t
past_is limit past j t (fresh e) =
    let z = fresh_is limit j e in
    record { low = z.0; high = z.1; whole = refl; run = ap (λ (x : Judge). from x zero_tally) (sym z.2) }
past_is limit _ _ _ (later {past} {j} {next} {t} {tally} now a e) =
    let h = past_is limit past j t a in
    let ok = accepted_of now j t (ap (λ (o : Outcome). conforms o.verdict) e) in
    let even = (none-refused (length now) j t ok).1.1.1 in
    let p = run_of (from j t) (records_in (length now / 16) now) in
    let is : outcome_in p ≡ record { verdict = Conforming; judge = next; tally = tally } = sym (outcome-judged now j t ok) ∙ e in
    let shut = open_of p (ap (λ (o : Outcome). conforms o.verdict) is) in
    let long = length-append past now in
    let w = h.whole in
    record {
      low = h.low;
      high = h.high;
      whole = omega arith;
      run = run_parts (start limit) past now w
          ∙ ap (λ (x : Progress). run_of x (records_in (length now / 16) now)) h.run
          ∙ run_open j t (records_in (length now / 16) now) shut
          ∙ ap (λ (o : Outcome). from o.judge o.tally) is;
    }

-- the state and the tally after a past are one
after-only : (limit : ℕ) (past : List ℕ) (j k : Judge) (t u : Tally) → After limit past j t → After limit past k u → j ≡ k
after-only limit past j k t u a b =
    ap (λ (x : Progress). x.judge) (sym (past_is limit past j t a).run ∙ (past_is limit past k u b).run)

-- ---- what the records before a breach leave
stops : (n : ℕ) (p : Progress) (bytes : List ℕ) → p ≡ from p.judge p.tally
    → (m : ℕ) × (m ≤ n) × (run_of p (records_in m bytes) ≡ from (run_of p (records_in n bytes)).judge (run_of p (records_in n bytes)).tally)
stops zero p bytes h = (0, omega arith, h)
stops (suc n) p bytes h =
    by-test (eqb (rule_of p.judge r d).number 0) (λ e. going (eqb-true (rule_of p.judge r d).number 0 e) (stops n (next_of p r) (drop 16 bytes))) (λ e. stopped (eqb-false (rule_of p.judge r d).number 0 e))
  where
    r : Taken
    r = taken_in (take 16 bytes)

    d : ℕ
    d = diff_of p.judge r.lines.stamp

    z : p.rule ≡ 0
    z = ap (λ (x : Progress). x.rule) h

    going : (rule_of p.judge r d).number ≡ 0
        → (next_of p r ≡ from (next_of p r).judge (next_of p r).tally → (m : ℕ) × (m ≤ n) × (run_of (next_of p r) (records_in m (drop 16 bytes)) ≡ from (run_of (next_of p r) (records_in n (drop 16 bytes))).judge (run_of (next_of p r) (records_in n (drop 16 bytes))).tally))
        → (m : ℕ) × (m ≤ suc n) × (run_of p (records_in m bytes) ≡ from (run_of p (records_in (suc n) bytes)).judge (run_of p (records_in (suc n) bytes)).tally)
    going e rest =
        let is = next_open p r z ∙ step_good p.judge p.tally r e in
        let g = rest (is ∙ ap (λ (x : Progress). from x.judge x.tally) (sym is)) in
        let le = g.1 in
        (suc g.0, omega arith, g.2)

    stopped : ((rule_of p.judge r d).number ≡ 0 → ⊥) → (m : ℕ) × (m ≤ suc n) × (run_of p (records_in m bytes) ≡ from (run_of p (records_in (suc n) bytes)).judge (run_of p (records_in (suc n) bytes)).tally)
    stopped ne =
        let stop = ap (λ (x : Progress). run_of x (records_in n (drop 16 bytes))) (next_open p r z ∙ step_bad p.judge p.tally r ne) ∙ run_stopped (broken (rule_of p.judge r d) d p.judge p.tally) (records_in n (drop 16 bytes)) ne in
        (0, omega arith, h ∙ sym (ap (λ (x : Progress). from x.judge x.tally) stop))

pub records-take : (m : ℕ) (bytes : List ℕ) → m * 16 ≤ length bytes → records_in m (take (m * 16) bytes) ≡ records_in m bytes
records-take m bytes le =
    sym (append-nil (records_in m (take (m * 16) bytes)))
    ∙ sym (records-append m 0 (take (m * 16) bytes) (drop (m * 16) bytes) (length-take-le (m * 16) bytes le))
    ∙ ap (λ (k : ℕ). records_in k (take (m * 16) bytes ++ drop (m * 16) bytes)) (add-zero m)
    ∙ ap (records_in m) (take-append-drop (m * 16) bytes)

pub zero-sound : SoundTally zero_tally
zero-sound = record { span = omega arith; starts = omega arith; acks = omega arith; aborted = omega arith }

-- the place that the judge has come to
pub reached_records : (limit : ℕ) (bytes : List ℕ) (n : ℕ) (j : Judge) (t : Tally) → Reached limit (recording_in bytes) n (from j t) → t.records ≡ n
reached_records limit bytes n j t h = go h.ends
  where
    go : Ended limit (recording_in bytes) n (from j t) h.place → t.records ≡ n
    go (inl e) = h.before.totals.records ∙ e.1
    go (inr e) = absurd (e.0 refl)

leaves : (limit : ℕ) (bytes : List ℕ) → 1 ≤ limit → limit ≤ 16 → length bytes % 16 ≡ 0 → length bytes / 16 ≤ most_records
    → After limit (take (counted (length bytes / 16) (verdict_of (run_of (start limit) (records_in (length bytes / 16) bytes))) * 16) bytes) (run_of (start limit) (records_in (length bytes / 16) bytes)).judge (run_of (start limit) (records_in (length bytes / 16) bytes)).tally
unfolding verdict_of
leaves limit bytes low high even room = subst (λ (k : ℕ). After limit (take (k * 16) bytes) p.judge p.tally) place (later part (fresh (fresh_of_lem limit low high)) told)
  where
    n : ℕ
    n = length bytes / 16

    p : Progress
    p = run_of (start limit) (records_in n bytes)

    at : (m : ℕ) × (m ≤ n) × (run_of (start limit) (records_in m bytes) ≡ from p.judge p.tally)
    at = stops n (start limit) bytes refl

    m : ℕ
    m = at.0

    part : List ℕ
    part = take (m * 16) bytes

    fits : m * 16 ≤ length bytes
    fits = let le : m ≤ n = at.1 in omega arith

    size : length part ≡ m * 16
    size = length-take-le (m * 16) bytes fits

    place : m ≡ counted n (verdict_of p)
    place =
        sym (reached_records limit bytes m p.judge p.tally (subst (Reached limit (recording_in bytes) m) at.2 (reached limit bytes m low high)))
        ∙ (reached_exact limit (recording_in bytes) n p (reached limit bytes n low high)).totals.records

    run : run_of (start limit) (records_in (length part / 16) part) ≡ from p.judge p.tally
    run =
        let q : length part / 16 ≡ m = omega (arith, size) in
        ap (λ (k : ℕ). run_of (start limit) (records_in k part)) q ∙ ap (run_of (start limit)) (records-take m bytes fits) ∙ at.2

    told : outcome_of part (fresh_judge limit) zero_tally ≡ record { verdict = Conforming; judge = p.judge; tally = p.tally }
    told =
        let le : m ≤ n = at.1 in
        outcome-judged part (fresh_judge limit) zero_tally (refusal-none (length part) (fresh_judge limit) zero_tally (fresh-sound limit low high) zero-sound (omega (arith, size)) (omega (arith, size)))
        ∙ ap outcome_in run

-- ---- what a caller is told
refusal-room : (size : ℕ) (j : Judge) (t : Tally) → SoundJudge j → SoundTally t → leb (t.records + size / 16) most_records ≡ false → refusal_of size j t ≡ 8
unfolding refusal_of
refusal-room size j t hj ht e = rw (both_and _ _ (sound-judge j hj) (sound-tally t ht), e)

refusal-torn : (size : ℕ) (j : Judge) (t : Tally) → SoundJudge j → SoundTally t → leb (t.records + size / 16) most_records ≡ true → eqb (size % 16) 0 ≡ false → refusal_of size j t ≡ 1
unfolding refusal_of
refusal-torn size j t hj ht e f = rw (both_and _ _ (sound-judge j hj) (sound-tally t ht), e, f)

-- the outcome of a call is that of the whole recording, past and now
pub told : (limit : ℕ) (past now : List ℕ) (j : Judge) (t : Tally) → After limit past j t → Told limit past now j t (outcome_of now j t)
unfolding refused_by
told limit past now j t a =
    by-test (leb (t.records + length now / 16) most_records)
    (λ e. by-test (eqb (length now % 16) 0) (λ f. heard (leb-true _ _ e) (eqb-true (length now % 16) 0 f)) (λ f.
    subst (Told limit past now j t) (sym (refusing 1 (refusal-torn (length now) j t sound.judge sound.tally e f) (λ (z : ◌≡◌ {A = ℕ} 1 0). omega arith)))
    (torn (let z = leb-true (t.records + length now / 16) most_records e in omega (arith, records)) (eqb-false (length now % 16) 0 f))))
    (λ e. subst (Told limit past now j t) (sym (refusing 8 (refusal-room (length now) j t sound.judge sound.tally e) (λ (z : ◌≡◌ {A = ℕ} 8 0). omega arith)))
    (too_many (let z = leb-false (t.records + length now / 16) most_records e in omega (arith, records))))
  where
    h : PastIs limit past j t
    h = past_is limit past j t a

    sound : SoundProgress (0 + length past / 16) (from j t)
    sound = subst (SoundProgress (0 + length past / 16)) h.run (run_sound (start limit) (length past / 16) past (fresh-sound limit h.low h.high) zero-sound)

    records : t.records ≡ length past / 16
    records = reached_records limit past (length past / 16) j t (subst (Reached limit (recording_in past) (length past / 16)) h.run (reached limit past (length past / 16) h.low h.high))

    refusing : (n : ℕ) → refusal_of (length now) j t ≡ n → (n ≡ 0 → ⊥) → outcome_of now j t ≡ record { verdict = refused_by n; judge = j; tally = t }
    refusing n e ne =
        outcome-refused now j t (λ z. ne (sym e ∙ z)) ∙ ap (λ (k : ℕ). record { verdict = refused_by k; judge = j; tally = t }) e

    heard : t.records + length now / 16 ≤ most_records → length now % 16 ≡ 0 → Told limit past now j t (outcome_of now j t)
    heard room even =
        let long = length-append past now in
        let w = h.whole in
        let n = length (past ++ now) / 16 in
        let same : outcome_of now j t ≡ outcome_in (run_of (start limit) (records_in n (past ++ now))) =
        outcome-judged now j t (refusal-none (length now) j t sound.judge sound.tally room even)
        ∙ ap outcome_in (ap (λ (x : Progress). run_of x (records_in (length now / 16) now)) (sym h.run) ∙ sym (run_parts (start limit) past now w)) in
        subst (Told limit past now j t) (sym same)
        (judged (omega (arith, records)) even
        (reached_exact limit (recording_in (past ++ now)) n (run_of (start limit) (records_in n (past ++ now))) (reached limit (past ++ now) n h.low h.high))
        (leaves limit (past ++ now) h.low h.high (omega arith) (omega (arith, records))))

-- the same, of a function's answer that is known to be that outcome
pub told_of : (now : List ℕ) (j : Judge) (t : Tally) (o : Outcome) → o ≡ outcome_of now j t → (limit : ℕ) (past : List ℕ) → After limit past j t → Told limit past now j t o
told_of now j t o e limit past a = subst (Told limit past now j t) (sym e) (told limit past now j t a)

-- a whole recording in one call, from a fresh judge and zero totals
pub whole : (limit : ℕ) (j : Judge) (bytes : List ℕ) → fresh_of limit ≡ accepted j → length bytes / 16 ≤ most_records → length bytes % 16 ≡ 0 → Exact limit (recording_in bytes) (length bytes / 16) (outcome_of bytes j zero_tally)
whole limit j bytes e room even = go (outcome_of bytes j zero_tally) (told limit [] bytes j zero_tally (fresh e))
  where
    go : (o : Outcome) → Told limit [] bytes j zero_tally o → Exact limit (recording_in bytes) (length bytes / 16) o
    go o (too_many a) = absurd (omega arith)
    go o (torn a f) = absurd (f even)
    go o (judged _ _ x _) = x

-- and it is the only one: whoever is told rightly is told this
pub told-only : (limit : ℕ) (past now : List ℕ) (j : Judge) (t : Tally) (o p : Outcome) → Told limit past now j t o → Told limit past now j t p → o ≡ p
told-only limit past now j t o p (too_many a) (too_many b) = refl
told-only limit past now j t o p (too_many a) (torn b _) = absurd (omega arith)
told-only limit past now j t o p (too_many a) (judged b _ _ _) = absurd (omega arith)
told-only limit past now j t o p (torn a _) (too_many b) = absurd (omega arith)
told-only limit past now j t o p (torn a e) (torn b f) = refl
told-only limit past now j t o p (torn a e) (judged b f _ _) = absurd (e f)
told-only limit past now j t o p (judged a _ _ _) (too_many b) = absurd (omega arith)
told-only limit past now j t o p (judged a e _ _) (torn b f) = absurd (f e)
told-only limit past now j t o p (judged _ _ x u) (judged _ _ y v) =
    let r = recording_in (past ++ now) in
    let n = length (past ++ now) / 16 in
    let verdict : o.verdict ≡ p.verdict = rightly_only limit r n o.verdict p.verdict x.verdict y.verdict in
    let at : counted n o.verdict ≡ counted n p.verdict = ap (counted n) verdict in
    let tally : o.tally ≡ p.tally = totals-only r.lines (counted n p.verdict) o.tally p.tally (subst (λ k. Totals r.lines k o.tally) at x.totals) y.totals in
    let judge : o.judge ≡ p.judge = after-only limit (take (counted n p.verdict * 16) (past ++ now)) o.judge p.judge o.tally p.tally (subst (λ k. After limit (take (k * 16) (past ++ now)) o.judge o.tally) at u) v in
    same o.verdict p.verdict o.judge p.judge o.tally p.tally verdict judge tally
  where
    same : (v w : Verdict) (j k : Judge) (t u : Tally) → v ≡ w → j ≡ k → t ≡ u → ◌≡◌ {A = Outcome} (record { verdict = v; judge = j; tally = t }) (record { verdict = w; judge = k; tally = u })
    same v w j k t u e f g = cc
