-- Laws of going on: what is judged of the bytes, what is kept of them, and that a piece after a piece is as both at once. Assumes nothing.
use Prim.Native.Nat.{ℕ, zero, suc, ◌+◌, ◌-◌, ◌*◌, ◌/◌, ◌%◌, ◌≤◌, ◌<◌}
use mathlib.Core.Bool.{Bool, true, false, cond, false≢true}
use mathlib.Core.List.{List, [], ◌++◌, append_assoc}
use mathlib.Core.Path.{◌≡◌, refl, sym, ap, ◌∙◌}
use native.Mathlib.Omega.{arith}
use native.Mathlib.Nat.{zero-add}
use lib.ListN.{length, take, drop, replicate, length-append, length-drop, take-append-drop}
use lib.Seq.{paste, length-take-le, drop-length, take-append_seam, drop-append-le, drop-drop, take-length}
use lib.Dec.{eqb, ltb}
use borrow.Author.Tests.{eqb-true, eqb-false, ltb-true, ltb-false, eq-eqb, ne_eqb, lt-ltb}
use Rattle.basics.proofs.Bools.{choice, by-test, cond-true, cond-false}
use Rattle.rules.specs.declared.Judge.{Judge}
use Rattle.rules.specs.declared.Tally.{Tally}
use Rattle.rules.specs.declared.Progress.{Progress}
use Rattle.rules.specs.declared.Verdict.{Verdict}
use Rattle.rules.specs.declared.Verdict.TheVariants.{Conforming, Breach}
use Rattle.rules.specs.Bounds.{SoundJudge, SoundTally}
use Rattle.rules.specs.Run.{Taken, taken_in as record_at, rule_of, from, next_of, run_of, records_in}
use Rattle.rules.specs.State.{diff_of}
use Rattle.rules.specs.Verdict.{most_records, broken_by, verdict_of, outcome_in, outcome_of}
use Rattle.rules.proofs.Laws.{step_good, step_bad, next_open, run_append, run_stopped, run_open, run_sound, records-append, refusal-none, outcome-judged}
use Rattle.rules.proofs.Told.{records-take}
use Rattle.feeding.specs.declared.Stop.{Stop}
use Rattle.feeding.specs.declared.Stop.TheVariants.{Going, AtBreach, PastMost}
use Rattle.feeding.specs.declared.Stream.{Stream}
use Rattle.feeding.specs.Input.{whole_in}
use Rattle.feeding.specs.State.{goes, padded, taken_in, stop_of, kept_of, state_with, state_after, gone_on, feed_of}

-- ---- what is judged
-- the records that are judged of these bytes
abbrev pub judged_of : Judge → Tally → List ℕ → Progress
judged_of j t bytes = run_of (from j t) (records_in (taken_in t bytes) bytes)

pub taken-fits : (t : Tally) (bytes : List ℕ) → taken_in t bytes * 16 ≤ length bytes
unfolding taken_in
taken-fits t bytes = omega arith

-- the judge's call on just their bytes is accepted, and gives what they come to
pub outcome-taken : (bytes : List ℕ) (j : Judge) (t : Tally) → SoundJudge j → SoundTally t → t.records ≤ most_records
    → outcome_of (take (taken_in t bytes * 16) bytes) j t ≡ outcome_in (judged_of j t bytes)
unfolding taken_in
outcome-taken bytes j t hj ht room =
    let m : ℕ = taken_in t bytes in
    let part : List ℕ = take (m * 16) bytes in
    let fits : m * 16 ≤ length bytes = taken-fits t bytes in
    let size : length part ≡ m * 16 = length-take-le (m * 16) bytes fits in
    let whole : length part / 16 ≡ m = omega arith in
    outcome-judged part j t (refusal-none (length part) j t hj ht (omega arith) (omega arith))
    ∙ ap (λ (k : ℕ). outcome_in (run_of (from j t) (records_in k part))) whole
    ∙ ap (λ (rs : List Taken). outcome_in (run_of (from j t) rs)) (records-take m bytes fits)

-- more records of more bytes are judged after the first m
pub run_more : (p : Progress) (m n : ℕ) (x y : List ℕ) → m ≤ n → m * 16 ≤ length x
    → run_of p (records_in n (x ++ y)) ≡ run_of (run_of p (records_in m x)) (records_in (n - m) (drop (m * 16) x ++ y))
run_more p m n x y le fits =
    let a : List ℕ = take (m * 16) x in
    let b : List ℕ = drop (m * 16) x ++ y in
    let cut : x ++ y ≡ a ++ b = ap (λ (l : List ℕ). l ++ y) (sym (take-append-drop (m * 16) x)) ∙ append_assoc a (drop (m * 16) x) y in
    let count : n ≡ m + (n - m) = omega arith in
    ap (λ (l : List ℕ). run_of p (records_in n l)) cut
    ∙ ap (λ (k : ℕ). run_of p (records_in k (a ++ b))) count
    ∙ ap (run_of p) (records-append m (n - m) a b (length-take-le (m * 16) x fits))
    ∙ run_append p (records_in m a) (records_in (n - m) b)
    ∙ ap (λ (rs : List Taken). run_of (run_of p rs) (records_in (n - m) b)) (records-take m x fits)

-- where none of n records breaks a rule, n are counted
pub run_count : (p : Progress) (n : ℕ) (bytes : List ℕ) → p.rule ≡ 0 → (run_of p (records_in n bytes)).rule ≡ 0 → (run_of p (records_in n bytes)).tally.records ≡ p.tally.records + n
run_count p zero bytes z e = omega arith
run_count p (suc n) bytes z e =
    by-test (eqb (next_of p r).rule 0) (λ f. going (eqb-true (next_of p r).rule 0 f) (run_count (next_of p r) n (drop 16 bytes) (eqb-true (next_of p r).rule 0 f) e)) (λ f. absurd (stopped (eqb-false (next_of p r).rule 0 f)))
  where
    r : Taken
    r = record_at (take 16 bytes)

    d : ℕ
    d = diff_of p.judge r.lines.stamp

    stopped : ((next_of p r).rule ≡ 0 → ⊥) → ⊥
    stopped ne = ne (ap (λ (q : Progress). q.rule) (sym (run_stopped (next_of p r) (records_in n (drop 16 bytes)) ne)) ∙ e)

    unbroken : (next_of p r).rule ≡ 0 → (rule_of p.judge r d).number ≡ 0
    unbroken f =
        by-test (eqb (rule_of p.judge r d).number 0) (eqb-true (rule_of p.judge r d).number 0)
        (λ g. ap (λ (q : Progress). q.rule) (sym (next_open p r z ∙ step_bad p.judge p.tally r (eqb-false (rule_of p.judge r d).number 0 g))) ∙ f)

    going : (next_of p r).rule ≡ 0 → (run_of (next_of p r) (records_in n (drop 16 bytes))).tally.records ≡ (next_of p r).tally.records + n → (run_of (next_of p r) (records_in n (drop 16 bytes))).tally.records ≡ p.tally.records + suc n
    going f rest =
        let one : (next_of p r).tally.records ≡ p.tally.records + 1 = ap (λ (q : Progress). q.tally.records) (next_open p r z ∙ step_good p.judge p.tally r (unbroken f)) in
        omega arith

-- ---- what is kept
drop_replicate : (n m : ℕ) → n ≤ m → ◌≡◌ {A = List ℕ} (drop n (replicate m 0)) (replicate (m - n) 0)
drop_replicate zero m le = let e : m ≡ m - 0 = omega arith in ap (λ (k : ℕ). replicate k 0) e
drop_replicate (suc n) zero le = absurd (omega arith)
drop_replicate (suc n) (suc m) le = let e : m - n ≡ suc m - suc n = omega arith in drop_replicate n m (omega arith) ∙ ap (λ (k : ℕ). replicate k 0) e

pub padded_is : (bytes : List ℕ) → length bytes ≤ 16 → paste (replicate 16 0) 0 bytes (length bytes) ≡ padded bytes
unfolding padded
padded_is bytes le =
    ap (λ (k : ℕ). take (length bytes) bytes ++ drop k (replicate 16 0)) (zero-add (length bytes))
    ∙ ap (λ (l : List ℕ). l ++ drop (length bytes) (replicate 16 0)) (take-length bytes)
    ∙ ap (λ (l : List ℕ). bytes ++ l) (drop_replicate (length bytes) 16 le)

pub kept_is : (stop : Stop) (bytes : List ℕ) → drop (cond (goes stop) (whole_in bytes * 16) (length bytes)) bytes ≡ kept_of stop (drop (whole_in bytes * 16) bytes)
unfolding kept_of
kept_is stop bytes = go (goes stop)
  where
    go : (b : Bool) → drop (cond b (whole_in bytes * 16) (length bytes)) bytes ≡ cond b (drop (whole_in bytes * 16) bytes) []
    go true = refl
    go false = drop-length bytes

-- where the bytes that are kept begin: within all bytes, and fewer than sixteen are left
pub behind_in : (b : Bool) (bytes : List ℕ) (at : ℕ) → at ≡ cond b (whole_in bytes * 16) (length bytes) → (at ≤ length bytes) × (length bytes - at < 16)
behind_in true bytes at e = (omega arith, omega arith)
behind_in false bytes at e = (omega arith, omega arith)

-- ---- the state, by what ended the judging
pub breach-verdict : (p : Progress) → (p.rule ≡ 0 → ⊥) → verdict_of p ≡ Breach (broken_by p)
unfolding verdict_of
breach-verdict p ne = cond-false _ _ (ne_eqb p.rule 0 ne)

pub conforming_verdict : (p : Progress) → p.rule ≡ 0 → verdict_of p ≡ Conforming
unfolding verdict_of
conforming_verdict p e = cond-true _ _ (eq-eqb p.rule 0 e)

-- a breach is kept whatever comes behind it
pub after-breach : (past : Bool) (p : Progress) (rest : List ℕ) → (p.rule ≡ 0 → ⊥)
    → state_after past p rest ≡ state_with (AtBreach (broken_by p)) p.judge p.tally []
unfolding kept_of
after-breach past p rest ne = ap (λ (v : Verdict). state_with (stop_of past v) p.judge p.tally (kept_of (stop_of past v) rest)) (breach-verdict p ne)

-- so is a whole record past 2^30
pub after-past : (p : Progress) (rest : List ℕ) → p.rule ≡ 0 → state_after true p rest ≡ state_with PastMost p.judge p.tally []
unfolding kept_of
after-past p rest e = ap (λ (v : Verdict). state_with (stop_of true v) p.judge p.tally (kept_of (stop_of true v) rest)) (conforming_verdict p e)

pub after-going : (p : Progress) (rest : List ℕ) → p.rule ≡ 0 → state_after false p rest ≡ state_with Going p.judge p.tally rest
unfolding kept_of
after-going p rest e = ap (λ (v : Verdict). state_with (stop_of false v) p.judge p.tally (kept_of (stop_of false v) rest)) (conforming_verdict p e)

-- ---- piece after piece
-- a state that waits for more holds the torn record's bytes
pub feed_going : (j : Judge) (t : Tally) (rest y : List ℕ) → feed_of (state_with Going j t rest) y ≡ gone_on j t (rest ++ y)
unfolding feed_of padded
feed_going j t rest y = ap (λ (l : List ℕ). gone_on j t (l ++ y)) (take-append_seam rest (replicate (16 - length rest) 0))

pub feed_ended : (s : Stream) (y : List ℕ) → goes s.stop ≡ false → feed_of s y ≡ s
unfolding feed_of
feed_ended s y e = cond-false _ _ e

module _ (j : Judge) (t : Tally) (room : t.records ≤ most_records) (x y : List ℕ) where
  taken_more : taken_in t x ≤ taken_in t (x ++ y)
  unfolding taken_in
  taken_more = let long = length-append x y in omega arith

  -- the records of all the bytes: those of x, and then as many as are taken more
  all-judged : judged_of j t (x ++ y) ≡ run_of (judged_of j t x) (records_in (taken_in t (x ++ y) - taken_in t x) (drop (taken_in t x * 16) x ++ y))
  all-judged = run_more (from j t) (taken_in t x) (taken_in t (x ++ y)) x y taken_more (taken-fits t x)

  more-breach : ((judged_of j t x).rule ≡ 0 → ⊥) → feed_of (gone_on j t x) y ≡ gone_on j t (x ++ y)
  unfolding gone_on
  more-breach ne =
      let p : Progress = judged_of j t x in
      let same : judged_of j t (x ++ y) ≡ p = all-judged ∙ run_stopped p (records_in (taken_in t (x ++ y) - taken_in t x) (drop (taken_in t x * 16) x ++ y)) ne in
      let here = after-breach (ltb most_records (t.records + whole_in x)) p (drop (whole_in x * 16) x) ne in
      feed_ended (gone_on j t x) y (ap (λ (s : Stream). goes s.stop) here)
      ∙ here
      ∙ sym (after-breach (ltb most_records (t.records + whole_in (x ++ y))) p (drop (whole_in (x ++ y) * 16) (x ++ y)) ne)
      ∙ ap (λ (q : Progress). state_after (ltb most_records (t.records + whole_in (x ++ y))) q (drop (whole_in (x ++ y) * 16) (x ++ y))) (sym same)

  more-past : (judged_of j t x).rule ≡ 0 → ltb most_records (t.records + whole_in x) ≡ true → feed_of (gone_on j t x) y ≡ gone_on j t (x ++ y)
  unfolding gone_on taken_in
  more-past e over =
      let p : Progress = judged_of j t x in
      let long = length-append x y in
      let far : most_records < t.records + whole_in x = ltb-true most_records (t.records + whole_in x) over in
      let none : taken_in t (x ++ y) - taken_in t x ≡ 0 = omega arith in
      let same : judged_of j t (x ++ y) ≡ p = all-judged ∙ ap (λ (k : ℕ). run_of p (records_in k (drop (taken_in t x * 16) x ++ y))) none in
      let farther : ltb most_records (t.records + whole_in (x ++ y)) ≡ true = lt-ltb most_records (t.records + whole_in (x ++ y)) (omega arith) in
      let here : gone_on j t x ≡ state_with PastMost p.judge p.tally [] = ap (λ (b : Bool). state_after b p (drop (whole_in x * 16) x)) over ∙ after-past p (drop (whole_in x * 16) x) e in
      feed_ended (gone_on j t x) y (ap (λ (s : Stream). goes s.stop) here)
      ∙ here
      ∙ sym (after-past p (drop (whole_in (x ++ y) * 16) (x ++ y)) e)
      ∙ ap (λ (b : Bool). state_after b p (drop (whole_in (x ++ y) * 16) (x ++ y))) (sym farther)
      ∙ ap (λ (q : Progress). state_after (ltb most_records (t.records + whole_in (x ++ y))) q (drop (whole_in (x ++ y) * 16) (x ++ y))) (sym same)

  -- the torn record that x leaves, with y behind it
  abbrev left : List ℕ
  left = drop (whole_in x * 16) x ++ y

  left_whole : whole_in (x ++ y) ≡ whole_in x + whole_in left
  left_whole = let a = length-append x y in
      let b = length-append (drop (whole_in x * 16) x) y in
      let c = length-drop (whole_in x * 16) x in
      omega arith

  left_rest : drop (whole_in left * 16) left ≡ drop (whole_in (x ++ y) * 16) (x ++ y)
  left_rest =
      let n : ℕ = whole_in x * 16 in
      let fits : n ≤ length x = omega arith in
      let place : n + whole_in left * 16 ≡ whole_in (x ++ y) * 16 = let w = left_whole in omega arith in
      ap (drop (whole_in left * 16)) (sym (drop-append-le n x y fits)) ∙ drop-drop (whole_in left * 16) n (x ++ y) ∙ ap (λ (k : ℕ). drop k (x ++ y)) place

  more-going : (judged_of j t x).rule ≡ 0 → ltb most_records (t.records + whole_in x) ≡ false → feed_of (gone_on j t x) y ≡ gone_on j t (x ++ y)
  unfolding gone_on taken_in
  more-going e under =
      let p : Progress = judged_of j t x in
      let rest : List ℕ = drop (whole_in x * 16) x in
      let near : t.records + whole_in x ≤ most_records = ltb-false most_records (t.records + whole_in x) under in
      let taken : taken_in t x ≡ whole_in x = omega arith in
      let counted : p.tally.records ≡ t.records + taken_in t x = run_count (from j t) (taken_in t x) x refl e in
      let whole = left_whole in
      let further : taken_in t (x ++ y) - taken_in t x ≡ taken_in p.tally left = omega arith in
      let sums : p.tally.records + whole_in left ≡ t.records + whole_in (x ++ y) = omega arith in
      let here : gone_on j t x ≡ state_with Going p.judge p.tally rest = ap (λ (b : Bool). state_after b p rest) under ∙ after-going p rest e in
      let same : judged_of p.judge p.tally left ≡ judged_of j t (x ++ y) =
      ap (λ (q : Progress). run_of q (records_in (taken_in p.tally left) left)) (sym (run_open j t (records_in (taken_in t x) x) e))
      ∙ ap (λ (k : ℕ). run_of p (records_in k left)) (sym further)
      ∙ ap (λ (k : ℕ). run_of p (records_in (taken_in t (x ++ y) - taken_in t x) (drop (k * 16) x ++ y))) (sym taken)
      ∙ sym all-judged in
      ap (λ (s : Stream). feed_of s y) here
      ∙ feed_going p.judge p.tally rest y
      ∙ ap (λ (k : ℕ). state_after (ltb most_records k) (judged_of p.judge p.tally left) (drop (whole_in left * 16) left)) sums
      ∙ ap (λ (q : Progress). state_after (ltb most_records (t.records + whole_in (x ++ y))) q (drop (whole_in left * 16) left)) same
      ∙ ap (state_after (ltb most_records (t.records + whole_in (x ++ y))) (judged_of j t (x ++ y))) left_rest

  -- A PIECE AFTER A PIECE is as both at once
  pub feed_more : feed_of (gone_on j t x) y ≡ gone_on j t (x ++ y)
  feed_more =
      by-test (eqb (judged_of j t x).rule 0)
      (λ e. by-test (ltb most_records (t.records + whole_in x)) (more-past (eqb-true (judged_of j t x).rule 0 e)) (more-going (eqb-true (judged_of j t x).rule 0 e)))
      (λ e. more-breach (eqb-false (judged_of j t x).rule 0 e))

-- ---- what going on keeps
-- the bounds
pub gone_sound : (j : Judge) (t : Tally) (x : List ℕ) → SoundJudge j → SoundTally t → t.records ≤ most_records
    → SoundJudge (gone_on j t x).judge × (SoundTally (gone_on j t x).tally × ((gone_on j t x).tally.records ≤ most_records))
unfolding gone_on taken_in
gone_sound j t x hj ht room =
    let h = run_sound (from j t) (taken_in t x) x hj ht in
    let count = h.count in
    (h.judge, (h.tally, omega arith))

-- fewer than sixteen bytes of a torn record
pub gone_held : (j : Judge) (t : Tally) (x : List ℕ) → (gone_on j t x).held < 16
unfolding gone_on kept_of
gone_held j t x =
    choice (λ (l : List ℕ). length l < 16) (goes (gone_on j t x).stop)
    (λ _. let h = length-drop (whole_in x * 16) x in omega arith) (λ _. omega arith)

-- none behind whole records
pub gone_whole : (j : Judge) (t : Tally) (x : List ℕ) → length x % 16 ≡ 0 → (gone_on j t x).held ≡ 0
unfolding gone_on kept_of
gone_whole j t x even =
    choice (λ (l : List ℕ). length l ≡ 0) (goes (gone_on j t x).stop)
    (λ _. let h = length-drop (whole_in x * 16) x in omega arith) (λ _. refl)

-- so what comes behind them is judged by itself
pub feed_whole : (j : Judge) (t : Tally) (x y : List ℕ) → length x % 16 ≡ 0 → goes (gone_on j t x).stop ≡ true → feed_of (gone_on j t x) y ≡ gone_on (gone_on j t x).judge (gone_on j t x).tally y
unfolding feed_of
feed_whole j t x y even g =
    let s : Stream = gone_on j t x in
    cond-true _ _ g ∙ ap (λ (k : ℕ). gone_on s.judge s.tally (take k s.torn ++ y)) (gone_whole j t x even)

-- while the judging goes on, no whole record past 2^30 was given
pub going-within : (j : Judge) (t : Tally) (x : List ℕ) → goes (gone_on j t x).stop ≡ true → t.records + whole_in x ≤ most_records
unfolding gone_on
going-within j t x g =
    by-test (ltb most_records (t.records + whole_in x))
    (λ over. by-test (eqb p.rule 0)
    (λ e. absurd (false≢true (sym (ap (λ (s : Stream). goes s.stop) (ap (λ (b : Bool). state_after b p rest) over ∙ after-past p rest (eqb-true p.rule 0 e))) ∙ g)))
    (λ e. absurd (false≢true (sym (ap (λ (s : Stream). goes s.stop) (after-breach (ltb most_records (t.records + whole_in x)) p rest (eqb-false p.rule 0 e))) ∙ g))))
    (ltb-false most_records (t.records + whole_in x))
  where
    p : Progress
    p = judged_of j t x

    rest : List ℕ
    rest = drop (whole_in x * 16) x
