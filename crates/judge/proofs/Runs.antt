-- Laws of the loops over a recording: what is left to judge leads to the same end. Assumes nothing.
use Prim.Native.Nat.{ℕ, suc, ◌+◌, ◌-◌, ◌*◌, ◌/◌, ◌^◌, ◌≤◌, ◌<◌}
use mathlib.Core.List.{List}
use mathlib.Core.Path.{◌≡◌, refl, sym, ap, subst, ◌∙◌}
use native.Mathlib.Omega.{arith}
use native.Mathlib.Nat.{sub-zero}
use lib.ListN.{length, take, drop, length-drop}
use lib.Seq.{length-take-le, take_all, take-take, drop-drop}
use Rattle.record.specs.Packing.{lines_of, spare_of}
use Rattle.record.specs.declared.Record.{Record}
use Rattle.rules.specs.declared.Judge.{Judge}
use Rattle.rules.specs.declared.Tally.{Tally}
use Rattle.rules.specs.declared.Progress.{Progress}
use Rattle.rules.specs.Bounds.{SoundJudge, SoundTally}
use Rattle.rules.specs.Run.{Taken, taken_in, records_in, from, step_of, run_of}
use Rattle.rules.proofs.Laws.{Tidy, step_tidy, SoundProgress, next_open, run_stopped, step_sound, arb-le}
use Rattle.judge.specs.Quick.{Ready, Left}
use Rattle.judge.specs.declared.quick.Reached.{Reached}
use Rattle.judge.proofs.Steps.{taken_of, step_ready}

-- the part of a slice from a place on, as the code lends it
pub rest_is : (xs : List ℕ) (at : ℕ) → take (length xs - at) (drop at xs) ≡ drop at xs
rest_is xs at = take_all (length xs - at) (drop at xs) (simp length-drop (omega arith))

-- the record at place i
abbrev pub record_at : List ℕ → ℕ → Taken
record_at s i = taken_in (take 16 (drop (i * 16) s))

-- from the sixteen bytes that the code lends
pub record_of : (s : List ℕ) (i : ℕ) (lines : Record) (spare : ℕ) → i < length s / 16 → lines ≡ lines_of (take (i * 16 + 16 - i * 16) (drop (i * 16) s)) → spare ≡ spare_of (take (i * 16 + 16 - i * 16) (drop (i * 16) s))
    → ◌≡◌ {A = Taken} (record { lines = lines; spare = spare }) (record_at s i)
record_of s i lines spare lt e f =
    let sixteen : i * 16 + 16 - i * 16 ≡ 16 = omega arith in
    let rest : List ℕ = drop (i * 16) s in
    let size : length (take 16 rest) ≡ 16 = length-take-le 16 rest (simp length-drop (omega arith)) in
    taken_of (take 16 rest) lines spare (omega arith) (e ∙ ap (λ (k : ℕ). lines_of (take k rest)) sixteen) (f ∙ ap (λ (k : ℕ). spare_of (take k rest)) sixteen)
    ∙ ap taken_in (take-take 16 16 rest (omega arith))

pub part_record : (s : List ℕ) (i : ℕ) (k : Judge) (u : Tally) (p : Progress) → p ≡ step_of k u (taken_in (take 16 (take (length s - i * 16) (drop (i * 16) s)))) → p ≡ step_of k u (record_at s i)
part_record s i k u p e = e ∙ ap (λ (x : List ℕ). step_of k u (taken_in (take 16 x))) (rest_is s (i * 16))

-- one record of what is left
run_one : (s : List ℕ) (j : Judge) (t : Tally) (m i : ℕ) → run_of (from j t) (records_in (suc m) (drop (i * 16) s)) ≡ run_of (step_of j t (record_at s i)) (records_in m (drop ((i + 1) * 16) s))
run_one s j t m i =
    ap (λ (x : Progress). run_of x (records_in m (drop 16 (drop (i * 16) s)))) (next_open (from j t) (record_at s i) refl)
    ∙ ap (λ (x : List ℕ). run_of (step_of j t (record_at s i)) (records_in m x)) (drop-drop 16 (i * 16) s ∙ ap (λ (k : ℕ). drop k s) next_at)
  where
    next_at : i * 16 + 16 ≡ (i + 1) * 16
    next_at = omega arith

-- and of n records in all
run_more : (s : List ℕ) (j : Judge) (t : Tally) (n i : ℕ) → i < n → run_of (step_of j t (record_at s i)) (records_in (n - (i + 1)) (drop ((i + 1) * 16) s)) ≡ run_of (from j t) (records_in (n - i) (drop (i * 16) s))
run_more s j t n i lt =
    let more : n - i ≡ suc (n - (i + 1)) = omega arith in
    sym (run_one s j t (n - (i + 1)) i) ∙ sym (ap (λ (k : ℕ). run_of (from j t) (records_in k (drop (i * 16) s))) more)

-- ---- the quick loop
abbrev pub reached : ℕ → Judge → Tally → Reached
reached i k u = record { done = i; judge = k; tally = u }

pub left_starts : (s : List ℕ) (j : Judge) (t : Tally) → Ready j t → t.records + length s / 16 ≤ 2 ^ 30 → Left s j t (reached 0 j t)
left_starts s j t h room =
    record { le = omega arith; ready = h; room = omega arith; same = ap (λ (k : ℕ). run_of (from j t) (records_in k s)) (sub-zero (length s / 16)) }

pub left_again : (s : List ℕ) (j : Judge) (t : Tally) (i : ℕ) (k : Judge) (u : Tally) (p : Progress) → Left s j t (reached i k u) → i < length s / 16 → p.rule ≡ 0 → p ≡ step_of k u (record_at s i) → Left s j t (reached (i + 1) p.judge p.tally)
left_again s j t i k u p g lt z e =
    let r = record_at s i in
    let la = arb-le (take 16 (drop (i * 16) s)) in
    let h = step_sound k u r g.ready.judge g.ready.tally la in
    let q : Ready (step_of k u r).judge (step_of k u r).tally = step_ready k u r g.ready.judge g.ready.tally la (sym (ap (λ (x : Progress). x.rule) e) ∙ z) in
    let m = (subst (λ (x : Progress). SoundProgress (u.records + 1) x) (sym e) h).count in
    let room = g.room in
    record {
      le = omega arith;
      ready = subst (λ (x : Progress). Ready x.judge x.tally) (sym e) q;
      room = omega arith;
      same = ap (λ (x : Progress). run_of x (records_in (length s / 16 - (i + 1)) (drop ((i + 1) * 16) s))) (sym (subst Tidy (sym e) (step_tidy k u (record_at s i)) z) ∙ e) ∙ run_more s k u (length s / 16) i lt ∙ g.same;
    }

-- ---- the loop over a recording
pub record Going (s : List ℕ) (n : ℕ) (j : Judge) (t : Tally) (k : Judge) (u : Tally) (i : ℕ) : Type 0 where
  pub whole : n ≡ length s / 16
  pub le : i ≤ n
  pub judge : SoundJudge k
  pub tally : SoundTally u
  pub room : u.records + (n - i) ≤ 2 ^ 30
  pub same : run_of (from k u) (records_in (n - i) (drop (i * 16) s)) ≡ run_of (from j t) (records_in n s)

pub going-starts : (s : List ℕ) (j : Judge) (t : Tally) → SoundJudge j → SoundTally t → t.records + length s / 16 ≤ 2 ^ 30 → Going s (length s / 16) j t j t 0
going-starts s j t hj ht room =
    record { whole = refl; le = omega arith; judge = hj; tally = ht; room = omega arith; same = ap (λ (k : ℕ). run_of (from j t) (records_in k s)) (sub-zero (length s / 16)) }

-- a breach ends it
pub going_stops : (s : List ℕ) (n : ℕ) (j : Judge) (t : Tally) (k : Judge) (u : Tally) (i : ℕ) (p : Progress) → Going s n j t k u i → i < n → p ≡ step_of k u (record_at s i) → (p.rule ≡ 0 → ⊥) → p ≡ run_of (from j t) (records_in (length s / 16) s)
going_stops s n j t k u i p g lt e ne =
    sym (run_stopped p (records_in (n - (i + 1)) (drop ((i + 1) * 16) s)) ne)
    ∙ ap (λ (x : Progress). run_of x (records_in (n - (i + 1)) (drop ((i + 1) * 16) s))) e
    ∙ run_more s k u n i lt
    ∙ g.same
    ∙ ap (λ (m : ℕ). run_of (from j t) (records_in m s)) g.whole

-- a record judged, ready for the quick loop
pub going-ready : (s : List ℕ) (n : ℕ) (j : Judge) (t : Tally) (k : Judge) (u : Tally) (i : ℕ) (p : Progress) → Going s n j t k u i → i < n → p ≡ step_of k u (record_at s i) → p.rule ≡ 0
    → Ready p.judge p.tally × (p.tally.records + length (drop (i * 16 + 16) s) / 16 ≤ 2 ^ 30)
going-ready s n j t k u i p g lt e z =
    let la = arb-le (take 16 (drop (i * 16) s)) in
    let h = step_sound k u (record_at s i) g.judge g.tally la in
    let q : Ready (step_of k u (record_at s i)).judge (step_of k u (record_at s i)).tally = step_ready k u (record_at s i) g.judge g.tally la (sym (ap (λ (x : Progress). x.rule) e) ∙ z) in
    let m = (subst (λ (x : Progress). SoundProgress (u.records + 1) x) (sym e) h).count in
    let room = g.room in
    let whole = g.whole in
    let long = length-drop (i * 16 + 16) s in
    (subst (λ (x : Progress). Ready x.judge x.tally) (sym e) q, omega arith)

-- and what the quick loop adds
pub going_again : (s : List ℕ) (n : ℕ) (j : Judge) (t : Tally) (k : Judge) (u : Tally) (i : ℕ) (p : Progress) (r : Reached) → Going s n j t k u i → i < n → p ≡ step_of k u (record_at s i) → p.rule ≡ 0
    → Left (drop (i * 16 + 16) s) p.judge p.tally r → Going s n j t r.judge r.tally (i + 1 + r.done)
going_again s n j t k u i p r g lt e z l =
    let whole = g.whole in
    let long = length-drop (i * 16 + 16) s in
    let size : length (drop (i * 16 + 16) s) / 16 ≡ n - (i + 1) = omega arith in
    let le = l.le in
    let room = l.room in
    let left : n - (i + 1 + r.done) ≡ length (drop (i * 16 + 16) s) / 16 - r.done = omega arith in
    let at : (i + 1 + r.done) * 16 ≡ i * 16 + 16 + r.done * 16 = omega arith in
    let here : i * 16 + 16 ≡ (i + 1) * 16 = omega arith in
    record {
      whole = whole;
      le = omega arith;
      judge = l.ready.judge;
      tally = l.ready.tally;
      room = omega arith;
      same = ap (λ (m : ℕ). run_of (from r.judge r.tally) (records_in m (drop ((i + 1 + r.done) * 16) s))) left
          ∙ ap (λ (x : List ℕ). run_of (from r.judge r.tally) (records_in (length (drop (i * 16 + 16) s) / 16 - r.done) x)) (ap (λ (m : ℕ). drop m s) at ∙ sym (drop-drop (r.done * 16) (i * 16 + 16) s))
          ∙ l.same
          ∙ ap (λ (m : ℕ). run_of (from p.judge p.tally) (records_in m (drop (i * 16 + 16) s))) size
          ∙ ap (λ (m : ℕ). run_of (from p.judge p.tally) (records_in (n - (i + 1)) (drop m s))) here
          ∙ ap (λ (x : Progress). run_of x (records_in (n - (i + 1)) (drop ((i + 1) * 16) s))) (sym (subst Tidy (sym e) (step_tidy k u (record_at s i)) z) ∙ e)
          ∙ run_more s k u n i lt
          ∙ g.same;
    }

pub going-ends : (s : List ℕ) (n : ℕ) (j : Judge) (t : Tally) (k : Judge) (u : Tally) (i : ℕ) → Going s n j t k u i → n ≤ i → from k u ≡ run_of (from j t) (records_in (length s / 16) s)
going-ends s n j t k u i g le =
    let none : 0 ≡ n - i = omega arith in
    ap (λ (m : ℕ). run_of (from k u) (records_in m (drop (i * 16) s))) none ∙ g.same ∙ ap (λ (m : ℕ). run_of (from j t) (records_in m s)) g.whole
