-- A walk over the first records of any recording says where they stand in it. Assumes nothing.
use Rattle.std.proofs.Common.{◌≡◌, ℕ, zero, suc, ◌*◌, ◌^◌, ◌<◌, ◌≤◌, Bool, true, eqb, ltb, leb, sym, refl, ap, ◌∙◌, add-one, arith, ltb-true, lt-ltb, eq-eqb, ne_eqb, le-leb, leb-true}
use Rattle.std.specs.Prelude.{Err}
use Rattle.basics.specs.Answers.{Answer, accepted, refused, answered, refusal_number}
use Rattle.basics.specs.declared.refusal.Refusal.{Refusal}
use Rattle.basics.proofs.Refusals.{some_number}
use Rattle.basics.specs.Order.{unless}
use Rattle.basics.proofs.Bools.{choice, cond-true, cond-false, by-test, and_both, both_and}
use Rattle.record.specs.declared.Record.{Record}
use Rattle.rules.specs.Recording.{Lines, gap, cycle}
use Rattle.rules.specs.Verdict.{most_records}
use Rattle.rules.proofs.Stamps.{difference_less}
use Rattle.walk.specs.declared.Walk.{Walk}
use Rattle.walk.specs.declared.Walked.{Walked}
use Rattle.walk.specs.Walks.{walk_bounds, step_refusal, gap_before, onward, stayed, step_of, walked_to, walk_at}

-- ---- a step
pub in_bounds_lem : (w : Walk) → w.place ≤ most_records → w.cycle ≤ w.place * 2 ^ 32 → walk_bounds w ≡ true
unfolding walk_bounds
in_bounds_lem w p c = both_and _ _ (le-leb w.place most_records p) (le-leb w.cycle (w.place * 2 ^ 32) c)

pub none-refused : (w : Walk) → walk_bounds w ≡ true → w.place < most_records → step_refusal w ≡ 0
unfolding step_refusal
none-refused w b p = ap (λ (t : Bool). unless t 5 (unless (ltb w.place most_records) 8 0)) b ∙ ap (λ (t : Bool). unless t 8 0) (lt-ltb w.place most_records p)

pub step_on : (w : Walk) (r : Record) → step_refusal w ≡ 0 → step_of w r ≡ accepted (record { walk = onward w r; gap = gap_before w r.stamp })
unfolding step_of
step_on w r z = cond-true _ _ (eq-eqb (step_refusal w) 0 z)

-- a step that is refused hands the walk back
pub step_refused : (w : Walk) (r : Record) (number : ℕ) → number ≡ step_refusal w → (number ≡ 0 → ⊥) → refused number (stayed w) ≡ step_of w r
unfolding step_of
step_refused w r number e other =
    ap (λ (k : ℕ). refused k (stayed w)) e ∙ sym (cond-false _ _ (ne_eqb (step_refusal w) 0 (λ (z : step_refusal w ≡ 0). other (e ∙ z))))

pub step_err : (w : Walk) (r : Record) (e : Refusal) → refusal_number e ≡ step_refusal w → answered (stayed w) (Err e) ≡ step_of w r
step_err w r e same =
    let some = some_number e in
    step_refused w r (refusal_number e) same (λ (z : refusal_number e ≡ 0). omega arith)

-- one that isn't has room for a record more, and for the cycles before it
pub record Room (w : Walk) : Type 0 where
  pub places : w.place < most_records
  pub cycles : w.cycle ≤ w.place * 2 ^ 32

pub has_room : (w : Walk) → step_refusal w ≡ 0 → Room w
unfolding step_refusal walk_bounds
has_room w z =
    by-test (walk_bounds w)
    (λ b. by-test (ltb w.place most_records)
    (λ p. record { places = ltb-true w.place most_records p; cycles = leb-true w.cycle (w.place * 2 ^ 32) (and_both (leb w.place most_records) (leb w.cycle (w.place * 2 ^ 32)) b).1 })
    (λ p. absurd (eight (ap (λ (t : Bool). unless t 5 (unless (ltb w.place most_records) 8 0)) b ∙ ap (λ (t : Bool). unless t 8 0) p) z)))
    (λ b. absurd (five (ap (λ (t : Bool). unless t 5 (unless (ltb w.place most_records) 8 0)) b) z))
  where
    eight : {n : ℕ} → n ≡ 8 → n ≡ 0 → ⊥
    eight e f = omega arith

    five : {n : ℕ} → n ≡ 5 → n ≡ 0 → ⊥
    five e f = omega arith

gap-before_less : (w : Walk) (stamp : ℕ) → gap_before w stamp < 2 ^ 32
unfolding gap_before
gap-before_less w stamp = choice (λ (g : ℕ). g < 2 ^ 32) (eqb w.place 0) (λ _. omega arith) (λ _. difference_less w.last.stamp stamp)

-- a step keeps to the bounds
pub onward_bounds : (w : Walk) (r : Record) → step_refusal w ≡ 0 → walk_bounds (onward w r) ≡ true
unfolding onward
onward_bounds w r z =
    let room = has_room w z in
    let less = gap-before_less w r.stamp in
    in_bounds_lem (onward w r) (omega (arith, room.places)) (omega (arith, room.cycles))

-- ---- a recording
gap_less : (r : Lines) (i : ℕ) → gap r i < 2 ^ 32
gap_less r zero = omega arith
gap_less r (suc i) = difference_less (r i).stamp (r (suc i)).stamp

pub cycle-most : (r : Lines) (i : ℕ) → cycle r i ≤ i * 2 ^ 32
cycle-most r zero = omega arith
cycle-most r (suc i) = let a = cycle-most r i in let b = gap_less r (suc i) in omega arith

-- the gap that a walk finds before record i is the recording's, and behind it the walk stands at the next place
pub gap_at : (r : Lines) (i : ℕ) → gap_before (walk_at r i) (r i).stamp ≡ gap r i
unfolding gap_before
gap_at r zero = refl
gap_at r (suc i) = cond-false _ _ (ne_eqb (suc i) 0 (λ (e : suc i ≡ 0). omega arith))

pub onward_at : (r : Lines) (i : ℕ) → onward (walk_at r i) (r i) ≡ walk_at r (suc i)
unfolding onward gap_before
onward_at r zero = ap (λ (g : ℕ). record { place = 1; cycle = g; last = r 0 }) (gap_at r 0)
onward_at r (suc i) = rw (add-one, gap_at r (suc i))

pub bounds_at : (r : Lines) (i : ℕ) → i ≤ most_records → walk_bounds (walk_at r i) ≡ true
bounds_at r zero h = in_bounds_lem _ (omega arith) (omega arith)
bounds_at r (suc i) h = in_bounds_lem (walk_at r (suc i)) h (let m = cycle-most r i in omega arith)

pub place_at : (r : Lines) (i : ℕ) → (walk_at r i).place ≡ i
place_at r zero = refl
place_at r (suc i) = refl

-- EACH STEP of a walk over any recording, up to 2^30 records: it is accepted, its gap is the recording's, and the cycle that it comes to is the one in
-- which the record stands
pub step_at : (r : Lines) (i : ℕ) → i < most_records → step_of (walk_at r i) (r i) ≡ accepted (record { walk = walk_at r (suc i); gap = gap r i })
step_at r i lt =
    step_on (walk_at r i) (r i) (none-refused (walk_at r i) (bounds_at r i (omega arith)) (rw place_at lt))
    ∙ rw (onward_at r i, gap_at r i)

-- and so the walk over the first n records
pub walked : (r : Lines) (n : ℕ) → n ≤ most_records → walked_to r n ≡ walk_at r n
walked r zero h = refl
walked r (suc n) h =
    ap (λ (w : Walk). (step_of w (r n)).value.walk) (walked r n (omega arith))
    ∙ ap (λ (w : Answer Walked). w.value.walk) (step_at r n (omega arith))
