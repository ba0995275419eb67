-- Whose START a record is: the judge's slot is the recording's, and there is one only. Assumes nothing.
use Prim.Native.Nat.{ℕ, suc, ◌≤◌}
use mathlib.Core.Bool.{Bool, true, false, not, cond, ◌&&◌, and-true, and-false}
use mathlib.Core.Path.{◌≡◌, sym, ap, subst, ◌∙◌}
use Rattle.std.specs.Prelude.{Option, Some, None}
use native.Mathlib.Omega.{arith}
use Rattle.basics.proofs.Bools.{by-test, push, cond-true, cond-false, choice}
use Rattle.record.specs.declared.Record.{Record}
use Rattle.rules.specs.declared.Judge.{Judge}
use Rattle.rules.specs.declared.Wave.{Wave}
use Rattle.rules.specs.Bounds.{SoundOwner}
use Rattle.rules.specs.Recording.{Lines, gap, Opened, Asked, LastOwned}
use Rattle.rules.specs.State.{asked_of, wave_of, judge_of}
use Rattle.rules.specs.Thirteen.{Rule8a}
use Rattle.rules.proofs.Places.{below, same_place, clash}
use Rattle.rules.proofs.Hold.{opened-before}
use Rattle.rules.proofs.Ride.{Forward, OwnedBy, WaveIs, asked_of_lem}
use Rattle.usage.specs.Using.{Starts, StartOf, of_wave, parked}
use Rattle.usage.specs.Charge.{slot_of, starts_in, charged_to}

-- ---- there is one
last-only : (r : Lines) (i m n : ℕ) → LastOwned r i m → LastOwned r i n → m ≡ n
last-only r i m n h g = same_place m n (λ lt. h.none n lt g.owned) (λ lt. g.none m lt h.owned)

pub start-only : (r : Lines) (i s t : ℕ) → StartOf r s i → StartOf r t i → s ≡ t
start-only r i s t (of_wave _ _ e) (of_wave _ _ f) = e ∙ sym f
start-only r i s t (of_wave _ a _) (parked _ _ unasked _ _) = absurd (unasked a)
start-only r i s t (parked _ _ unasked _ _) (of_wave _ a _) = absurd (unasked a)
start-only r i s t (parked m _ _ h e) (parked n _ _ g f) = e ∙ ap (λ k. (r k).arb) (last-only r i m n h g) ∙ sym f

pub start-starts : (r : Lines) (i s : ℕ) → StartOf r s i → Starts r i
start-starts r i s (of_wave h _ _) = h
start-starts r i s (parked _ h _ _ _) = h

-- ---- the slot that the judge charges
pub starts_in_lem : (r : Lines) (i : ℕ) → (r i).start ≡ true → (r i).reset ≡ false → starts_in (r i) ≡ true
starts_in_lem r i s nr = rw (s, nr)

-- a record that is no START is charged to the owner
pub charged-owner : (w : Wave) (r : Record) (d : ℕ) → starts_in r ≡ false → charged_to w r d ≡ slot_of w.owner
unfolding charged_to
charged-owner w r d e = simp e

pub starter : (r : Lines) (i : ℕ) (w : Wave) → Forward r i → WaveIs r i w → Rule8a r i → (r i).start ≡ true → (r i).reset ≡ false → StartOf r (charged_to w (r i) (gap r i)) i
unfolding charged_to
starter r i w f h r8a s nr =
    by-test (asked_of w (gap r i))
    (λ e. of_wave here ((asked_of_lem r i w f h).0 e) (cond-true _ _ (ap (λ (b : Bool). starts_in (r i) && b) e ∙ and-true (starts_in (r i)) ∙ starts_in_lem r i s nr)))
    (λ e. subst (λ k. StartOf r k i) (sym (cond-false _ _ (ap (λ (b : Bool). starts_in (r i) && b) e ∙ and-false (starts_in (r i))))) (by_owner w.owner h.owner (λ a. clash ((asked_of_lem r i w f h).1 a) e)))
  where
    here : Starts r i
    here = record { active = s; alive = nr }

    by_owner : (o : Option ℕ) → OwnedBy r i o → (Asked r i 1 → ⊥) → StartOf r (slot_of o) i
    by_owner None none unasked = let o = r8a s unasked in absurd (none o.0 o.1)
    by_owner (Some slot) (m, l, same) unasked = parked m here unasked l same

-- it is one of sixteen
pub owner-most : (o : Option ℕ) → SoundOwner o → slot_of o ≤ 15
owner-most None h = omega arith
owner-most (Some slot) h = h

pub charged-most : (w : Wave) (r : Record) (d : ℕ) → SoundOwner w.owner → r.arb ≤ 15 → charged_to w r d ≤ 15
unfolding charged_to
charged-most w r d h la =
    let P : ℕ → Type 0 = λ k. k ≤ 15 in
    choice P (starts_in r && asked_of w d) (λ _. la) (λ _. owner-most w.owner h)

-- ---- what is open is the owner's
abbrev pub Carries : Lines → ℕ → Judge → Type 0
Carries r i j = (k : ℕ) → Opened r i k → StartOf r (slot_of j.wave.owner) k

-- after a START the owner is the slot that it was charged to; any other record leaves the owner
pub owner-charged : (w : Wave) (r : Record) (d : ℕ) → r.reset ≡ false → charged_to w r d ≡ slot_of (wave_of w r.rqst r.start r.arb d).owner
unfolding charged_to
owner-charged w r d nr =
    ap (λ (b : Bool). cond (r.start && not b && asked_of w d) r.arb (slot_of w.owner)) nr
    ∙ ap (λ (b : Bool). cond (b && asked_of w d) r.arb (slot_of w.owner)) (and-true r.start)
    ∙ sym (push slot_of (r.start && asked_of w d) (Some r.arb) w.owner)

pub carries-next : (r : Lines) (i : ℕ) (j : Judge) → ((r i).start ≡ true → (r i).reset ≡ false → StartOf r (charged_to j.wave (r i) (gap r i)) i) → Carries r i j → Carries r (suc i) (judge_of j (r i) (gap r i))
unfolding judge_of
carries-next r i j starting h k o =
    let nr : (r i).reset ≡ false = o.unbroken i (let z = o.earlier in omega arith) (omega arith) in
    subst (λ (x : Judge). StartOf r (slot_of x.wave.owner) k) (sym (cond-false _ _ nr))
    (below k i o.earlier
    (λ lt. subst (λ (s : ℕ). StartOf r s k) (quiet (o.alone i lt (omega arith)) nr) (h k (opened-before r i k o lt)))
    (λ e. subst (λ (m : ℕ). StartOf r (slot_of (wave_of j.wave (r i).rqst (r i).start (r i).arb (gap r i)).owner) m) (sym e)
    (subst (λ (s : ℕ). StartOf r s i) (owner-charged j.wave (r i) (gap r i) nr) (starting (subst (λ (m : ℕ). (r m).start ≡ true) e o.starts) nr))))
  where
    quiet : (r i).start ≡ false → (r i).reset ≡ false → slot_of j.wave.owner ≡ slot_of (wave_of j.wave (r i).rqst (r i).start (r i).arb (gap r i)).owner
    quiet ns nr = sym (charged-owner j.wave (r i) (gap r i) (ap (λ (b : Bool). b && not (r i).reset) ns)) ∙ owner-charged j.wave (r i) (gap r i) nr
