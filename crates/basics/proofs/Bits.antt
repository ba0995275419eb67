-- Laws of the bits of a number. Assumes nothing.
use Prim.Native.Nat.{ℕ, zero, suc, ◌-◌, ◌/◌, ◌%◌, ◌^◌, ◌≤◌, ◌<◌}
use mathlib.Core.Path.{◌≡◌, refl, sym, ap, ◌∙◌}
use mathlib.Core.Bool.{Bool, true, false}
use native.Mathlib.Nat.{pow-succ', div-div-eq-div-mul}
use native.Mathlib.Omega.{arith}
use borrow.Author.Tests.{eq-eqb, ne_eqb, eqb-true, eqb-false}
use Rattle.basics.specs.Lines.{one, bit, active}

pub one-most : (t : Bool) → one t ≤ 1
one-most true = omega arith
one-most false = omega arith

pub bit-zero : (w : ℕ) → bit 0 w ≡ w % 2
unfolding bit
bit-zero w = omega arith

pub bit-suc : (i w : ℕ) → bit (suc i) w ≡ bit i (w / 2)
unfolding bit
bit-suc i w = rw (pow-succ', ← div-div-eq-div-mul w 2 (2 ^ i))

pub bit_less : (i w : ℕ) → bit i w < 2
unfolding bit
bit_less i w = omega arith

-- a number with an active line is at least that line's weight
pub weight_le : (i w : ℕ) → bit i w ≡ 1 → 2 ^ i ≤ w
weight_le zero w h = omega (arith, bit-zero w)
weight_le (suc i) w h = let k : 2 ^ i ≤ w / 2 = weight_le i (w / 2) (sym (bit-suc i w) ∙ h) in omega arith

half_less : (i w : ℕ) → (w - 2 ^ suc i) / 2 ≡ w / 2 - 2 ^ i
half_less i w = omega arith

-- a line taken away is inactive
pub bit_gone : (i w : ℕ) → bit i w ≡ 1 → bit i (w - 2 ^ i) ≡ 0
bit_gone zero w h = omega (arith, bit-zero w, bit-zero (w - 1))
bit_gone (suc i) w h = bit-suc i (w - 2 ^ suc i) ∙ ap (bit i) (half_less i w) ∙ bit_gone i (w / 2) (sym (bit-suc i w) ∙ h)

-- and the others are as they were
pub bit_kept : (i j w : ℕ) → bit i w ≡ 1 → (i ≡ j → ⊥) → bit j (w - 2 ^ i) ≡ bit j w
bit_kept zero zero w h d = absurd (d refl)
bit_kept zero (suc j) w h d =
    let e : (w - 1) / 2 ≡ w / 2 = omega (arith, bit-zero w) in
    bit-suc j (w - 1) ∙ ap (bit j) e ∙ sym (bit-suc j w)
bit_kept (suc i) zero w h d =
    omega (arith, bit-zero w, bit-zero (w - 2 ^ suc i), weight_le (suc i) w h)
bit_kept (suc i) (suc j) w h d =
    bit-suc j (w - 2 ^ suc i) ∙ ap (bit j) (half_less i w) ∙ bit_kept i j (w / 2) (sym (bit-suc i w) ∙ h) (λ e. d (ap suc e)) ∙ sym (bit-suc j w)

-- a number below 2 ^ k with no active line below k is 0
pub none-zero : (k w : ℕ) → w < 2 ^ k → ((i : ℕ) → i < k → bit i w ≡ 0) → w ≡ 0
none-zero zero w h f = omega arith
none-zero (suc k) w h f =
    let e : w / 2 ≡ 0 = none-zero k (w / 2) (omega arith) (λ i l. sym (bit-suc i w) ∙ f (suc i) (omega arith)) in
    omega (arith, bit-zero w, f 0 (omega arith))

-- the test `active` and the bit
pub active-bit : (i w : ℕ) → active i w ≡ true → bit i w ≡ 1
unfolding active
active-bit i w h = eqb-true _ _ h

pub bit-active : (i w : ℕ) → bit i w ≡ 1 → active i w ≡ true
unfolding active
bit-active i w h = eq-eqb _ _ h

pub inactive_bit : (i w : ℕ) → active i w ≡ false → bit i w ≡ 0
unfolding active bit
inactive_bit i w h = let n : bit i w ≡ 1 → ⊥ = eqb-false (bit i w) 1 h in omega arith

pub bit_inactive : (i w : ℕ) → bit i w ≡ 0 → active i w ≡ false
unfolding active
bit_inactive i w h = ne_eqb (bit i w) 1 (λ (e : bit i w ≡ 1). omega arith)
