-- Laws of members, of the set with a slot and of the set without one. Assumes nothing.
use Prim.Native.Nat.{ℕ, ◌+◌, ◌-◌, ◌*◌, ◌%◌, ◌^◌, ◌≤◌, ◌<◌}
use mathlib.Core.Path.{◌≡◌, ap, ◌∙◌}
use mathlib.Core.Bool.{true, false}
use native.Mathlib.Omega.{arith}
use native.Mathlib.Decide.{dec_lt}
use lib.Dec.{eqb}
use lib.Pow
use Rattle.basics.specs.Lines.{bit, active}
use Rattle.basics.proofs.Bools.{by-test, cond-true, cond-false}
use Rattle.basics.proofs.Bits.{weight_le, bit_gone, bit_kept, none-zero, active-bit, inactive_bit, bit_inactive}
use Rattle.slots.specs.Set.{mem, including, without}

-- a member leaves the set
pub without_is : (i w : ℕ) → mem i w ≡ true → without i w ≡ w - 2 ^ i
unfolding without
without_is i w h = cond-true _ _ h

pub without_less : (i w : ℕ) → mem i w ≡ true → without i w < w
without_less i w h = omega (arith, without_is i w h, weight_le i w (active-bit i w h), lib.Pow.pow_pos i)

pub without-le : (i w : ℕ) → without i w ≤ w
unfolding without
without-le i w = by-test (mem i w) (λ (e : mem i w ≡ true). rw e (omega arith)) (λ (e : mem i w ≡ false). rw e (omega arith))

pub mem_gone : (i w : ℕ) → mem i w ≡ true → mem i (without i w) ≡ false
mem_gone i w h = rw (without_is i w h) (bit_inactive i _ (bit_gone i w (active-bit i w h)))

pub mem-kept : (i j w : ℕ) → mem i w ≡ true → (i ≡ j → ⊥) → mem j (without i w) ≡ mem j w
unfolding active
mem-kept i j w h d = ap (λ (n : ℕ). eqb n 1) (ap (bit j) (without_is i w h) ∙ bit_kept i j w (active-bit i w h) d)

-- a slot that is no member joins the set; and leaves it as it came
pub including_is : (i w : ℕ) → mem i w ≡ false → including i w ≡ w + 2 ^ i
unfolding including
including_is i w h = cond-false _ _ h

-- 0 has no member, and a set of slots below k with no member is 0
pub mem-empty : (i : ℕ) → mem i 0 ≡ false
mem-empty i = by-test (mem i 0) (λ (e : mem i 0 ≡ true). absurd (omega (arith, weight_le i 0 (active-bit i 0 e), lib.Pow.pow_pos i))) (λ e. e)

pub empty_is_zero : (k w : ℕ) → w < 2 ^ k → ((i : ℕ) → i < k → mem i w ≡ false) → w ≡ 0
empty_is_zero k w h f = none-zero k w h (λ i l. inactive_bit i w (f i l))

-- a set of sixteen slots has no other member
pub mem-small : (m w : ℕ) → w < 2 ^ 16 → mem m w ≡ true → m < 16
mem-small m w h e = go (dec_lt m 16)
  where
    go : Dec (m < 16) → m < 16
    go (yes l) = l
    go (no g) = absurd (omega (arith, lib.Pow.pow_mono {i = 16} {j = m} (omega arith), weight_le m w (active-bit m w e)))

pub mem_big : (m w : ℕ) → w < 2 ^ 16 → 16 ≤ m → mem m w ≡ false
mem_big m w h k = by-test (mem m w) (λ (e : mem m w ≡ true). absurd (omega (arith, mem-small m w h e))) (λ e. e)

-- 1 shifted left within sixteen lines is the slot's weight
pub shifted : (i : ℕ) → i < 16 → (1 * 2 ^ i) % 65536 ≡ 2 ^ i
shifted i h = omega (arith, lib.Pow.pow-lt {i = i} {j = 16} h)
