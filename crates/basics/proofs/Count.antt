-- The active lines are the set bits that the machine counts. Assumes nothing.
use Prim.Native.Nat.{ℕ, zero, suc, ◌+◌, ◌%◌, ◌/◌, ◌^◌, ◌<◌}
use mathlib.Core.Path.{◌≡◌, refl, sym, ap, ◌∙◌}
use mathlib.Core.Bool.{Bool, true, false, cond}
use native.Mathlib.Omega.{arith}
use native.Mathlib.Nat.{mod-lt, mod-eq_of_lt}
use native.Mathlib.Numerals.{one-add}
use lib.Count.{ones, ones_cat}
use lib.Pow.{mod-pow-add, pow_pos}
use Rattle.basics.specs.Lines.{bit, active, active_below}
use Rattle.basics.proofs.Bits.{active-bit, inactive_bit}

one_bit : (r : ℕ) → r < 2 → ones r ≡ r
unfolding ones
one_bit zero h = refl
one_bit (suc zero) h = refl
one_bit (suc (suc r)) h = absurd (omega arith)

-- one line more
pub active-more : (n w : ℕ) → active_below (suc n) w ≡ bit n w + active_below n w
unfolding active_below
active-more n w = go (active n w) refl
  where
    go : (t : Bool) → active n w ≡ t → cond (active n w) (suc (active_below n w)) (active_below n w) ≡ bit n w + active_below n w
    go true e = rw (e, active-bit n w e) (sym (one-add (active_below n w)))
    go false e = rw (e, inactive_bit n w e) (omega arith)

below_ones : (n w : ℕ) → active_below n w ≡ ones (w % 2 ^ n)
unfolding bit active_below
below_ones zero w = let e : w % 1 ≡ 0 = omega arith in rw e (sym (one_bit 0 (omega arith)))
below_ones (suc n) w =
    active-more n w
    ∙ ap (λ (k : ℕ). bit n w + k) (below_ones n w)
    ∙ sym (rw (← one-add n, mod-pow-add w 1 n, ones_cat n (w / 2 ^ n % 2) (w % 2 ^ n) (mod-lt w (pow_pos n)), one_bit (w / 2 ^ n % 2) (omega arith)))

-- of a number of n lines, the machine's count
pub active_ones : (n w : ℕ) → w < 2 ^ n → active_below n w ≡ ones w
active_ones n w h = below_ones n w ∙ ap ones (mod-eq_of_lt h)
