-- Numbers by their bits: which of two is higher. Assumes nothing.
use Prim.Native.Nat.{ℕ, zero, suc, ◌/◌, ◌^◌, ◌<◌, ◌≤◌}
use mathlib.Core.Path.{◌≡◌, sym, ◌∙◌}
use mathlib.Core.Bool.{true, false}
use native.Mathlib.Omega.{arith}
use lib.Pow.{pow_pos}
use Rattle.basics.specs.Lines.{active}
use Rattle.basics.proofs.Bools.{by-test}
use Rattle.basics.proofs.Bits.{bit-zero, active-bit, inactive_bit, weight_le}
use Rattle.slots.proofs.WithLaws.{mem-half}

-- a number that lacks no bit of another is no lower
covers_le : (k m s : ℕ) → m < 2 ^ k → ((j : ℕ) → j < k → active j m ≡ true → active j s ≡ true) → m ≤ s
covers_le zero m s h f = omega arith
covers_le (suc k) m s h f =
    let r : m / 2 ≤ s / 2 =
    covers_le k (m / 2) (s / 2) (omega arith) (λ j l e. mem-half j s ∙ f (suc j) (omega arith) (sym (mem-half j m) ∙ e)) in
    by-test (active 0 m)
    (λ (e : active 0 m ≡ true). omega (arith, bit-zero m, bit-zero s, active-bit 0 m e, active-bit 0 s (f 0 (omega arith) e)))
    (λ (e : active 0 m ≡ false). omega (arith, bit-zero m, inactive_bit 0 m e))

-- one that has a bit which the other lacks, and lacks none of the other's higher bits, is higher
pub outranks : (n k m s : ℕ) → m < 2 ^ k → active n s ≡ true → active n m ≡ false → ((j : ℕ) → n < j → j < k → active j m ≡ true → active j s ≡ true) → m < s
outranks n zero m s h a b f = omega (arith, weight_le n s (active-bit n s a), pow_pos n)
outranks zero (suc k) m s h a b f =
    let r : m / 2 ≤ s / 2 =
    covers_le k (m / 2) (s / 2) (omega arith) (λ j l e. mem-half j s ∙ f (suc j) (omega arith) (omega arith) (sym (mem-half j m) ∙ e)) in
    omega (arith, bit-zero m, bit-zero s, active-bit 0 s a, inactive_bit 0 m b)
outranks (suc n) (suc k) m s h a b f =
    let r : m / 2 < s / 2 =
    outranks n k (m / 2) (s / 2) (omega arith) (mem-half n s ∙ a) (mem-half n m ∙ b) (λ j g l e. mem-half j s ∙ f (suc j) (omega arith) (omega arith) (sym (mem-half j m) ∙ e)) in
    omega arith
