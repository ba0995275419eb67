-- Laws of the highest member. Assumes nothing.
use Prim.Native.Nat.{ℕ, zero, suc, ◌+◌, ◌-◌, ◌*◌, ◌/◌, ◌^◌, ◌≤◌, ◌<◌}
use mathlib.Core.Path.{◌≡◌, refl, sym, ◌∙◌}
use mathlib.Core.Bool.{Bool, true, false, true≢false}
use native.Mathlib.Omega.{arith}
use native.Mathlib.Decide.{ℕ_discrete, dec_lt}
use native.Mathlib.Nat.{pow-succ'}
use lib.Pow.{high, pow_mono}
use Rattle.basics.specs.Lines.{bit, active}
use Rattle.basics.proofs.Bools.{choice}
use Rattle.basics.proofs.Bits.{weight_le, active-bit}
use Rattle.slots.specs.Set.{mem, top, top_below}

-- the highest member is a member, unless there is none
pub data Top (k w : ℕ) : Type 0 where
  found : mem (top_below k w) w ≡ true → top_below k w < k → Top k w
  bare : ((i : ℕ) → i < k → mem i w ≡ false) → Top k w

pub last_or : {k i : ℕ} → i < suc k → (i ≡ k → ⊥) → i < k
last_or l d = omega arith

pub top_view : (k w : ℕ) → Top k w
unfolding top_below
top_view zero w = bare (λ i l. absurd (omega arith))
top_view (suc k) w = go (mem k w) refl (top_view k w)
  where
    go : (b : Bool) → mem k w ≡ b → Top k w → Top (suc k) w
    go true e t = found (rw (e, top_below) e) (rw (e, top_below) (omega arith))
    go false e (found m l) = found (rw (e, top_below) m) (rw (e, top_below) (omega arith))
    go false e (bare f) = bare (λ i l. elim (ℕ_discrete i k) [ yes q ↦ rw q e | no n ↦ f i (last_or l n) ])

-- no member is above the highest
pub top_most : (k w i : ℕ) → i < k → mem i w ≡ true → i ≤ top_below k w
unfolding top_below
top_most zero w i l m = absurd (omega arith)
top_most (suc k) w i l m = go (mem k w) refl (λ h. top_most k w i h m)
  where
    go : (b : Bool) → mem k w ≡ b → (i < k → i ≤ top_below k w) → i ≤ top_below (suc k) w
    go true e f = rw (e, top_below) (omega arith)
    go false e f = rw (e, top_below) (f (last_or l (λ q. true≢false (sym (rw q at m) ∙ e))))

-- where there is no member, it is 0
pub top_none : (k w : ℕ) → ((i : ℕ) → i < k → mem i w ≡ false) → top_below k w ≡ 0
unfolding top_below
top_none zero w f = refl
top_none (suc k) w f = rw (f k (omega arith), top_below) (top_none k w (λ i l. f i (omega arith)))

-- and in each case it is below the bound
pub top_less : (k w : ℕ) → top_below (suc k) w < suc k
unfolding top_below
top_less zero w = choice (λ n. n < 1) (mem 0 w) (λ e. omega arith) (λ e. omega arith)
top_less (suc k) w =
    choice (λ n. n < suc (suc k)) (mem (suc k) w) (λ e. omega arith) (λ e. omega (arith, top_less k w))

-- a number's highest bit is its highest member
pub top_power : (w r : ℕ) → r < 16 → 2 ^ r ≤ w → w < 2 * 2 ^ r → r ≡ top w
unfolding active bit
top_power w r small le lt = go (top_view 16 w)
  where
    one : w / 2 ^ r ≡ 1
    one = let e : 1 * 2 ^ r + (w - 2 ^ r) ≡ w = omega arith in rw e at (high 1 r {lo = w - 2 ^ r} (omega arith))

    is : mem r w ≡ true
    is = rw one

    go : Top 16 w → r ≡ top w
    go (found e l) =
        let most : r ≤ top w = top_most 16 w r small is in
        let weight : 2 ^ top w ≤ w = weight_le (top w) w (active-bit (top w) w e) in
        let next : 2 ^ suc r ≡ 2 * 2 ^ r = rw pow-succ' (omega arith) in
        elim (dec_lt (top w) (suc r)) [ yes b ↦ omega arith | no b ↦ absurd (omega (arith, pow_mono {i = suc r} {j = top w} (omega arith))) ]
    go (bare f) = absurd (true≢false (sym is ∙ f r small))
