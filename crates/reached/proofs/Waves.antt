-- Laws of waves as the slowest run meets them: slot 0 alone, and all that are above m. Assumes nothing.
use Prim.Native.Nat.{ℕ, zero, suc, ◌+◌, ◌-◌, ◌*◌, ◌^◌, ◌<◌, ◌≤◌}
use mathlib.Core.Path.{◌≡◌, refl, sym, ap, ◌∙◌}
use mathlib.Core.Bool.{Bool, true, false}
use native.Mathlib.Omega.{arith}
use Rattle.basics.specs.Lines.{one, bit, active, active_below}
use Rattle.slots.specs.Set.{mem, without, top_below, top, card_below, above}
use Rattle.slots.proofs.WithLaws.{same-members}
use Rattle.cycle.proofs.WaveSets.{highest, above-top}
use Rattle.cycle.proofs.Shares.{turns_of}

-- ---- a wave whose highest member is slot 0 is slot 0 alone
pub lowest : (w : ℕ) → w < 2 ^ 16 → (w ≡ 0 → ⊥) → top w ≡ 0 → w ≡ 1
unfolding top_below active bit
lowest w h n e = same-members 16 w 1 h (omega arith) each
  where
    each : (i : ℕ) → i < 16 → mem i w ≡ mem i 1
    each zero l = ap (λ (k : ℕ). mem k w) (sym e) ∙ (highest w h n).is_in
    each (suc i) l =
        let z : top 1 ≡ 0 = refl in
        above-top (suc i) w h (omega arith) ∙ sym (above-top (suc i) 1 (omega arith) (omega arith))

-- and nobody is left once it has gone
pub none_left : (w : ℕ) → w ≡ 1 → without (top w) w ≡ 0
unfolding top_below without active bit
none_left w e = rw e

-- ---- above m
-- of the d slots from k up all are members, or none
all-or-none : (c : Bool) (k d n w : ℕ) → n ≡ d + k → ((i : ℕ) → k ≤ i → i < n → mem i w ≡ c) → card_below n w ≡ d * one c + card_below k w
unfolding active_below
all-or-none c k zero n w q f = let e : n ≡ k = omega arith in omega (arith, ap (λ (x : ℕ). card_below x w) e)
all-or-none c k (suc d) zero w q f = absurd (omega arith)
all-or-none c k (suc d) (suc n) w q f = go c (f n (omega arith) (omega arith)) (all-or-none c k d n w (omega arith) (λ i g l. f i g (omega arith)))
  where
    go : (c : Bool) → mem n w ≡ c → card_below n w ≡ d * one c + card_below k w → card_below (suc n) w ≡ suc d * one c + card_below k w
    go true e h = rw (e, active_below) (omega arith)
    go false e h = rw (e, active_below) (omega arith)

-- no member is above the highest
pub above-highest : (m w : ℕ) → m < 16 → w < 2 ^ 16 → top w ≡ m → above m w ≡ 0
unfolding above
above-highest m w l h e =
    omega (arith, all-or-none false (suc m) (15 - m) 16 w (omega arith) (λ i g k. above-top i w h (omega arith)))

-- and all are above m
above-all : (m w : ℕ) → m < 16 → ((i : ℕ) → m < i → i < 16 → mem i w ≡ true) → above m w ≡ 15 - m
unfolding above
above-all m w l f = omega (arith, all-or-none true (suc m) (15 - m) 16 w (omega arith) f)

-- ---- the STARTs of others that m may still see in waves
-- m and all above it are in the wave
pub turns-whole : (m limit w : ℕ) → m < 16 → ((i : ℕ) → m ≤ i → i < 16 → mem i w ≡ true) → turns_of m limit w 0 ≡ limit * (15 - m)
unfolding turns_of
turns-whole m limit w l f = rw (f m (omega arith) l, above-all m w l (λ i g. f i (omega arith))) (omega arith)
