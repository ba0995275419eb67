-- Laws of a set's size. Assumes nothing.
use Prim.Native.Nat.{ℕ, zero, suc, ◌+◌, ◌-◌, ◌≤◌, ◌<◌, suc-le-suc}
use mathlib.Core.Path.{◌≡◌, refl, sym, ap, ap₂, ◌∙◌}
use mathlib.Core.Bool.{Bool, true, false, cond, true≢false}
use native.Mathlib.Omega.{arith}
use native.Mathlib.Decide.{ℕ_discrete}
use Rattle.basics.specs.Lines.{active_below}
use Rattle.slots.specs.Set.{mem, without, card_below, above}
use Rattle.slots.proofs.MemberLaws.{mem_gone, mem-kept}
use Rattle.slots.proofs.TopLaws.{last_or}

-- how many members: at most k below k, fewer where one is missing
pub card_most : (k w : ℕ) → card_below k w ≤ k
unfolding active_below
card_most zero w = omega arith
card_most (suc k) w = go (mem k w) refl (card_most k w)
  where
    go : (b : Bool) → mem k w ≡ b → card_below k w ≤ k → card_below (suc k) w ≤ suc k
    go true e h = rw (e, active_below) (omega arith)
    go false e h = rw (e, active_below) (omega arith)

pub card_miss : (k w i : ℕ) → i < k → mem i w ≡ false → card_below k w < k
unfolding active_below
card_miss zero w i l m = absurd (omega arith)
card_miss (suc k) w i l m = go (mem k w) refl (λ h. card_miss k w i h m)
  where
    go : (b : Bool) → mem k w ≡ b → (i < k → card_below k w < k) → card_below (suc k) w < suc k
    go true e f = rw (e, active_below) (suc-le-suc (f (last_or l (λ q. true≢false (sym e ∙ rw q at m)))))
    go false e f = rw (e, active_below) (suc-le-suc (card_most k w))

-- two sets that agree below k have as many members there
card_same : (k v w : ℕ) → ((i : ℕ) → i < k → mem i v ≡ mem i w) → card_below k v ≡ card_below k w
unfolding active_below
card_same zero v w f = refl
card_same (suc k) v w f = ap₂ (λ (b : Bool) (n : ℕ). cond b (suc n) n) (f k (omega arith)) (card_same k v w (λ i l. f i (omega arith)))

-- without a member there is one fewer
pub card_less : (k w i : ℕ) → i < k → mem i w ≡ true → suc (card_below k (without i w)) ≡ card_below k w
unfolding active_below
card_less zero w i l m = absurd (omega arith)
card_less (suc k) w i l m = elim (ℕ_discrete i k) [ yes q ↦ last q | no n ↦ inner (mem k w) refl n (card_less k w i (last_or l n) m) ]
  where
    last : i ≡ k → suc (card_below (suc k) (without i w)) ≡ card_below (suc k) w
    last q = rw (active_below, sym (ap (λ (n : ℕ). mem n (without i w)) q) ∙ mem_gone i w m, sym (ap (λ (n : ℕ). mem n w) q) ∙ m)
        (ap suc (card_same k (without i w) w (λ j lj. mem-kept i j w m (λ r. omega arith))))

    inner : (b : Bool) → mem k w ≡ b → (i ≡ k → ⊥) → suc (card_below k (without i w)) ≡ card_below k w → suc (card_below (suc k) (without i w)) ≡ card_below (suc k) w
    inner true e n h = rw (active_below, mem-kept i k w m n, e) (ap suc h)
    inner false e n h = rw (active_below, mem-kept i k w m n, e) h

-- below a bound n, at least as many as below k, and at most n - k more
abbrev Span : ℕ → ℕ → ℕ → Type 0
Span k n w = (card_below k w ≤ card_below n w) × (card_below n w ≤ (n - k) + card_below k w)

card_span : (k d n w : ℕ) → n ≡ d + k → Span k n w
unfolding active_below
card_span k zero n w q =
    let z : n ≡ k = omega arith in
    let e : card_below n w ≡ card_below k w = ap (λ (x : ℕ). card_below x w) z in
    (omega (arith, e), omega (arith, e))
card_span k (suc d) zero w q = absurd (omega arith)
card_span k (suc d) (suc n) w q = go (mem n w) refl (card_span k d n w (omega arith))
  where
    go : (b : Bool) → mem n w ≡ b → Span k n w → Span k (suc n) w
    go true e h = (rw (e, active_below) (omega (arith, h.0)), rw (e, active_below) (omega (arith, h.1)))
    go false e h = (rw (e, active_below) (omega (arith, h.0)), rw (e, active_below) (omega (arith, h.1)))

card_first : (m w : ℕ) → m < 16 → Span (suc m) 16 w
card_first m w h = card_span (suc m) (15 - m) 16 w (omega arith)

-- above m there are at most 15 - m, and one fewer without one of them
pub above_most : (m w : ℕ) → m < 16 → above m w ≤ 15 - m
unfolding above
above_most m w h = let f = card_first m w h in omega (arith, f.1)

pub above_less : (m w i : ℕ) → m < i → i < 16 → mem i w ≡ true → suc (above m (without i w)) ≡ above m w
unfolding above
above_less m w i l h e =
    let f = card_first m (without i w) (omega arith) in
    let same : card_below (suc m) (without i w) ≡ card_below (suc m) w =
    card_same (suc m) (without i w) w (λ j lj. mem-kept i j w e (λ (q : i ≡ j). omega arith)) in
    omega (arith, f.0, same, card_less 16 w i h e)
