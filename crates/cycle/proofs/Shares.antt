-- A master in slot m that goes on asking sees at most (30 - m) times the limit of others' STARTs before its own, and one more
-- where m is over 0. Assumes nothing.
use Prim.Native.Nat.{ℕ, zero, suc, ◌+◌, ◌-◌, ◌*◌, ◌^◌, ◌<◌, ◌≤◌, min}
use mathlib.Core.Path.{◌≡◌, refl, ap, ◌∙◌}
use mathlib.Core.Bool.{Bool, true, false, cond}
use mathlib.Core.List.{List, [], ◌∷◌}
use native.Mathlib.Omega.{arith}
use native.Mathlib.Nat.{mul-le-mul_left}
use native.Mathlib.Decide.{dec_lt}
use lib.Dec.{eqb}
use borrow.Author.Tests.{eqb-false}
use Rattle.basics.specs.Lines.{bit, active, active_below}
use Rattle.basics.proofs.Bools.{by-test, not-true}
use Rattle.slots.specs.Set.{mem, without, top, card, above}
use Rattle.slots.proofs.MemberLaws.{mem-kept, mem-small}
use Rattle.slots.proofs.TopLaws.{top_most}
use Rattle.slots.proofs.SizeLaws.{card_miss, above_most, above_less}
use Rattle.cycle.specs.declared.Bus.{Bus}
use Rattle.cycle.specs.declared.Arbitration.{Arbitration}
use Rattle.cycle.specs.Arbitration.{formed, parked, waits, stays, leaves}
use Rattle.cycle.specs.Cycle.{cycle_of, cycle_by, moved_by, state_by, reply_by}
use Rattle.cycle.specs.Runs.{Input, wants_in, cycle_in, next, start_in, and_then, starters, ahead, Still, is_slot, Asks}
use Rattle.cycle.specs.Waits.{turns_most, others_most}
use Rattle.cycle.proofs.RunLaws.{arb, next_by, shown_by, wants_small}
use Rattle.cycle.proofs.NodeLaws.{wants_mean}
use Rattle.cycle.proofs.View.{Case, forms, parks, settles, holds_off, repeats, retires, view}
use Rattle.cycle.proofs.WaveSets.{highest, mem-zero, card-top}
use Rattle.cycle.proofs.Bounds.{Sound}
use Rattle.cycle.proofs.Sound.{sound_by}

-- one parked START may come before the wave that m joins; before slot 0 it takes a turn's place, since its master is then missing above
abbrev pub parkable : ℕ → ℕ
parkable m = min m 1

-- the STARTs of others that m may still see in waves: above m in its own wave; else those left of this wave, and all above m in the next
unfoldable pub turns_of : ℕ → ℕ → ℕ → ℕ → ℕ
turns_of m limit w t = cond (mem m w) (limit * above m w) (limit * (card w + (15 - m))) - t

-- and a parked one, between the waves
unfoldable pub share_of : ℕ → ℕ → ℕ → ℕ → ℕ
share_of m limit w t = turns_of m limit w t + cond (mem m w) 0 (parkable m)

unfoldable pub share : ℕ → Bus → ℕ
share m b = share_of m b.limit b.wave b.turn

turns_in : (m limit w t : ℕ) → mem m w ≡ true → turns_of m limit w t ≡ limit * above m w - t
unfolding turns_of
turns_in m limit w t e = rw e

turns_out : (m limit w t : ℕ) → mem m w ≡ false → turns_of m limit w t ≡ limit * (card w + (15 - m)) - t
unfolding turns_of
turns_out m limit w t e = rw e

share_in : (m limit w t : ℕ) → mem m w ≡ true → share_of m limit w t ≡ turns_of m limit w t
unfolding share_of
share_in m limit w t e = rw e (omega arith)

share_out : (m limit w t : ℕ) → mem m w ≡ false → share_of m limit w t ≡ turns_of m limit w t + parkable m
unfolding share_of
share_out m limit w t e = rw e

card-zero : (w : ℕ) → w ≡ 0 → card w ≡ 0
unfolding active_below active bit
card-zero w z = rw z

not_in_zero : (m w : ℕ) → w ≡ 0 → mem m w ≡ false
not_in_zero m w z = not-true (mem m w) (mem-zero m w z)

-- an empty wave: the turns of those above m
pub turns-empty : (m limit w t : ℕ) → w ≡ 0 → t ≡ 0 → turns_of m limit w t ≡ limit * (15 - m)
turns-empty m limit w t z y = turns_out m limit w t (not_in_zero m w z) ∙ omega (arith, ap (λ (n : ℕ). limit * (n + (15 - m))) (card-zero w z))

-- a wave that m joins
pub turns-joined : (m limit wants : ℕ) → wants < 2 ^ 16 → mem m wants ≡ true → turns_of m limit wants 0 ≤ limit * (15 - m)
turns-joined m limit wants h e =
    omega (arith, turns_in m limit wants 0 e, mul-le-mul_left limit (above_most m wants (mem-small m wants h e)))

-- and where another was parked: one above m is then not in the wave, and one below m cost a START
pub turns-parked : (m o limit wants : ℕ) → 1 ≤ limit → wants < 2 ^ 16 → mem m wants ≡ true → mem o wants ≡ true → (o ≡ m → ⊥)
    → suc (turns_of m limit (without o wants) 0) ≤ limit * (15 - m) + parkable m
turns-parked m o limit wants k h e p d = go (dec_lt m o)
  where
    w : ℕ
    w = without o wants

    e' : mem m w ≡ true
    e' = mem-kept o m wants p d ∙ e

    small : m < 16
    small = mem-small m wants h e

    go : Dec (m < o) → suc (turns_of m limit w 0) ≤ limit * (15 - m) + parkable m
    go (yes l) =
        let one : suc (above m w) ≡ above m wants = above_less m wants o l (mem-small o wants h p) p in
        let two : suc (above m w) ≤ 15 - m = omega (arith, above_most m wants small) in
        omega (arith, turns_in m limit w 0 e', mul-le-mul_left limit two)
    go (no g) = omega (arith, turns_in m limit w 0 e', mul-le-mul_left limit (above_most m w small))

-- at most thirty turns less m
pub turns-most : (m limit w t : ℕ) → m < 16 → w < 2 ^ 16 → turns_of m limit w t ≤ turns_most limit m
turns-most m limit w t k h = go (mem m w) refl
  where
    go : (c : Bool) → mem m w ≡ c → turns_of m limit w t ≤ turns_most limit m
    go true e =
        let one : above m w ≤ 30 - m = omega (arith, above_most m w k) in
        omega (arith, turns_in m limit w t e, mul-le-mul_left limit one)
    go false e =
        let one : card w + (15 - m) ≤ 30 - m = omega (arith, card_miss 16 w m k e) in
        omega (arith, turns_out m limit w t e, mul-le-mul_left limit one)

pub kept : (m w : ℕ) → w < 2 ^ 16 → (w ≡ 0 → ⊥) → (top w ≡ m → ⊥) → mem m (without (top w) w) ≡ mem m w
kept m w h n d = mem-kept (top w) m w (highest w h n).is_in d

-- a START of the highest member, which is not m, is one of the limit's that its turn may have
module _ (m limit w : ℕ) (h : w < 2 ^ 16) (n : w ≡ 0 → ⊥) (d : top w ≡ m → ⊥) where
  top_above : mem m w ≡ true → suc (above m (without (top w) w)) ≡ above m w
  top_above e =
      let q = highest w h n in
      above_less m w (top w) (omega (arith, top_most 16 w m (mem-small m w h e) e, d)) q.small q.is_in

  turn_of : turns_of m limit w 0 ≡ turns_of m limit (without (top w) w) 0 + limit
  unfolding turns_of
  turn_of =
      by-test (mem m w)
      (λ e. rw (kept m w h n d, e) (omega (arith, ap (λ (x : ℕ). limit * x) (top_above e))))
      (λ e. rw (kept m w h n d, e) (omega (arith, ap (λ (x : ℕ). limit * x) (card-top w h n))))

  -- it stays below its limit
  pub turns-stays : (t : ℕ) → t + 1 < limit → suc (turns_of m limit w (t + 1)) ≡ turns_of m limit w t
  unfolding turns_of
  turns-stays t u = omega (arith, turn_of)

  -- it leaves, and may have had more; at its limit there is just one fewer
  pub turns-leaves : (t : ℕ) → t < limit → suc (turns_of m limit (without (top w) w) 0) ≤ turns_of m limit w t
  unfolding turns_of
  turns-leaves t u = omega (arith, turn_of)

  pub turns-leaves-last : (t : ℕ) → t + 1 ≡ limit → suc (turns_of m limit (without (top w) w) 0) ≡ turns_of m limit w t
  unfolding turns_of
  turns-leaves-last t u = omega (arith, turn_of)

-- the same with the parked START
share-empty : (m limit w t : ℕ) → w ≡ 0 → t ≡ 0 → share_of m limit w t ≡ limit * (15 - m) + parkable m
share-empty m limit w t z y = omega (arith, share_out m limit w t (not_in_zero m w z), turns-empty m limit w t z y)

share-joined : (m limit wants : ℕ) → wants < 2 ^ 16 → mem m wants ≡ true → share_of m limit wants 0 ≤ limit * (15 - m)
share-joined m limit wants h e = omega (arith, share_in m limit wants 0 e, turns-joined m limit wants h e)

share-parked : (m o limit wants : ℕ) → 1 ≤ limit → wants < 2 ^ 16 → mem m wants ≡ true → mem o wants ≡ true → (o ≡ m → ⊥)
    → suc (share_of m limit (without o wants) 0) ≤ limit * (15 - m) + parkable m
share-parked m o limit wants k h e p d =
    omega (arith, share_in m limit (without o wants) 0 (mem-kept o m wants p d ∙ e), turns-parked m o limit wants k h e p d)

share-most : (m limit w t : ℕ) → m < 16 → w < 2 ^ 16 → share_of m limit w t ≤ others_most limit m
unfolding share_of
share-most m limit w t k h = go (mem m w) refl
  where
    go : (c : Bool) → mem m w ≡ c → turns_of m limit w t + cond (mem m w) 0 (parkable m) ≤ others_most limit m
    go true e = rw e (omega (arith, turns-most m limit w t k h))
    go false e = rw e (omega (arith, turns-most m limit w t k h))

share-stays : (m limit w t : ℕ) → w < 2 ^ 16 → (w ≡ 0 → ⊥) → (top w ≡ m → ⊥) → t + 1 < limit
    → suc (share_of m limit w (t + 1)) ≤ share_of m limit w t
unfolding share_of
share-stays m limit w t h n d u = omega (arith, turns-stays m limit w h n d t u)

share-leaves : (m limit w t : ℕ) → w < 2 ^ 16 → (w ≡ 0 → ⊥) → (top w ≡ m → ⊥) → t < limit
    → suc (share_of m limit (without (top w) w) 0) ≤ share_of m limit w t
unfolding share_of
share-leaves m limit w t h n d u = rw (kept m w h n d) (omega (arith, turns-leaves m limit w h n d t u))

-- m asks in the first of these cycles, and goes on unless it starts there
pub asks_on : (m : ℕ) (b : Bus) (i : Input) (is : List Input) → m < 16 → Asks m b (i ∷ is)
    → (mem m (wants_in i) ≡ true) × Still (is_slot m (shown_by b i (arb b i))) (Asks m (next_by b i (arb b i)) is)
unfolding next start_in cycle_in cycle_of next_by shown_by arb
asks_on m b i is l a = (wants_mean i.nodes m l ∙ a.0, a.1)

-- a START of m's own, and of another
ahead-slot : (m s : ℕ) (l : List ℕ) (X : Type 0) (n : ℕ) → ((s ≡ m → ⊥) → X → suc (ahead m l) ≤ n) → Still (eqb s m) X → ahead m (s ∷ l) ≤ n
unfolding ahead
ahead-slot m s l X n f a = go (eqb s m) refl a
  where
    go : (c : Bool) → eqb s m ≡ c → Still c X → cond c 0 (suc (ahead m l)) ≤ n
    go true e x = omega arith
    go false e x = f (eqb-false s m e) x

module _ (m : ℕ) (small : m < 16) where
  abbrev Ahead : List Input → Bus → Type 0
  Ahead is b = Asks m b is → ahead m (starters b is) ≤ share m b

  ahead_by : (b : Bus) (i : Input) (is : List Input) (r : Arbitration) → Sound b → Case b i r → ((b' : Bus) → Sound b' → Ahead is b')
      → mem m (wants_in i) ≡ true → Still (is_slot m (shown_by b i r)) (Asks m (next_by b i r) is)
      → ahead m (and_then (shown_by b i r) (starters (next_by b i r) is)) ≤ share m b
  unfolding leaves and_then next_by shown_by cycle_by moved_by state_by reply_by formed parked share
  ahead_by b i is r s (forms z e) f w =
      rw e (λ a.
      let b' = next_by b i (formed b (wants_in i)) in
      let h = f b' (sound_by b i _ s (forms z refl)) a in
      omega (arith, h, share-empty m b.limit b.wave b.turn z (s.rest z), share-joined m b.limit (wants_in i) (wants_small i) w))
  ahead_by b i is r s (parks o z t q e) f w =
      rw e (λ a. ahead-slot m o _ _ (share m b) (λ d x.
      let b' = next_by b i (parked o (wants_in i)) in
      let h = f b' (sound_by b i _ s (parks o z t q refl)) x in
      omega (arith, h, s.turns, share-empty m b.limit b.wave b.turn z (s.rest z), share-parked m o b.limit (wants_in i) (omega (arith, s.turns)) (wants_small i) w q d)) a)
  ahead_by b i is r s (settles n l e) f w =
      rw e (λ a. f (next_by b i (waits b (b.settling - 1))) (sound_by b i _ s (settles n l refl)) a)
  ahead_by b i is r s (holds_off n l x y t e) f w =
      rw e (λ a. f (next_by b i (waits b 0)) (sound_by b i _ s (holds_off n l x y t refl)) a)
  ahead_by b i is r s (repeats n l t u e) f w =
      rw e (λ a. ahead-slot m (top b.wave) _ _ (share m b) (λ d x.
      let h = f (next_by b i (stays b (top b.wave))) (sound_by b i _ s (repeats n l t u refl)) x in
      omega (arith, h, share-stays m b.limit b.wave b.turn s.slots n d u)) a)
  ahead_by b i is r s (retires n l t e) f w =
      rw e (λ a. ahead-slot m (top b.wave) _ _ (share m b) (λ d x.
      let h = f (next_by b i (leaves b (top b.wave))) (sound_by b i _ s (retires n l t refl)) x in
      omega (arith, h, share-leaves m b.limit b.wave b.turn s.slots n d s.turns)) a)

  pub ahead_of : (is : List Input) (b : Bus) → Sound b → Asks m b is → ahead m (starters b is) ≤ share m b
  unfolding starters next start_in cycle_in cycle_of next_by shown_by arb ahead
  ahead_of [] b s a = omega arith
  ahead_of (i ∷ is) b s a =
      let on = asks_on m b i is small a in
      ahead_by b i is (arb b i) s (view b i) (λ b' s' a'. ahead_of is b' s' a') on.0 on.1

-- what m may see from any state within the bounds
pub share-within : (m limit : ℕ) (b : Bus) → m < 16 → Sound b → b.limit ≡ limit → share m b ≤ others_most limit m
unfolding share
share-within m limit b small s e =
    omega (arith, share-most m limit b.wave b.turn small s.slots, ap (λ (n : ℕ). share_of m n b.wave b.turn) e)

-- so thirty times the limit for each slot
pub thirty_most : (limit m : ℕ) → 1 ≤ limit → m < 16 → others_most limit m ≤ 30 * limit
thirty_most limit zero k small = omega arith
thirty_most limit (suc n) k small =
    let one : suc (29 - n) ≤ 30 = omega arith in
    let two : 30 - suc n ≡ 29 - n = omega arith in
    omega (arith, mul-le-mul_left limit one, ap (λ (x : ℕ). x * limit) two)
