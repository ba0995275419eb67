-- Laws of the set with a slot, and of a set built slot by slot. Assumes nothing.
use Prim.Native.Nat.{ℕ, zero, suc, ◌+◌, ◌-◌, ◌/◌, ◌%◌, ◌^◌, ◌≤◌, ◌<◌}
use mathlib.Core.Path.{◌≡◌, refl, sym, ap, ◌∙◌}
use mathlib.Core.Bool.{Bool, true, false}
use native.Mathlib.Omega.{arith}
use native.Mathlib.Decide.{ℕ_discrete}
use lib.Dec.{eqb}
use Rattle.basics.specs.Lines.{bit, active}
use Rattle.basics.proofs.Bools.{by-test, choice}
use Rattle.basics.proofs.Bits.{bit-zero, bit-suc, bit_kept, active-bit, inactive_bit, bit-active}
use Rattle.slots.specs.Set.{mem, including, without, card_below, flagged_below}
use Rattle.slots.proofs.MemberLaws.{including_is, without_is, mem-empty}
use Rattle.slots.proofs.TopLaws.{last_or}
use Rattle.slots.proofs.SizeLaws.{card_less}

half-more : (i w : ℕ) → (w + 2 ^ suc i) / 2 ≡ w / 2 + 2 ^ i
half-more i w = omega arith

-- a line that is added is active; and there is room for it below 2 ^ k
bit_come : (i w : ℕ) → bit i w ≡ 0 → bit i (w + 2 ^ i) ≡ 1
bit_come zero w h = omega (arith, bit-zero w, bit-zero (w + 1))
bit_come (suc i) w h = bit-suc i (w + 2 ^ suc i) ∙ ap (bit i) (half-more i w) ∙ bit_come i (w / 2) (sym (bit-suc i w) ∙ h)

bit-room : (k i w : ℕ) → i < k → w < 2 ^ k → bit i w ≡ 0 → w + 2 ^ i < 2 ^ k
bit-room zero i w l h e = absurd (omega arith)
bit-room (suc k) zero w l h e = omega (arith, bit-zero w)
bit-room (suc k) (suc i) w l h e =
    let r : w / 2 + 2 ^ i < 2 ^ k = bit-room k i (w / 2) (omega arith) (omega arith) (sym (bit-suc i w) ∙ e) in
    omega arith

-- a slot that was put in is a member
pub mem_included : (i w : ℕ) → mem i (including i w) ≡ true
unfolding including
mem_included i w =
    choice (λ v. mem i v ≡ true) (mem i w) (λ e. e) (λ e. bit-active i _ (bit_come i w (inactive_bit i w e)))

-- taken out again, a slot that was put in leaves the set as it was
pub including_undone : (i w : ℕ) → mem i w ≡ false → without i (including i w) ≡ w
including_undone i w e =
    without_is i (including i w) (mem_included i w) ∙ ap (λ (v : ℕ). v - 2 ^ i) (including_is i w e) ∙ omega arith

-- the other slots are as before
pub mem-other : (i j w : ℕ) → (i ≡ j → ⊥) → mem j (including i w) ≡ mem j w
unfolding including active
mem-other i j w d = choice (λ v. mem j v ≡ mem j w) (mem i w) (λ e. refl) (λ e. ap (λ (n : ℕ). eqb n 1) (kept e))
  where
    kept : mem i w ≡ false → bit j (w + 2 ^ i) ≡ bit j w
    kept e =
        let z : (w + 2 ^ i) - 2 ^ i ≡ w = omega arith in
        sym (bit_kept i j (w + 2 ^ i) (bit_come i w (inactive_bit i w e)) d) ∙ ap (bit j) z

-- a set of slots below k stays one
pub including_less : (k i w : ℕ) → i < k → w < 2 ^ k → including i w < 2 ^ k
unfolding including
including_less k i w l h =
    choice (λ v. v < 2 ^ k) (mem i w) (λ e. h) (λ e. bit-room k i w l h (inactive_bit i w e))

-- and has one member more
pub card_more : (k w i : ℕ) → i < k → mem i w ≡ false → card_below k (including i w) ≡ suc (card_below k w)
card_more k w i l e =
    sym (card_less k (including i w) i l (mem_included i w)) ∙ ap (λ (v : ℕ). suc (card_below k v)) (including_undone i w e)

-- the members of half the number stand one slot higher in the whole
pub mem-half : (i n : ℕ) → mem i (n / 2) ≡ mem (suc i) n
unfolding active
mem-half i n = ap (λ (b : ℕ). eqb b 1) (sym (bit-suc i n))

-- two sets of slots below k with the same members are one set
pub same-members : (k v w : ℕ) → v < 2 ^ k → w < 2 ^ k → ((i : ℕ) → i < k → mem i v ≡ mem i w) → v ≡ w
same-members zero v w g h f = omega arith
same-members (suc k) v w g h f =
    let e : v / 2 ≡ w / 2 = same-members k (v / 2) (w / 2) (omega arith) (omega arith) (λ i l. mem-half i v ∙ f (suc i) (omega arith) ∙ sym (mem-half i w)) in
    let p : v % 2 ≡ w % 2 = sym (bit-zero v) ∙ bits (f 0 (omega arith)) ∙ bit-zero w in
    omega arith
  where
    bits : mem 0 v ≡ mem 0 w → bit 0 v ≡ bit 0 w
    bits e = by-test (mem 0 w)
        (λ t. active-bit 0 v (e ∙ t) ∙ sym (active-bit 0 w t))
        (λ t. inactive_bit 0 v (e ∙ t) ∙ sym (inactive_bit 0 w t))

-- the set built over the slots below k: it stays below 2 ^ k, has no slot from k up, and below k exactly those whose flag is true
module _ (flag : ℕ → Bool) where
  pub flagged_less : (k : ℕ) → flagged_below k flag < 2 ^ k
  unfolding flagged_below
  flagged_less zero = omega arith
  flagged_less (suc k) =
      let h : flagged_below k flag < 2 ^ suc k = omega (arith, flagged_less k) in
      choice (λ v. v < 2 ^ suc k) (flag k) (λ e. including_less (suc k) k _ (omega arith) h) (λ e. h)

  pub flagged_none : (k i : ℕ) → k ≤ i → mem i (flagged_below k flag) ≡ false
  unfolding flagged_below
  flagged_none zero i l = mem-empty i
  flagged_none (suc k) i l =
      choice (λ v. mem i v ≡ false) (flag k) (λ e. mem-other k i _ (λ (q : k ≡ i). omega arith) ∙ flagged_none k i (omega arith)) (λ e. flagged_none k i (omega arith))

  pub flagged_mem : (k i : ℕ) → i < k → mem i (flagged_below k flag) ≡ flag i
  unfolding flagged_below
  flagged_mem zero i l = absurd (omega arith)
  flagged_mem (suc k) i l = elim (ℕ_discrete i k) [ yes q ↦ last q | no n ↦ inner n (flagged_mem k i (last_or l n)) ]
    where
      last : i ≡ k → mem i (flagged_below (suc k) flag) ≡ flag i
      last q = rw q (choice (λ v. mem k v ≡ flag k) (flag k) (λ e. mem_included k _ ∙ sym e) (λ e. flagged_none k k (omega arith) ∙ sym e))

      inner : (i ≡ k → ⊥) → mem i (flagged_below k flag) ≡ flag i → mem i (flagged_below (suc k) flag) ≡ flag i
      inner n h = choice (λ v. mem i v ≡ flag i) (flag k) (λ e. mem-other k i _ (λ q. n (sym q)) ∙ h) (λ e. h)
