-- Laws of the lanes (document 02, wish 4): they go by the address modulo 4, and each says what its bit does. Assumes nothing.
use Prim.Native.Nat.{ℕ, zero, suc, ◌+◌, ◌-◌, ◌*◌, ◌%◌, ◌^◌, ◌≤◌, ◌<◌}
use mathlib.Core.Path.{◌≡◌, refl, sym, ◌∙◌, ap, subst}
use mathlib.Core.Bool.{Bool, true, false, ◌&&◌}
use native.Mathlib.Omega.{arith}
use lib.Dec.{leb, ltb}
use borrow.Author.Tests.{leb-true, leb-false, ltb-true, ltb-false, le-leb, lt-leb, lt-ltb, le-ltb}
use Rattle.basics.specs.Lines.{one, bit, active}
use Rattle.basics.proofs.Bools.{choice, by-test}
use Rattle.basics.proofs.Bits.{one-most, bit-active, bit_inactive}
use Rattle.codes.specs.declared.Unit.{Unit}
use Rattle.codes.specs.declared.Unit.TheVariants.{Byte, Two, Four, Eight, Sixteen}
use Rattle.std.specs.Prelude.{Option, Some, None}
use Rattle.codes.specs.Units.{bytes_in}
use Rattle.codes.specs.Lanes.{in_unit, enclosing, carries, lanes_of}
use Rattle.codes.specs.Start.{block_of}
use Rattle.codes.proofs.Laws.{below4}

-- ---- by the address modulo 4
same_leb : (a b c d : ℕ) → (a ≤ b → c ≤ d) → (b < a → d < c) → leb a b ≡ leb c d
same_leb a b c d f g =
    by-test (leb a b) (λ e. e ∙ sym (le-leb c d (f (leb-true a b e)))) (λ e. e ∙ sym (lt-leb c d (g (leb-false a b e))))

same_ltb : (a b c d : ℕ) → (a < b → c < d) → (b ≤ a → d ≤ c) → ltb a b ≡ ltb c d
same_ltb a b c d f g =
    by-test (ltb a b) (λ e. e ∙ sym (lt-ltb c d (f (ltb-true a b e)))) (λ e. e ∙ sym (le-ltb c d (g (ltb-false a b e))))

-- byte k of the enclosing word, of a unit at two addresses that begin at the same byte of it
same_byte : (u : Unit) (a b k : ℕ) → a % 4 ≡ b % 4 → in_unit u a (enclosing a + k) ≡ in_unit u b (enclosing b + k)
same_byte u a b k e =
    ap (λ (t : Bool). t && ltb (enclosing a + k) (a + bytes_in u)) (same_leb a (enclosing a + k) b (enclosing b + k) (λ h. omega arith) (λ h. omega arith))
    ∙ ap (λ (t : Bool). leb b (enclosing b + k) && t) (same_ltb (enclosing a + k) (a + bytes_in u) (enclosing b + k) (b + bytes_in u) (λ h. omega arith) (λ h. omega arith))

pub lanes_low : (u : Unit) (a b : ℕ) → a % 4 ≡ b % 4 → lanes_of u a ≡ lanes_of u b
unfolding lanes_of
lanes_low u a b e = rw (same_byte u a b 0 e, same_byte u a b 1 e, same_byte u a b 2 e, same_byte u a b 3 e)

-- a byte's lane
pub byte_lane : (a : ℕ) → lanes_of Byte a ≡ 2 ^ (a % 4)
unfolding lanes_of
byte_lane a = lanes_low Byte a (a % 4) (omega arith) ∙ below4 (λ q. lanes_of Byte q ≡ 2 ^ q) refl refl refl refl (a % 4) (omega arith)

-- every byte of a unit of n words, which begins with a word
pub word-carries : (u : Unit) (n a j k : ℕ) → bytes_in u ≡ 4 * n → a % 4 ≡ 0 → j < n → k < 4 → carries u a j k ≡ true
word-carries u n a j k e z h l =
    rw (le-leb a (enclosing a + (4 * j + k)) (omega arith), lt-ltb (enclosing a + (4 * j + k)) (a + bytes_in u) (omega arith))

pub words_lanes : (u : Unit) (n a : ℕ) → bytes_in u ≡ 4 * n → 0 < n → a % 4 ≡ 0 → lanes_of u a ≡ 15
unfolding lanes_of
words_lanes u n a e some z =
    let c : (k : ℕ) → k < 4 → carries u a 0 k ≡ true = λ k l. word-carries u n a 0 k e z some l in
    rw (c 0 (omega arith), c 1 (omega arith), c 2 (omega arith), c 3 (omega arith))

-- a block begins with a word, and has all four
abbrev Whole : ℕ → Option Unit → Type 0
Whole ad (Some u) = lanes_of u (ad - ad % bytes_in u) ≡ 15
Whole ad None = ad ≡ ad

block_whole : (ad : ℕ) → Whole ad (block_of ad)
unfolding block_of
block_whole ad =
    choice (Whole ad) (active 2 ad)
    (λ _.
    choice (Whole ad) (active 3 ad)
    (λ _.
    choice (Whole ad) (active 4 ad)
    (λ _. choice (Whole ad) (active 5 ad) (λ _. refl) (λ _. words_lanes Sixteen 16 (ad - ad % 64) refl (omega arith) (omega arith)))
    (λ _. words_lanes Eight 8 (ad - ad % 32) refl (omega arith) (omega arith)))
    (λ _. words_lanes Four 4 (ad - ad % 16) refl (omega arith) (omega arith)))
    (λ _. words_lanes Two 2 (ad - ad % 8) refl (omega arith) (omega arith))

pub block_lanes : (ad : ℕ) (u : Unit) → Some u ≡ block_of ad → lanes_of u (ad - ad % bytes_in u) ≡ 15
block_lanes ad u e = subst (Whole ad) (sym e) (block_whole ad)

-- ---- the lanes as bits
active-one : (k n : ℕ) (t : Bool) → bit k n ≡ one t → active k n ≡ t
active-one k n true e = bit-active k n e
active-one k n false e = bit_inactive k n e

module _ (u : Unit) (a : ℕ) where
  most : (k : ℕ) → one (carries u a 0 k) ≤ 1
  most k = one-most (carries u a 0 k)

  pub four_lanes : lanes_of u a < 16
  unfolding lanes_of
  four_lanes = omega (arith, most 0, most 1, most 2, most 3)

  -- bit k says whether lane k carries the unit in the enclosing word
  pub lane-carries : (k : ℕ) → k < 4 → active k (lanes_of u a) ≡ carries u a 0 k
  unfolding lanes_of bit
  lane-carries =
      below4 (λ k. active k (lanes_of u a) ≡ carries u a 0 k)
      (active-one 0 (lanes_of u a) (carries u a 0 0) (omega (arith, most 0, most 1, most 2, most 3)))
      (active-one 1 (lanes_of u a) (carries u a 0 1) (omega (arith, most 0, most 1, most 2, most 3)))
      (active-one 2 (lanes_of u a) (carries u a 0 2) (omega (arith, most 0, most 1, most 2, most 3)))
      (active-one 3 (lanes_of u a) (carries u a 0 3) (omega (arith, most 0, most 1, most 2, most 3)))

  -- of a unit with one word
  pub only-word : (j k : ℕ) → j < 1 → k < 4 → active k (lanes_of u a) ≡ carries u a j k
  only-word zero k h l = lane-carries k l
  only-word (suc j) k h l = absurd (omega arith)
