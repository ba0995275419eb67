-- Laws of numbers read from text. Assumes nothing.
use Prim.Native.Nat.{ℕ, ◌^◌, ◌≤◌, ◌<◌}
use mathlib.Core.Path.{◌≡◌, refl, sym, ap, ◌∙◌}
use mathlib.Core.Bool.{Bool, true, false, ◌&&◌, and_assoc, and-false}
use mathlib.Core.List.{List, [], ◌∷◌, ◌++◌}
use native.Mathlib.Omega.{arith}
use borrow.Author.Tests.{le-leb, leb-true, lt-ltb}
use lib.Dec.{leb, ltb}
use lib.ListN.{length}
use Rattle.basics.proofs.Bools.{cond-true, cond-false, and_both, both_and}
use Rattle.text.specs.Decimal.{digit}
use Rattle.text.specs.Numbers.{is_digit, all_digits, with_digit, with_digits, value_of, capped, is_number, number_of}
use Rattle.std.specs.Prelude.{Some, None}

pub digit_bounds : (b : ℕ) → is_digit b ≡ true → (48 ≤ b) × (b ≤ 57)
digit_bounds b e =
    let h = and_both (leb 48 b) (leb b 57) e in
    (leb-true 48 b h.0, leb-true b 57 h.1)

pub digit_is : (d : ℕ) → d < 10 → is_digit (digit d) ≡ true
digit_is d h = both_and (leb 48 (digit d)) (leb (digit d) 57) (le-leb 48 (digit d) (omega arith)) (le-leb (digit d) 57 (omega arith))

-- of two runs of bytes one behind the other
pub all_append : (xs ys : List ℕ) → all_digits (xs ++ ys) ≡ (all_digits xs && all_digits ys)
all_append [] ys = refl
all_append (x ∷ xs) ys = ap (λ (t : Bool). is_digit x && t) (all_append xs ys) ∙ sym (and_assoc (is_digit x) (all_digits xs) (all_digits ys))

pub digits_append : (n : ℕ) (xs ys : List ℕ) → with_digits n (xs ++ ys) ≡ with_digits (with_digits n xs) ys
digits_append n [] ys = refl
digits_append n (x ∷ xs) ys = digits_append (with_digit n x) xs ys

-- a cap on the way changes nothing at the end
pub capped_is : (n : ℕ) → n ≤ 2 ^ 32 → capped n ≡ n
unfolding capped
capped_is n h = omega arith

pub capped_big : (n : ℕ) → 2 ^ 32 ≤ n → capped n ≡ 2 ^ 32
unfolding capped
capped_big n h = omega arith

pub capped-most : (n : ℕ) → capped n ≤ 2 ^ 32
unfolding capped
capped-most n = omega arith

capped-digit : (m n b : ℕ) → capped m ≡ capped n → capped (with_digit m b) ≡ capped (with_digit n b)
unfolding capped
capped-digit m n b e = omega arith

capped-digits : (m n : ℕ) (bs : List ℕ) → capped m ≡ capped n → capped (with_digits m bs) ≡ capped (with_digits n bs)
capped-digits m n [] e = e
capped-digits m n (b ∷ bs) e = capped-digits (with_digit m b) (with_digit n b) bs (capped-digit m n b e)

-- the word's two answers
module _ (word : List ℕ) where
  pub number_is : 0 < length word → all_digits word ≡ true → number_of word ≡ Some (capped (value_of word))
  unfolding number_of is_number
  number_is l e = cond-true _ _ (both_and (ltb 0 (length word)) (all_digits word) (lt-ltb 0 (length word) l) e)

  pub no_number : all_digits word ≡ false → None ≡ number_of word
  unfolding number_of is_number
  no_number e = sym (cond-false _ _ (ap (λ (t : Bool). ltb 0 (length word) && t) e ∙ and-false (ltb 0 (length word))))

  pub empty-word : length word ≡ 0 → None ≡ number_of word
  unfolding number_of is_number
  empty-word e = rw e

-- a word that was read so far to a value, with what is left of it
abbrev pub Left : List ℕ → ℕ → List ℕ → Type 0
Left word value rest = (all_digits rest ≡ all_digits word) × (capped (with_digits value rest) ≡ capped (value_of word))

module _ (word : List ℕ) (value : ℕ) where
  pub left_less : (b : ℕ) (rest : List ℕ) → is_digit b ≡ true → Left word value (b ∷ rest) → Left word (capped (with_digit value b)) rest
  left_less b rest d h = (
    sym (ap (λ (t : Bool). t && all_digits rest) d) ∙ h.0,
    capped-digits _ _ rest (capped_is _ (capped-most (with_digit value b))) ∙ h.1,
  )

  pub left_other : (b : ℕ) (rest : List ℕ) → is_digit b ≡ false → Left word value (b ∷ rest) → None ≡ number_of word
  left_other b rest d h = no_number word (sym h.0 ∙ ap (λ (t : Bool). t && all_digits rest) d)

  pub left_none : value ≤ 2 ^ 32 → 0 < length word → Left word value [] → Some value ≡ number_of word
  left_none v l h = sym (number_is word l (sym h.0) ∙ ap Some (sym h.1 ∙ capped_is value v))
