-- Laws of exact numbers read from words. Assumes nothing.
use Prim.Native.Nat.{ℕ, suc, ◌+◌, ◌-◌, ◌*◌, ◌^◌, ◌≤◌, ◌<◌}
use mathlib.Core.Path.{◌≡◌, sym, ap, subst, ◌∙◌}
use mathlib.Core.Bool.{Bool, true, false, ◌&&◌, and-false}
use mathlib.Core.List.{List, [], ◌∷◌}
use native.Mathlib.Omega.{arith}
use native.Mathlib.Nat.{pow-le-pow_right, add-zero}
use borrow.Author.Tests.{le-leb, lt-leb, leb-true, lt-ltb}
use lib.Dec.{leb, ltb}
use lib.ListN.{length}
use Rattle.basics.proofs.Bools.{choice, cond-true, cond-false, by-test, and_both, both_and}
use Rattle.std.specs.Prelude.{Option, Some, None}
use Rattle.text.specs.Numbers.{is_digit, all_digits, with_digit, with_digits, value_of, is_number, number_of}
use Rattle.text.specs.Decimal.{decimal_of}
use Rattle.text.proofs.NumberLaws.{digit_bounds}
use Rattle.text.proofs.DecimalLaws.{decimal_length, decimal_digits, decimal_value}
use Rattle.figures.specs.Figures.{figure_of}
use Rattle.figures.proofs.TimeLaws.{decimal_short}

-- one digit more is one power of ten more
pub digit_less : (n k b : ℕ) → n < 10 ^ k → is_digit b ≡ true → with_digit n b < 10 ^ suc k
digit_less n k b l e = let d = digit_bounds b e in omega arith

-- nineteen of them have room in 64 bits
pub nineteen_fit : (k : ℕ) → k ≤ 19 → 10 ^ k ≤ 10 ^ 19
nineteen_fit k h = pow-le-pow_right (omega arith) h

pub digits_less : (n k : ℕ) (bs : List ℕ) → n < 10 ^ k → all_digits bs ≡ true → with_digits n bs < 10 ^ (k + length bs)
digits_less n k [] l e = rw add-zero l
digits_less n k (b ∷ bs) l e =
    let h = and_both (is_digit b) (all_digits bs) e in
    let s : k + suc (length bs) ≡ suc k + length bs = omega arith in
    rw s (digits_less (with_digit n b) (suc k) bs (digit_less n k b l h.0) h.1)

-- up to nineteen digits spell a number below 10^19
pub value_less : (word : List ℕ) → all_digits word ≡ true → length word ≤ 19 → value_of word < 10 ^ 19
value_less word e h =
    let l : value_of word < 10 ^ (0 + length word) = digits_less 0 0 word (omega arith) e in
    let m : 10 ^ (0 + length word) ≤ 10 ^ 19 = nineteen_fit (0 + length word) (omega arith) in
    omega arith

-- an answer is a number
abbrev is_it : Option ℕ → Bool
is_it (Some n) = true
is_it None = false

-- the word's answers, from its length and from what `text::number_in` says of it
module _ (word : List ℕ) where
  pub long-word : 19 < length word → None ≡ figure_of word
  unfolding figure_of
  long-word l = sym (cond-false _ _ (ap (λ (t : Bool). is_number word && t) (lt-leb (length word) 19 l) ∙ and-false (is_number word)))

  number-says : is_it (number_of word) ≡ is_number word
  unfolding number_of
  number-says = by-test (is_number word) (λ e. ap is_it (cond-true _ _ e) ∙ sym e) (λ e. ap is_it (cond-false _ _ e) ∙ sym e)

  module _ {said : Option ℕ} (n : said ≡ number_of word) where
    is_number_lem : {b : Bool} → is_it said ≡ b → is_number word ≡ b
    is_number_lem e = sym number-says ∙ sym (ap is_it n) ∙ e

    pub no_figure : said ≡ None → None ≡ figure_of word
    unfolding figure_of
    no_figure e = sym (cond-false _ _ (ap (λ (t : Bool). t && leb (length word) 19) (is_number_lem (ap is_it e))))

    module _ {v : ℕ} (e : said ≡ Some v) where
      pub digits_all : all_digits word ≡ true
      unfolding is_number
      digits_all = (and_both (ltb 0 (length word)) (all_digits word) (is_number_lem (ap is_it e))).1

      pub figure_is : {value : ℕ} → length word ≤ 19 → value ≡ value_of word → Some value ≡ figure_of word
      unfolding figure_of
      figure_is l d =
          ap Some d ∙ sym (cond-true _ _ (both_and (is_number word) (leb (length word) 19) (is_number_lem (ap is_it e)) (le-leb (length word) 19 l)))

-- a figure is below 10^19
abbrev Below : Option ℕ → Type 0
Below (Some n) = n < 10 ^ 19
Below None = 0 < 10 ^ 19

pub figure_less : (word : List ℕ) {n : ℕ} → figure_of word ≡ Some n → n < 10 ^ 19
unfolding figure_of is_number
figure_less word e =
    subst Below e
    (choice Below (is_number word && leb (length word) 19)
    (λ t.
    let both = and_both (is_number word) (leb (length word) 19) t in
    value_less word (and_both (ltb 0 (length word)) (all_digits word) both.0).1 (leb-true (length word) 19 both.1))
    (λ t. omega arith))

-- a word that was read so far to a value of so many digits, with what is left of it
abbrev pub Left : List ℕ → ℕ → ℕ → List ℕ → Type 0
Left word value next rest = (value < 10 ^ next) × (all_digits rest ≡ true) × (with_digits value rest ≡ value_of word)

module _ (word : List ℕ) (value next b : ℕ) (rest : List ℕ) (h : Left word value next (b ∷ rest)) where
  left_digit : is_digit b ≡ true
  left_digit = (and_both (is_digit b) (all_digits rest) h.1).0

  pub left_less : Left word (with_digit value b) (suc next) rest
  left_less = (digit_less value next b h.0 left_digit, (and_both (is_digit b) (all_digits rest) h.1).1, h.2)

  -- the byte is a digit, and there is room for it behind the value
  pub left_room : next < 19 → (48 ≤ b) × (value * 10 + (b - 48) < 10 ^ 19)
  left_room l =
      let m : 10 ^ suc next ≤ 10 ^ 19 = nineteen_fit (suc next) l in
      let v : with_digit value b < 10 ^ suc next = left_less.0 in
      ((digit_bounds b left_digit).0, omega arith)

-- the reader answers the number that was written, up to nineteen digits
pub figure_back : (n : ℕ) → n < 10 ^ 19 → figure_of (decimal_of n) ≡ Some n
unfolding figure_of is_number
figure_back n l =
    let size = length (decimal_of n) in
    let number = both_and (ltb 0 size) (all_digits (decimal_of n)) (lt-ltb 0 size (decimal_length n).0) (decimal_digits n) in
    cond-true _ _ (both_and _ (leb size 19) number (le-leb size 19 (decimal_short 18 n l)))
    ∙ ap Some (decimal_value n (omega arith))
