-- Laws of numbers as text. Assumes nothing.
use Prim.Native.Nat.{ℕ, zero, suc, ◌-◌, ◌/◌, ◌%◌, ◌^◌, ◌≤◌, ◌<◌}
use mathlib.Core.Path.{◌≡◌, refl, sym, ap, ◌∙◌}
use mathlib.Core.Bool.{true}
use mathlib.Core.List.{List, [], ◌∷◌, ◌++◌}
use native.Mathlib.Omega.{arith}
use borrow.Author.Tests.{ltb-true, ltb-false}
use lib.Dec.{ltb}
use lib.ListN.{length, take, drop, get_or, set, length-append, get_or-append}
use lib.Seq.{append_snoc, set_split, drop_at, length-take-le}
use Rattle.basics.proofs.Bools.{choice, both_and}
use Rattle.text.specs.Decimal.{digit, spelled, decimal_of}
use Rattle.text.specs.Numbers.{all_digits, value_of, capped, number_of}
use Rattle.std.specs.Prelude.{Some}
use Rattle.text.proofs.NumberLaws.{digit_is, all_append, digits_append, capped_is, number_is}

-- what holds of one digit, where the number is below 10, and of one more behind the others, holds of the digits
spelled_by : (P : List ℕ → Type 0) (k n : ℕ) → (n < 10 → P (digit n ∷ [])) → (10 ≤ n → P (spelled k (n / 10) ++ (digit (n % 10) ∷ []))) → P (spelled (suc k) n)
unfolding spelled
spelled_by P k n f g = choice P (ltb n 10) (λ e. f (ltb-true n 10 e)) (λ e. g (ltb-false n 10 e))

spelled-most : (k n : ℕ) → length (spelled k n) ≤ k
unfolding spelled
spelled-most zero n = omega arith
spelled-most (suc k) n =
    spelled_by (λ l. length l ≤ suc k) k n (λ h. omega arith) (λ h. simp length-append (omega (arith, spelled-most k (n / 10))))

spelled-some : (k n : ℕ) → 1 ≤ length (spelled (suc k) n)
spelled-some k n = spelled_by (λ l. 1 ≤ length l) k n (λ h. omega arith) (λ h. simp length-append (omega arith))

spelled-digits : (k n : ℕ) → all_digits (spelled k n) ≡ true
unfolding spelled
spelled-digits zero n = refl
spelled-digits (suc k) n =
    spelled_by (λ l. all_digits l ≡ true) k n
    (λ h. both_and _ true (digit_is n h) refl)
    (λ h. all_append (spelled k (n / 10)) _ ∙ both_and _ _ (spelled-digits k (n / 10)) (both_and _ true (digit_is (n % 10) (omega arith)) refl))

spelled-value : (k n : ℕ) → n < 10 ^ k → value_of (spelled k n) ≡ n
unfolding spelled
spelled-value zero n l = omega arith
spelled-value (suc k) n l =
    spelled_by (λ s. value_of s ≡ n) k n
    (λ h. omega arith)
    (λ h. digits_append 0 (spelled k (n / 10)) _ ∙ rw (spelled-value k (n / 10) (omega arith)) (omega arith))

spelled_leads : (k n : ℕ) → n < 10 ^ k → 1 ≤ n → get_or (spelled k n) 0 0 ≡ 48 → ⊥
spelled_leads zero n l h = absurd (omega arith)
spelled_leads (suc k) n l h =
    spelled_by (λ s. get_or s 0 0 ≡ 48 → ⊥) k n
    (λ t e. omega arith)
    (λ t e. spelled_leads k (n / 10) (omega arith) (omega arith) (sym (first k (n / 10) (omega arith) (omega arith)) ∙ e))
  where
    first : (j m : ℕ) → m < 10 ^ j → 1 ≤ m → get_or (spelled j m ++ (digit (n % 10) ∷ [])) 0 0 ≡ get_or (spelled j m) 0 0
    first zero m l h = absurd (omega arith)
    first (suc j) m l h = get_or-append (spelled (suc j) m) _ 0 0 (spelled-some j m)

-- one digit to twenty
pub decimal_length : (n : ℕ) → (1 ≤ length (decimal_of n)) × (length (decimal_of n) ≤ 20)
unfolding decimal_of
decimal_length n = (spelled-some 19 n, spelled-most 20 n)

-- every byte is a digit
pub decimal_digits : (n : ℕ) → all_digits (decimal_of n) ≡ true
unfolding decimal_of
decimal_digits n = spelled-digits 20 n

-- and no zero leads but in 0 itself
pub decimal_leads : (n : ℕ) → n < 10 ^ 20 → 1 ≤ n → get_or (decimal_of n) 0 0 ≡ 48 → ⊥
unfolding decimal_of
decimal_leads n l h = spelled_leads 20 n l h

pub decimal_zero : decimal_of 0 ≡ 48 ∷ []
unfolding decimal_of spelled
decimal_zero = refl

-- read back, the digits are the number
pub decimal_value : (n : ℕ) → n < 10 ^ 20 → value_of (decimal_of n) ≡ n
unfolding decimal_of
decimal_value n l = spelled-value 20 n l

-- so no two numbers look alike
pub decimal_only : (m n : ℕ) → m < 10 ^ 20 → n < 10 ^ 20 → decimal_of m ≡ decimal_of n → m ≡ n
decimal_only m n l h e = sym (decimal_value m l) ∙ ap value_of e ∙ decimal_value n h

-- and the reader answers the number that was written
pub number_back : (n : ℕ) → n ≤ 2 ^ 32 → number_of (decimal_of n) ≡ Some n
number_back n h =
    number_is (decimal_of n) (decimal_length n).0 (decimal_digits n)
    ∙ ap (λ (v : ℕ). Some (capped v)) (decimal_value n (omega arith))
    ∙ ap Some (capped_is n h)

-- a store at a place and what is behind it
drop_set : (l : List ℕ) (i v : ℕ) → i < length l → drop i (set l i v) ≡ v ∷ drop (suc i) l
drop_set l i v h = rw (set_split l i v h) (drop_at (take i l) (v ∷ drop (suc i) l) i (length-take-le i l (omega arith)))

-- a turn of the speller: the digits that are left to spell, with those that stand from the place on
module _ (digits : List ℕ) (at rest : ℕ) (h : at < length digits) where
  pub spell_more : (v : ℕ) → v ≡ digit (rest % 10) → 1 ≤ at → 10 ≤ rest → spelled (suc (at - 1)) (rest / 10) ++ drop (suc (at - 1)) (set digits at v) ≡ spelled (suc at) rest ++ drop (suc at) digits
  spell_more v e p l =
      let s : suc (at - 1) ≡ at = omega arith in
      let left = spelled at (rest / 10) in
      let d = digit (rest % 10) in
      spelled_by (λ z. spelled (suc (at - 1)) (rest / 10) ++ drop (suc (at - 1)) (set digits at v) ≡ z ++ drop (suc at) digits) at rest
      (λ t. absurd (omega arith))
      (λ t. rw (s, e) (ap (λ (z : List ℕ). left ++ z) (drop_set digits at d h) ∙ sym (append_snoc left d (drop (suc at) digits))))

  pub spell_last : rest < 10 → drop at (set digits at (digit rest)) ≡ spelled (suc at) rest ++ drop (suc at) digits
  spell_last l =
      spelled_by (λ s. drop at (set digits at (digit rest)) ≡ s ++ drop (suc at) digits) at rest
      (λ t. drop_set digits at (digit rest) h)
      (λ t. absurd (omega arith))

-- the speller never runs out of places
pub spell_room : (at rest : ℕ) → rest < 10 ^ suc at → 10 ≤ rest → 1 ≤ at
spell_room zero rest l h = absurd (omega arith)
spell_room (suc at) rest l h = omega arith
