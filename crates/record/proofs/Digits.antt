-- Laws of numbers of mixed radix: digits and number undo each other, and both split where the list of widths does. Assumes nothing.
use Prim.Native.Nat.{ℕ, ◌+◌, ◌*◌, ◌%◌, ◌/◌, ◌^◌, ◌<◌}
use mathlib.Core.Path.{◌≡◌, refl, sym, ap, ap₂, ◌∙◌}
use mathlib.Core.List.{List, [], ◌∷◌, ◌++◌}
use native.Mathlib.Omega.{arith}
use native.Mathlib.Nat.{add_assoc, mul_assoc, add-mul, mod-lt, mod-eq_of_lt, mul-add-div_right, mul-add-mod_self_right, div-div-eq-div-mul, zero-add, mul_comm, zero-mul}
use lib.ListN.{length}
use lib.Arith.{digits_lt}
use lib.Pow.{pow-add, pow_pos, mod-pow-add, high}
use Rattle.record.specs.Digits.{width, number, digits}

-- as many values as widths, each within its own
abbrev pub Fit : List ℕ → List ℕ → Type 0
Fit [] [] = Unit {0}
Fit [] (v ∷ vs) = ⊥
Fit (w ∷ ws) [] = ⊥
Fit (w ∷ ws) (v ∷ vs) = (v < 2 ^ w) × Fit ws vs

-- the digits of a number fit
pub digits-fit : (ws : List ℕ) (n : ℕ) → Fit ws (digits ws n)
digits-fit [] n = tt
digits-fit (w ∷ ws) n = (mod-lt (n / 2 ^ width ws) (pow_pos w), digits-fit ws n)

-- and make it up, as far as their width goes
pub number_digits : (ws : List ℕ) (n : ℕ) → number ws (digits ws n) ≡ n % 2 ^ width ws
number_digits [] n = omega arith
number_digits (w ∷ ws) n = rw (number_digits ws n) (sym (mod-pow-add n w (width ws)))

-- a number of fitting digits is within their width
pub number_lt : (ws vs : List ℕ) → Fit ws vs → number ws vs < 2 ^ width ws
number_lt [] [] f = omega arith
number_lt [] (v ∷ vs) f = elim f [ ]
number_lt (w ∷ ws) [] f = elim f [ ]
number_lt (w ∷ ws) (v ∷ vs) f = rw (pow-add 2 w (width ws)) (digits_lt f.0 (number_lt ws vs f.1))

-- what stands above the digits' width does not change them
digits_above : (ws : List ℕ) (x m : ℕ) → digits ws (x * 2 ^ width ws + m) ≡ digits ws m
digits_above [] x m = refl
digits_above (w ∷ ws) x m =
    let e : x * 2 ^ (w + width ws) ≡ x * 2 ^ w * 2 ^ width ws = rw (pow-add 2 w (width ws)) (sym (mul_assoc x (2 ^ w) (2 ^ width ws))) in
    ap₂ (λ (a : ℕ) (l : List ℕ). a ∷ l)
    (rw (e, mul-add-div_right (pow_pos (width ws)) (x * 2 ^ w) m) (mul-add-mod_self_right x (2 ^ w) (m / 2 ^ width ws)))
    (rw e (digits_above ws (x * 2 ^ w) m))

-- the digits of a number of fitting digits are these
pub digits_number : (ws vs : List ℕ) → Fit ws vs → digits ws (number ws vs) ≡ vs
digits_number [] [] f = refl
digits_number [] (v ∷ vs) f = elim f [ ]
digits_number (w ∷ ws) [] f = elim f [ ]
digits_number (w ∷ ws) (v ∷ vs) f =
    ap₂ (λ (a : ℕ) (l : List ℕ). a ∷ l)
    (rw (high v (width ws) (number_lt ws vs f.1)) (mod-eq_of_lt f.0))
    (digits_above ws v (number ws vs) ∙ digits_number ws vs f.1)

width-append : (ws us : List ℕ) → width (ws ++ us) ≡ width ws + width us
width-append [] us = sym (zero-add (width us))
width-append (w ∷ ws) us = rw (width-append ws us) (sym (add_assoc w (width ws) (width us)))

-- a number with its digits in two parts
pub number_append : (ws us vs xs : List ℕ) → length ws ≡ length vs → number (ws ++ us) (vs ++ xs) ≡ number ws vs * 2 ^ width us + number us xs
number_append [] us [] xs e = sym (rw (zero-mul, zero-add))
number_append [] us (v ∷ vs) xs e = absurd (omega arith)
number_append (w ∷ ws) us [] xs e = absurd (omega arith)
number_append (w ∷ ws) us (v ∷ vs) xs e =
    rw (number_append ws us vs xs (omega arith), width-append ws us, pow-add 2 (width ws) (width us))
    (omega (arith, add-mul (v * 2 ^ width ws) (number ws vs) (2 ^ width us), mul_assoc v (2 ^ width ws) (2 ^ width us)))

-- the digits of two numbers, one above the other
pub digits_append : (ws us : List ℕ) (x y : ℕ) → y < 2 ^ width us → digits (ws ++ us) (x * 2 ^ width us + y) ≡ digits ws x ++ digits us y
digits_append [] us x y h = digits_above us x y
digits_append (w ∷ ws) us x y h =
    ap₂ (λ (a : ℕ) (l : List ℕ). a ∷ l)
    (ap (λ (n : ℕ). n % 2 ^ w) (rw (width-append ws us, pow-add 2 (width ws) (width us), mul_comm (2 ^ width ws) (2 ^ width us), ← div-div-eq-div-mul, high x (width us) h)))
    (digits_append ws us x y h)
