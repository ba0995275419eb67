-- Laws of the last digits of a number. Assumes nothing.
use Prim.Native.Nat.{ℕ, zero, suc, ◌+◌, ◌/◌, ◌%◌, ◌≤◌, ◌<◌}
use mathlib.Core.Path.{◌≡◌, refl, sym, ap, ◌∙◌}
use mathlib.Core.Bool.{true}
use mathlib.Core.List.{List, [], ◌∷◌, ◌++◌}
use native.Mathlib.Omega.{arith}
use native.Mathlib.Nat.{mod-lt}
use borrow.Author.Tests.{lt-ltb, le-ltb}
use lib.ListN.{length, take, drop, set, length-append}
use lib.Seq.{append_snoc, set_split, drop_at, length-take-le}
use Rattle.basics.proofs.Bools.{cond-true, cond-false, both_and}
use Rattle.io.specs.Digits.{hex_digit_ascii, last_digits}
use Rattle.text.specs.Decimal.{digit}
use Rattle.text.specs.Numbers.{all_digits}
use Rattle.text.proofs.NumberLaws.{digit_is, all_append}

-- k digits are k bytes
pub digits-length : (b k n : ℕ) → length (last_digits b k n) ≡ k
digits-length b zero n = refl
digits-length b (suc k) n = simp length-append (omega (arith, digits-length b k (n / b)))

-- the digits' bytes
pub glyph_low : (d : ℕ) → d < 10 → hex_digit_ascii d ≡ digit d
glyph_low d h = cond-true _ _ (lt-ltb d 10 h)

pub glyph_high : (d : ℕ) → 10 ≤ d → hex_digit_ascii d ≡ 87 + d
glyph_high d h = cond-false _ _ (le-ltb d 10 h)

-- in base 10 they are those that a reader takes
pub decimal_all : (k n : ℕ) → all_digits (last_digits 10 k n) ≡ true
decimal_all zero n = refl
decimal_all (suc k) n =
    let last : all_digits (hex_digit_ascii (n % 10) ∷ []) ≡ true = rw (glyph_low (n % 10) (omega arith)) (both_and _ true (digit_is (n % 10) (omega arith)) refl) in
    all_append (last_digits 10 k (n / 10)) (hex_digit_ascii (n % 10) ∷ []) ∙ both_and _ _ (decimal_all k (n / 10)) last

-- a turn of the speller: the digits that are left to spell, with those that stand from the place on
pub spell_turn : (glyphs : List ℕ) (base k j rest v : ℕ) → j < length glyphs → v ≡ hex_digit_ascii (rest % base) → last_digits base k (rest / base) ++ drop j (set glyphs j v) ≡ last_digits base (suc k) rest ++ drop (suc j) glyphs
spell_turn glyphs base k j rest v h e =
    let left = last_digits base k (rest / base) in
    let stored : drop j (set glyphs j v) ≡ v ∷ drop (suc j) glyphs = rw (set_split glyphs j v h) (drop_at (take j glyphs) (v ∷ drop (suc j) glyphs) j (length-take-le j glyphs (omega arith))) in
    ap (λ (z : List ℕ). left ++ z) stored
    ∙ rw e (sym (append_snoc left (hex_digit_ascii (rest % base)) (drop (suc j) glyphs)))

-- a digit is below its base
pub digit_below : (rest base : ℕ) → 1 < base → base ≤ 16 → rest % base < 16
digit_below rest base l h = let m : rest % base < base = mod-lt rest (omega arith) in omega arith
