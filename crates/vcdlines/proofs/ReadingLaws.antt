-- A dump read back. Its signals are the fields of the line record; from the levels before and the changes a reader gets the levels after; and the levels
-- tell the values. Assumes nothing.
use Prim.Native.Nat.{ℕ, zero, suc, ◌+◌, ◌/◌, ◌%◌, ◌^◌, ◌<◌}
use mathlib.Core.Path.{◌≡◌, refl, sym, ap, ◌∙◌}
use mathlib.Core.Bool.{Bool, true, false, cond, not, ◌||◌, true≢false}
use mathlib.Core.List.{List, [], ◌∷◌, ◌++◌, map}
use native.Mathlib.Omega.{arith}
use borrow.Author.Tests.{eq-eqb, ne_eqb, eqb-true, leb-false}
use lib.Dec.{eqb, leb}
use lib.ListN.{length, take, drop, get_or}
use lib.Seq.{take_at, drop_at}
use Rattle.io.specs.Digits.{hex_digit_ascii, last_digits}
use Rattle.basics.proofs.Bools.{by-test, cond-true, cond-false}
use Rattle.record.specs.declared.Record.{Record}
use Rattle.record.specs.Layout.{fields, values}
use Rattle.record.specs.Packing.{wider_than, too_wide}
use Rattle.figures.proofs.DigitLaws.{digits-length, glyph_low}
use Rattle.vcdlines.specs.Signals.{Signal, signals, levels_of, levels, first_code}
use Rattle.vcdlines.specs.Dump.{changes_of}
use Rattle.vcdlines.proofs.ChangeLaws.{changed, unchanged, levels-length}

-- ---- the signals are the fields of document 01's line record, in its order and with its widths, without the stamp and the spare bits
pub signals_wide : map (λ (s : Signal). s.bits) signals ≡ take 15 (drop 1 fields)
signals_wide = refl

pub signals_worth : (r : Record) → map (λ (s : Signal). s.value r) signals ≡ take 15 (drop 1 (values r))
signals_worth r = refl

-- ---- a reader: at each line in its order, it takes the level of a text whose next code is the line's, and else keeps the level that it has
abbrev pub read_back : ℕ → List ℕ → List ℕ → List ℕ
read_back code [] text = []
read_back code (b ∷ befores) text =
    cond (eqb (get_or text 1 0) code) (get_or text 0 0 ∷ read_back (suc code) befores (drop 3 text)) (b ∷ read_back (suc code) befores text)

-- no text of later lines has this code next
later : (first : Bool) (code from : ℕ) (xs ys : List ℕ) → 0 < code → code < from → get_or (changes_of first from xs ys) 1 0 ≡ code → ⊥
later first code from [] ys p l e = omega arith
later first code from (x ∷ xs) [] p l e = omega arith
later first code from (x ∷ xs) (y ∷ ys) p l e =
    by-test (first || not (eqb x y))
    (λ t. clash (sym (ap (λ (z : List ℕ). get_or (z ++ changes_of first (suc from) xs ys) 1 0) (changed first from x y t)) ∙ e))
    (λ t. later first code (suc from) xs ys p (omega arith) (sym (ap (λ (z : List ℕ). get_or (z ++ changes_of first (suc from) xs ys) 1 0) (unchanged first from x y t)) ∙ e))
  where
    clash : from ≡ code → ⊥
    clash q = omega arith

same_level : (first : Bool) (x y : ℕ) → (first || not (eqb x y)) ≡ false → x ≡ y
same_level true x y t = absurd (true≢false t)
same_level false x y t = by-test (eqb x y) (λ e. eqb-true x y e) (λ e. absurd (true≢false (sym (ap not e) ∙ t)))

-- READ BACK, the changes from one list of levels to another give the other
pub read_back_lem : (first : Bool) (code : ℕ) (xs ys : List ℕ) → 0 < code → length xs ≡ length ys → read_back code xs (changes_of first code xs ys) ≡ ys
read_back_lem first code [] [] p e = refl
read_back_lem first code [] (y ∷ ys) p e = absurd (omega arith)
read_back_lem first code (x ∷ xs) [] p e = absurd (omega arith)
read_back_lem first code (x ∷ xs) (y ∷ ys) p e =
    let rest = changes_of first (suc code) xs ys in
    let left : read_back (suc code) xs rest ≡ ys = read_back_lem first (suc code) xs ys (omega arith) (omega arith) in
    let read : List ℕ → List ℕ = λ z. read_back code (x ∷ xs) (z ++ rest) in
    by-test (first || not (eqb x y))
    (λ t. ap read (changed first code x y t) ∙ cond-true _ _ (eq-eqb code code refl) ∙ ap (λ (z : List ℕ). y ∷ z) left)
    (λ t. ap read (unchanged first code x y t)
    ∙ cond-false _ _ (ne_eqb _ code (later first code (suc code) xs ys p (omega arith)))
    ∙ ap (λ (z : List ℕ). x ∷ z) left
    ∙ ap (λ (v : ℕ). v ∷ ys) (same_level first x y t))

-- so of a record
pub record_back : (first : Bool) (last lines : Record) → read_back first_code (levels last) (changes_of first first_code (levels last) (levels lines)) ≡ levels lines
record_back first last lines = read_back_lem first first_code (levels last) (levels lines) (omega arith) (levels-length last ∙ sym (levels-length lines))

-- ---- and the levels tell the values
bits-only : (k m n : ℕ) → m < 2 ^ k → n < 2 ^ k → last_digits 2 k m ≡ last_digits 2 k n → m ≡ n
bits-only zero m n h l e = omega arith
bits-only (suc k) m n h l e =
    let halves : m / 2 ≡ n / 2 = bits-only k (m / 2) (n / 2) (omega arith) (omega arith) (sym (front_of m) ∙ ap (take k) e ∙ front_of n) in
    let lows : 48 + m % 2 ≡ 48 + n % 2 = sym (low_of m) ∙ ap (λ (z : List ℕ). get_or (drop k z) 0 0) e ∙ low_of n in
    omega arith
  where
    front_of : (v : ℕ) → take k (last_digits 2 (suc k) v) ≡ last_digits 2 k (v / 2)
    front_of v = take_at (last_digits 2 k (v / 2)) (hex_digit_ascii (v % 2) ∷ []) k (digits-length 2 k (v / 2))

    low_of : (v : ℕ) → get_or (drop k (last_digits 2 (suc k) v)) 0 0 ≡ 48 + v % 2
    low_of v = ap (λ (z : List ℕ). get_or z 0 0) (drop_at (last_digits 2 k (v / 2)) (hex_digit_ascii (v % 2) ∷ []) k (digits-length 2 k (v / 2))) ∙ glyph_low (v % 2) (omega arith)

neither : (a b : Bool) → (a || b) ≡ false → (a ≡ false) × (b ≡ false)
neither true b e = absurd (true≢false e)
neither false b e = (refl, e)

-- the values of these signals in a record
abbrev worth : List Signal → Record → List ℕ
worth ss r = map (λ (s : Signal). s.value r) ss

abbrev wide : List Signal → List ℕ
wide ss = map (λ (s : Signal). s.bits) ss

levels_tell : (ss : List Signal) (r q : Record) → wider_than (wide ss) (worth ss r) ≡ false → wider_than (wide ss) (worth ss q) ≡ false → levels_of ss r ≡ levels_of ss q → worth ss r ≡ worth ss q
levels_tell [] r q f g e = refl
levels_tell (s ∷ ss) r q f g e =
    let x = neither _ _ f in
    let y = neither _ _ g in
    let one : s.value r ≡ s.value q = bits-only s.bits (s.value r) (s.value q) (leb-false _ _ x.0) (leb-false _ _ y.0) (sym (mine r) ∙ ap (take s.bits) e ∙ mine q) in
    let others : worth ss r ≡ worth ss q = levels_tell ss r q x.1 y.1 (sym (theirs r) ∙ ap (drop s.bits) e ∙ theirs q) in
    rw (one, others)
  where
    mine : (v : Record) → take s.bits (levels_of (s ∷ ss) v) ≡ last_digits 2 s.bits (s.value v)
    mine v = take_at (last_digits 2 s.bits (s.value v)) (levels_of ss v) s.bits (digits-length 2 s.bits (s.value v))

    theirs : (v : Record) → drop s.bits (levels_of (s ∷ ss) v) ≡ levels_of ss v
    theirs v = drop_at (last_digits 2 s.bits (s.value v)) (levels_of ss v) s.bits (digits-length 2 s.bits (s.value v))

-- so records that can be packed look alike only where they are, but for their stamps
pub record_told : (r q : Record) → too_wide r ≡ false → too_wide q ≡ false → levels r ≡ levels q → drop 1 (values r) ≡ drop 1 (values q)
unfolding levels too_wide
record_told r q f g e = ap (λ (vs : List ℕ). vs ++ (0 ∷ [])) (levels_tell signals r q (neither (leb (2 ^ 32) r.stamp) _ f).1 (neither (leb (2 ^ 32) q.stamp) _ g).1 e)
