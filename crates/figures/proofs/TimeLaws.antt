-- Laws of times as text, and of what is put at once from a page. Assumes nothing.
use Prim.Native.Nat.{ℕ, zero, suc, ◌+◌, ◌-◌, ◌*◌, ◌/◌, ◌%◌, ◌^◌, ◌≤◌, ◌<◌, min}
use mathlib.Core.Path.{◌≡◌, refl, sym, ap, ◌∙◌}
use mathlib.Core.Bool.{true}
use mathlib.Core.List.{List, [], ◌∷◌, ◌++◌}
use native.Mathlib.Omega.{arith}
use native.Mathlib.Nat.{div-div-eq-div-mul}
use borrow.Author.Tests.{ne_eqb, lt-ltb, eqb-true}
use lib.Dec.{eqb, ltb}
use lib.ListN.{length, take, drop, length-append, length-drop}
use lib.Seq.{take_all}
use Rattle.basics.proofs.Bools.{choice, cond-false, and_both}
use Rattle.io.specs.Digits.{hex_digit_ascii, last_digits}
use Rattle.text.specs.declared.Place.{Place}
use Rattle.text.specs.Decimal.{spelled, decimal_of}
use Rattle.text.specs.Numbers.{is_digit, all_digits, with_digits, value_of}
use Rattle.text.specs.Places.{front, moved_by, put_at, Holds}
use Rattle.text.specs.Words.{word}
use Rattle.text.proofs.NumberLaws.{digit_bounds, digits_append}
use Rattle.text.proofs.DecimalLaws.{decimal_length, decimal_digits, decimal_value}
use Rattle.text.proofs.PlaceLaws.{put_length, holds_more, holds-front}
use Rattle.figures.specs.Times.{seconds_of, nanoseconds_of, without_point}
use Rattle.figures.proofs.DigitLaws.{digits-length, glyph_low}

-- ---- what is put

-- from a buffer and its place to the next
abbrev pub Put : List ℕ → Place → List ℕ → Place → List ℕ → Type 0
Put buffer p next q bytes = (q ≡ moved_by (length buffer) p (length bytes)) × (next ≡ put_at buffer p bytes)

-- the bytes under another name
pub put_as : (buffer : List ℕ) (p : Place) {next : List ℕ} {q : Place} {x y : List ℕ} → x ≡ y → Put buffer p next q x → Put buffer p next q y
put_as buffer p e h = rw e at h

-- a page of 64 bytes with a text at its front
abbrev pub Page : List ℕ → Place → List ℕ → Type 0
Page page p text = Holds page p text × (length page ≡ 64)

pub page_begins : (page : List ℕ) {p : Place} → p ≡ front → length page ≡ 64 → Page page p []
page_begins page e k = (rw e (holds-front page), k)

-- and with more behind it
pub page_more : {a : List ℕ} {p : Place} {b : List ℕ} {q : Place} (t x : List ℕ) → Page a p t → Put a p b q x → length t + length x ≤ 64 → Page b q (t ++ x)
page_more {a} {p} {b} {q} t x h e l =
    let k = h.1 in
    rw (e.0, e.1) (holds_more a p t x h.0 (omega arith), put_length a p x ∙ k)

-- the bytes of the page that are put are the text
module _ {page : List ℕ} {p : Place} {text : List ℕ} (h : Page page p text) where
  page_end : p.at ≡ length text
  page_end = rw h.0.place

  pub page_within : p.at ≤ length page
  page_within = rw page_end h.0.within

  pub page_text : take p.at page ≡ text
  page_text = rw page_end h.0.front

  pub page_size : p.at ≡ length (take p.at page)
  page_size = page_end ∙ sym (ap length page_text)

-- the glyphs that the speller leaves, put from where it began
pub spelled_is : (glyphs : List ℕ) {m b : ℕ} (base width n : ℕ) → length glyphs ≡ 64 → m ≡ min width 64 → b ≡ base → drop (64 - m) glyphs ≡ last_digits b (64 - (64 - m)) n → take (64 - (64 - m)) (drop (64 - m) glyphs) ≡ last_digits base (min width 64) n
spelled_is glyphs {m} {b} base width n k e f d =
    let s : 64 - (64 - m) ≡ min width 64 = omega arith in
    take_all (64 - (64 - m)) (drop (64 - m) glyphs) (simp length-drop (omega arith)) ∙ d ∙ rw (s, f)

-- ---- how long times are

-- a number below a power of ten has no more digits than that
spelled_short : (j k n : ℕ) → n < 10 ^ suc k → length (spelled j n) ≤ suc k
unfolding spelled
spelled_short zero k n l = omega arith
spelled_short (suc j) zero n l = rw (lt-ltb n 10 (omega arith)) (omega arith)
spelled_short (suc j) (suc k) n l =
    choice (λ (s : List ℕ). length s ≤ suc (suc k)) (ltb n 10)
    (λ e. omega arith)
    (λ e. simp length-append (omega (arith, spelled_short j k (n / 10) (omega arith))))

pub decimal_short : (k n : ℕ) → n < 10 ^ suc k → length (decimal_of n) ≤ suc k
unfolding decimal_of
decimal_short k n l = spelled_short 20 k n l

-- a number of 64 bits has at most thirteen digits before the point
pub seconds_length : (cycles : ℕ) → cycles < 2 ^ 64 → length (seconds_of cycles) ≤ 21
unfolding seconds_of
seconds_length cycles l =
    simp length-append (omega (arith, decimal_short 12 (cycles / 10 ^ 7) (omega arith), digits-length 10 7 cycles))

pub nanoseconds_length : (cycles : ℕ) → length (nanoseconds_of cycles) ≤ 22
unfolding nanoseconds_of
nanoseconds_length cycles =
    choice (λ (s : List ℕ). length s ≤ 22) (eqb cycles 0)
    (λ e. omega arith)
    (λ e. simp length-append (omega (arith, (decimal_length cycles).1)))

-- ---- seconds

-- the last digits behind the number that stands before them give it back
last_back : (k n : ℕ) → with_digits (n / 10 ^ k) (last_digits 10 k n) ≡ n
last_back zero n = omega arith
last_back (suc k) n =
    let power : 10 ^ suc k ≡ 10 * 10 ^ k = omega arith in
    let high : n / 10 ^ suc k ≡ n / 10 / 10 ^ k = ap (λ (m : ℕ). n / m) power ∙ sym (div-div-eq-div-mul n 10 (10 ^ k)) in
    digits_append (n / 10 ^ suc k) (last_digits 10 k (n / 10)) (hex_digit_ascii (n % 10) ∷ [])
    ∙ rw (high, last_back k (n / 10), glyph_low (n % 10) (omega arith)) (omega arith)

-- a point behind digits is the first
point_gone : (bs rest : List ℕ) → all_digits bs ≡ true → without_point (bs ++ word "." ++ rest) ≡ bs ++ rest
point_gone [] rest e = refl
point_gone (b ∷ bs) rest e =
    let h = and_both (is_digit b) (all_digits bs) e in
    let d = digit_bounds b h.0 in
    cond-false _ _ (ne_eqb b 46 (λ (f : b ≡ 46). omega arith)) ∙ ap (λ (l : List ℕ). b ∷ l) (point_gone bs rest h.1)

-- NOTHING IS ROUNDED: read on over the point, the seconds' digits spell the number of cycles
pub seconds_back : (cycles : ℕ) → cycles < 10 ^ 20 → value_of (without_point (seconds_of cycles)) ≡ cycles
unfolding seconds_of
seconds_back cycles l =
    ap value_of (point_gone (decimal_of (cycles / 10 ^ 7)) (last_digits 10 7 cycles) (decimal_digits (cycles / 10 ^ 7)))
    ∙ digits_append 0 (decimal_of (cycles / 10 ^ 7)) (last_digits 10 7 cycles)
    ∙ ap (λ (n : ℕ). with_digits n (last_digits 10 7 cycles)) (decimal_value (cycles / 10 ^ 7) (omega arith))
    ∙ last_back 7 cycles

-- so no two times look alike
pub seconds_only : (m n : ℕ) → m < 10 ^ 20 → n < 10 ^ 20 → seconds_of m ≡ seconds_of n → m ≡ n
seconds_only m n l h e = sym (seconds_back m l) ∙ ap (λ (t : List ℕ). value_of (without_point t)) e ∙ seconds_back n h

-- ---- nanoseconds

-- the digits of the nanoseconds spell a hundred times the cycles
pub nanoseconds_back : (cycles : ℕ) → cycles < 10 ^ 20 → value_of (nanoseconds_of cycles) ≡ cycles * 100
unfolding nanoseconds_of
nanoseconds_back cycles l =
    choice (λ (t : List ℕ). value_of t ≡ cycles * 100) (eqb cycles 0)
    (λ e. rw (eqb-true cycles 0 e))
    (λ e. digits_append 0 (decimal_of cycles) (word "00") ∙ rw (decimal_value cycles l) (omega arith))

pub nanoseconds_only : (m n : ℕ) → m < 10 ^ 20 → n < 10 ^ 20 → nanoseconds_of m ≡ nanoseconds_of n → m ≡ n
nanoseconds_only m n l h e =
    let same : m * 100 ≡ n * 100 = sym (nanoseconds_back m l) ∙ ap value_of e ∙ nanoseconds_back n h in
    omega arith
