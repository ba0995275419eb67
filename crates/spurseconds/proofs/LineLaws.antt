-- Laws of the lines, and of what is put at the front of a page. Assumes nothing.
use Prim.Native.Nat.{ℕ, ◌+◌, ◌-◌, ◌/◌, ◌^◌, ◌≤◌, ◌<◌}
use mathlib.Core.Path.{◌≡◌, refl, sym, ap, ◌∙◌}
use mathlib.Core.List.{List, [], ◌∷◌, ◌++◌}
use native.Mathlib.Omega.{arith}
use lib.ListN.{length, take, length-append}
use Rattle.std.specs.Prelude.{Option, Some, None, Ok, Err}
use Rattle.text.specs.declared.Place.{Place}
use Rattle.text.specs.Places.{front}
use Rattle.text.proofs.DecimalLaws.{decimal_length}
use Rattle.figures.specs.Figures.{figure_of}
use Rattle.figures.specs.Times.{seconds_of}
use Rattle.figures.proofs.DigitLaws.{digits-length}
use Rattle.figures.proofs.TimeLaws.{Put, Page, page_begins, page_more, page_text, page_size}
use Rattle.spurseconds.specs.declared.Untold.{Untold}
use Rattle.spurseconds.specs.declared.Untold.TheVariants.{NoLine, CantWrite}
use Rattle.spurseconds.specs.Lines.{time_line, line_of, seconds_line, Goes, Lined, none, later, Told, all, other, unwritten}

-- ---- how long a line is: twenty digits at most, the point, seven digits and the newline
pub time-most : (cycles : ℕ) → length (time_line cycles) ≤ 29
unfolding time_line seconds_of
time-most cycles =
    simp length-append (omega (arith, (decimal_length (cycles / 10 ^ 7)).1, digits-length 10 7 cycles))

line-most : (said : Option ℕ) → length (line_of said) ≤ 29
line-most (Some cycles) = time-most cycles
line-most None = omega arith

pub seconds-most : (bytes : List ℕ) → length (seconds_line bytes) ≤ 29
unfolding seconds_line
seconds-most bytes = line-most (figure_of bytes)

-- ---- what a word's line is
module _ (bytes : List ℕ) where
  pub line_is : {cycles : ℕ} → Some cycles ≡ figure_of bytes → time_line cycles ≡ seconds_line bytes
  unfolding seconds_line
  line_is e = ap line_of e

  pub no_line : None ≡ figure_of bytes → [] ≡ seconds_line bytes
  unfolding seconds_line
  no_line e = ap line_of e

-- ---- what is put
-- a page of 64 bytes holds the line that was put at its front
pub page_line : (page bytes : List ℕ) {next : List ℕ} {r : Place} → length page ≡ 64 → Put page front next r (seconds_line bytes) → Page next r (seconds_line bytes)
page_line page bytes k h =
    page_more [] (seconds_line bytes) (page_begins page refl k) h (omega (arith, seconds-most bytes))

-- ---- the words
-- the words before word `next` are printed, of `count` in all
pub record Telling (count next : ℕ) : Type 0 where
  pub words : List (List ℕ)
  pub lined : Lined words
  pub size : length words + 1 ≡ next
  pub within : length words ≤ count - 1

pub telling_start : (count : ℕ) → Telling count 1
telling_start count = record { words = []; lined = none; size = refl; within = omega arith }

-- one word more, by how it went with it
module _ (count next : ℕ) (bytes : List ℕ) (h : Telling count next) (l : next < count) where
  fewer : length h.words < count - 1
  fewer = let s = h.size in omega arith

  pub telling_on : (done : Unit {0}) → Goes (seconds_line bytes) (Ok done) → Telling count (next + 1)
  telling_on done g =
      let more = length-append h.words (bytes ∷ []) in
      let s = h.size in
      record { words = h.words ++ (bytes ∷ []); lined = later bytes h.lined g; size = omega arith; within = omega arith }

  pub told-untold : (e : Untold) → Goes (seconds_line bytes) (Err e) → Told count (Err e)
  told-untold NoLine g = other h.words bytes h.lined fewer g
  told-untold CantWrite g = unwritten h.words bytes h.lined fewer g

pub told-all : (count next : ℕ) → Telling count next → count ≤ next → Told count (Ok tt)
told-all count next h l = let s = h.size in let w = h.within in all h.words h.lined (omega arith)

-- a line that has bytes or none, by where its page ends
pub line-none : (bytes : List ℕ) {page : List ℕ} {p : Place} → Page page p (seconds_line bytes) → p.at ≡ 0 → seconds_line bytes ≡ []
line-none bytes {page} {p} h e = sym (page_text h) ∙ ap (λ (n : ℕ). take n page) e

pub line-some : (bytes : List ℕ) {page : List ℕ} {p : Place} → Page page p (seconds_line bytes) → (p.at ≡ 0 → ⊥) → 0 < length (seconds_line bytes)
line-some bytes {page} {p} h n =
    let size : p.at ≡ length (seconds_line bytes) = page_size h ∙ ap length (page_text h) in
    omega (arith, n)
