-- The words of the program of a fleet's figures, as in `spurfleet 9 2 40 7`: "0 to 4096 words of 1 to 19 digits; other words, or more: a complaint
-- and no line". No contract can say which bytes a word has; what is said holds of as many words as there are.
use Rattle.std.specs.Prelude.{ℕ, ◌≤◌, ◌<◌, Bool, true, false, ◌≡◌, length, take, set, Option, Some, None, Result, Ok, Err}
use mathlib.Core.List.{List, map, Memᴰ}
use Rattle.figures.specs.Figures.{figure_of}
use Rattle.fleetlines.specs.Lines.{fleet_page}
use Rattle.spurfleet.specs.declared.Untold.{Untold}
use Rattle.spurfleet.specs.declared.Untold.TheVariants.{NoFigure, TooMany}

-- a word says a number
abbrev pub is_figure : Option ℕ → Bool
is_figure (Some n) = true
is_figure None = false

-- the numbers with the one that a word says at a place
abbrev pub with_figure : List ℕ → ℕ → Option ℕ → List ℕ
with_figure numbers at (Some n) = set numbers at n
with_figure numbers at None = numbers

-- each of the words is a figure, and the numbers are those, in their order
abbrev pub Say : List (List ℕ) → List ℕ → Type 0
Say words numbers = map figure_of words ≡ map Some numbers

-- one of the words is no figure
abbrev pub Amiss : List (List ℕ) → Type 0
Amiss words = Memᴰ None (map figure_of words)

-- so many words are taken in, and whether all are good
pub record Given (count : ℕ) (numbers : List ℕ) (good : Bool) : Type 0 where
  pub words : List (List ℕ)
  pub size : length words ≡ count
  pub each : good ≡ true → Say words (take count numbers)
  pub amiss : good ≡ false → Amiss words

-- THE PROMISE of the program, for so many words behind its name: the text that it prints is the line of the numbers that they say; and it prints none
-- where one of them is no figure, or where there are more than 4096
pub data Prints (count : ℕ) (text : List ℕ) : Result ℕ Untold → Type 0 where
  line : (n : ℕ) (words : List (List ℕ)) (numbers : List ℕ) → count ≤ 4096 → length words ≡ count → Say words numbers
      → n ≤ length text → take n text ≡ fleet_page numbers → Prints count text (Ok n)
  amiss : (words : List (List ℕ)) → count ≤ 4096 → length words ≡ count → Amiss words → Prints count text (Err NoFigure)
  many : 4096 < count → Prints count text (Err TooMany)
