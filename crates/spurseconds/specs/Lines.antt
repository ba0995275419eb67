-- What `spurseconds` prints: "for each word one line, the time of N cycles in seconds .. A word has 1 to 19 digits; at one that isn't so: a complaint, and
-- no line for it or those behind it".
use Rattle.std.specs.Prelude.{ℕ, ◌-◌, ◌<◌, ◌≡◌, List, [], ◌∷◌, ◌++◌, length, Result, Ok, Err, Option, Some, None}
use Rattle.text.specs.Words.{word}
use Rattle.figures.specs.Figures.{figure_of}
use Rattle.figures.specs.Times.{seconds_of}
use Rattle.spurseconds.specs.declared.Untold.{Untold}
use Rattle.spurseconds.specs.declared.Untold.TheVariants.{NoLine, CantWrite}

-- the time of so many cycles, on a line
unfoldable pub time_line : ℕ → List ℕ
time_line cycles = seconds_of cycles ++ word "\n"

-- of what a word says as a number: no line where it is none
abbrev pub line_of : Option ℕ → List ℕ
line_of (Some cycles) = time_line cycles
line_of None = []

-- THE LINE OF A WORD
unfoldable pub seconds_line : List ℕ → List ℕ
seconds_line bytes = line_of (figure_of bytes)

-- ---- the words, one after the other
-- how it may go with a word of this line: only a line can be printed, and only where there is none it says so
abbrev pub Goes : List ℕ → Result (Unit {0}) Untold → Type 0
Goes line (Ok _) = 0 < length line
Goes line (Err NoLine) = line ≡ []
Goes line (Err CantWrite) = 0 < length line

-- words one behind the other, each of which has a line
pub data Lined : List (List ℕ) → Type 0 where
  none : Lined []
  later : {words : List (List ℕ)} (bytes : List ℕ) → Lined words → 0 < length (seconds_line bytes) → Lined (words ++ (bytes ∷ []))

-- how it may go with all words of a program that was started with so many, its own name among them: each has a line, and all are printed; or it stops
-- behind those that are, at one that has no line or whose line can't be written. No contract can say which bytes a word has
pub data Told (count : ℕ) : Result (Unit {0}) Untold → Type 0 where
  all : (words : List (List ℕ)) → Lined words → length words ≡ count - 1 → Told count (Ok tt)
  other : (words : List (List ℕ)) (bytes : List ℕ) → Lined words → length words < count - 1 → seconds_line bytes ≡ [] → Told count (Err NoLine)
  unwritten : (words : List (List ℕ)) (bytes : List ℕ) → Lined words → length words < count - 1 → 0 < length (seconds_line bytes) → Told count (Err CantWrite)
