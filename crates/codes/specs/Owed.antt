-- Document 01: a transfer is "open with its words owed (1 to 16)", and in an open block transfer strobes "are at most words less one":
-- the words, as the lines of the START give them.
use Rattle.std.specs.Prelude.{ℕ, Bool}
use Rattle.std.specs.Prelude.{Option, Some, None}
use Rattle.codes.specs.declared.Unit.{Unit}
use Rattle.codes.specs.Units.{words_in}
use Rattle.codes.specs.Start.{unit_of}

-- by the unit that the code names
abbrev pub words_by : Option Unit → ℕ
words_by (Some u) = words_in u
words_by None = 0

-- the words that a START with these lines owes, 0 where its code has no meaning
unfoldable pub words_of : Bool → ℕ → ℕ
words_of tm0 ad = words_by (unit_of tm0 ad)
