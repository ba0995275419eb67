-- Exact numbers read from words.
use Rattle.std.specs.Prelude.{ℕ, cond, ◌&&◌, List, leb, length, Option, Some, None}
use Rattle.text.specs.Numbers.{value_of, is_number}

-- "A word has 1 to 19 digits": the number that they spell, and nothing else is a number
unfoldable pub figure_of : List ℕ → Option ℕ
figure_of bs = cond (is_number bs && leb (length bs) 19) (Some (value_of bs)) None
