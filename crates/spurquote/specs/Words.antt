-- The words of the program of worst waits, as in `spurquote 3 16`: a slot and a hold limit in decimal, any numbers.
use Rattle.std.specs.Prelude.{ℕ, cond, List, eqb, Option, Some, None}
use Rattle.text.specs.Numbers.{number_of}

abbrev pub both_of : Option ℕ → Option ℕ → Option (ℕ × ℕ)
both_of (Some slot) (Some limit) = Some (slot, limit)
both_of (Some slot) None = None
both_of None limit = None

-- what the words ask for, from how many there are, the program's own name among them, and the two behind it: a slot and a limit
unfoldable pub asked_of : ℕ → List ℕ → List ℕ → Option (ℕ × ℕ)
asked_of count slot limit = cond (eqb count 3) (both_of (number_of slot) (number_of limit)) None
