-- Numbers read from text.
use Rattle.std.specs.Prelude.{ℕ, ◌+◌, ◌*◌, ◌-◌, ◌^◌, min, Bool, true, cond, ◌&&◌, List, [], ◌∷◌, ltb, leb, length, Option, Some, None}

-- the byte is one of '0' to '9'
abbrev pub is_digit : ℕ → Bool
is_digit byte = leb 48 byte && leb byte 57

abbrev pub all_digits : List ℕ → Bool
all_digits [] = true
all_digits (b ∷ bs) = is_digit b && all_digits bs

-- the number n with one digit more behind it
abbrev pub with_digit : ℕ → ℕ → ℕ
with_digit n byte = n * 10 + (byte - 48)

-- and with all of these
abbrev pub with_digits : ℕ → List ℕ → ℕ
with_digits n [] = n
with_digits n (b ∷ bs) = with_digits (with_digit n b) bs

-- the number that digits spell, read from the left; zeros in front change nothing
abbrev pub value_of : List ℕ → ℕ
value_of bs = with_digits 0 bs

-- a number over 2^32 counts as 2^32, so that words of any length are taken
unfoldable pub capped : ℕ → ℕ
capped n = min n (2 ^ 32)

-- a word is a number where it has a digit and nothing else
unfoldable pub is_number : List ℕ → Bool
is_number bs = ltb 0 (length bs) && all_digits bs

-- what a word says as a number
unfoldable pub number_of : List ℕ → Option ℕ
number_of bs = cond (is_number bs) (Some (capped (value_of bs))) None
