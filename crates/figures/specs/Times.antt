-- Times of bus cycles as text. A bus cycle is 100 ns: a second has 10^7 of them.
use Rattle.std.specs.Prelude.{ℕ, ◌/◌, ◌^◌, cond, List, [], ◌∷◌, ◌++◌, eqb}
use Rattle.io.specs.Digits.{last_digits}
use Rattle.text.specs.Decimal.{decimal_of}
use Rattle.text.specs.Words.{word}
use Rattle.figures.specs.declared.Base.{Base}
use Rattle.figures.specs.declared.Base.TheVariants.{Binary, Decimal, Hex}

abbrev pub base_of : Base → ℕ
base_of Binary = 2
base_of Decimal = 10
base_of Hex = 16

-- "the time of N cycles in seconds: the digits of N / 10^7, a point, and always seven digits, so that nothing is rounded"
unfoldable pub seconds_of : ℕ → List ℕ
seconds_of cycles = decimal_of (cycles / 10 ^ 7) ++ word "." ++ last_digits 10 7 cycles

-- the time in nanoseconds, cycles x 100: two zeros behind the digits of the cycles, and 0 is 0
unfoldable pub nanoseconds_of : ℕ → List ℕ
nanoseconds_of cycles = cond (eqb cycles 0) (word "0") (decimal_of cycles ++ word "00")

-- a text without its first point, as one reads the seconds' digits on over it
abbrev pub without_point : List ℕ → List ℕ
without_point [] = []
without_point (b ∷ bs) = cond (eqb b 46) bs (b ∷ without_point bs)
