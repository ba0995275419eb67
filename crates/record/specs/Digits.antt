-- Numbers of mixed radix, "bit-packed, most significant first": the digits' widths in bits, and their values.
use Rattle.std.specs.Prelude.{ℕ, ◌+◌, ◌*◌, ◌%◌, ◌/◌, ◌^◌, List, [], ◌∷◌}

-- the width of all digits together
abbrev pub width : List ℕ → ℕ
width [] = 0
width (w ∷ ws) = w + width ws

-- the number whose digits are these values
abbrev pub number : List ℕ → List ℕ → ℕ
number [] vs = 0
number (w ∷ ws) [] = 0
number (w ∷ ws) (v ∷ vs) = v * 2 ^ width ws + number ws vs

-- the digits of a number: each by dividing off what stands below it, and the remainder by its own width
abbrev pub digits : List ℕ → ℕ → List ℕ
digits [] n = []
digits (w ∷ ws) n = n / 2 ^ width ws % 2 ^ w ∷ digits ws n
