-- Document 01: "SP is active exactly if an odd number of AD lines is."
use Rattle.std.specs.Prelude.{ℕ, ◌%◌, Bool, eqb}
use Rattle.basics.specs.Lines.{active_below}

-- the count goes over the 32 AD lines
unfoldable pub parity_of : ℕ → Bool
parity_of ad = eqb (active_below 32 ad % 2) 1
