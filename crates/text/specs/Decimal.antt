-- Numbers as text: in decimal, most significant digit first, without leading zeros.
use Rattle.std.specs.Prelude.{ℕ, zero, suc, ◌+◌, ◌/◌, ◌%◌, cond, List, [], ◌∷◌, ◌++◌, ltb}

-- the digit d, 0 to 9, in ASCII, where '0' is 48
abbrev pub digit : ℕ → ℕ
digit d = 48 + d

-- the decimal digits of n, but at most the lowest k: those of n / 10, then the last; a number below 10 is one digit, and so no zero leads
unfoldable pub spelled : ℕ → ℕ → List ℕ
spelled zero n = []
spelled (suc k) n = cond (ltb n 10) (digit n ∷ []) (spelled k (n / 10) ++ (digit (n % 10) ∷ []))

-- all of them: a number of 64 bits has at most twenty
unfoldable pub decimal_of : ℕ → List ℕ
decimal_of n = spelled 20 n
