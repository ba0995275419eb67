-- The sixteen bytes and their fields in three groups of 5, 5 and 6 bytes in which no field is split. Assumes nothing.
use Prim.Native.Nat.{ℕ}
use mathlib.Core.List.{List, [], ◌∷◌}

-- the bytes' widths
abbrev pub five : List ℕ
five = 8 ∷ 8 ∷ 8 ∷ 8 ∷ 8 ∷ []

abbrev pub six : List ℕ
six = 8 ∷ five

-- the fields' widths: stamp to ACK
abbrev pub front_fields : List ℕ
front_fields = 32 ∷ 1 ∷ 1 ∷ 4 ∷ 1 ∷ 1 ∷ []

-- TM1 to VSACK
abbrev pub middle_fields : List ℕ
middle_fields = 1 ∷ 1 ∷ 1 ∷ 1 ∷ 32 ∷ 1 ∷ 1 ∷ 1 ∷ 1 ∷ []

-- VAD and the spare bits
abbrev pub rear_fields : List ℕ
rear_fields = 33 ∷ 15 ∷ []
