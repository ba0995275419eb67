-- Document 02, wish 3, "Who used the bus": an account has one entry for each of the sixteen slots, in the slots' order.
use Rattle.std.specs.Prelude.{ℕ, zero, suc, List, [], ◌∷◌}
use Rattle.entries.specs.declared.Entry.{Entry}

-- nothing used
abbrev pub zero_entry : Entry
zero_entry = record { starts = 0; busy = 0 }

-- the first n entries of an account, with nothing for each that it lacks
unfoldable pub first_of : ℕ → List Entry → List Entry
first_of zero es = []
first_of (suc n) [] = zero_entry ∷ first_of n []
first_of (suc n) (e ∷ es) = e ∷ first_of n es

-- the entries of the sixteen slots
unfoldable pub sixteen_of : List Entry → List Entry
sixteen_of es = first_of 16 es

-- an account after new entries were put in its place, slot by slot: as long as it was, and unchanged where there is no new one
unfoldable pub spread_of : List Entry → List Entry → List Entry
spread_of [] new = []
spread_of (e ∷ es) [] = e ∷ es
spread_of (e ∷ es) (n ∷ ns) = n ∷ spread_of es ns
