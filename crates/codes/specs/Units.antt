-- Document 01, "START codes": a byte, a halfword, a word, or a block of 2, 4, 8 or 16 words (001, tables 2.2 and 2.3); "The address has
-- the unit's low bits zero". What the tables say of each unit.
use Rattle.std.specs.Prelude.{ℕ, Bool, true, false}
use Rattle.codes.specs.declared.Unit.{Unit}
use Rattle.codes.specs.declared.Unit.TheVariants.{Byte, Halfword, Word, Two, Four, Eight, Sixteen}
use Rattle.codes.specs.declared.Measures.{Measures}

-- a unit's bytes; the words that its transfer owes, a byte or a halfword moving as one word does; whether its code has TM0 active; and
-- what the code has active among the address's low lines
abbrev pub measures_of : Unit → Measures
measures_of Byte = (1, 1, true, 0)
measures_of Halfword = (2, 1, false, 1)
measures_of Word = (4, 1, false, 0)
measures_of Two = (8, 2, false, 2)
measures_of Four = (16, 4, false, 6)
measures_of Eight = (32, 8, false, 14)
measures_of Sixteen = (64, 16, false, 30)

-- its bytes, to which its address is aligned
abbrev pub bytes_in : Unit → ℕ
bytes_in u = (measures_of u).0

-- the words that its transfer owes
abbrev pub words_in : Unit → ℕ
words_in u = (measures_of u).1

-- whether its code has TM0 active: "TM0 active: a byte"
abbrev pub byte_unit : Unit → Bool
byte_unit u = (measures_of u).2

-- what its code has active among the address's low lines, which are zero in an aligned address
abbrev pub mark_of : Unit → ℕ
mark_of u = (measures_of u).3
