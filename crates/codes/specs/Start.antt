-- Document 01, "START codes": "TM1 active is a write. TM0 active: a byte at the address on AD. TM0 inactive, by AD1 AD0: 00 word;
-- 01 halfword 0; 11 halfword 1; 10 block. A block's length is found in AD2 upwards .. The address has the unit's low bits zero."
use Rattle.std.specs.Prelude.{ℕ, ◌+◌, ◌-◌, ◌%◌, Bool, false, cond, eqb, Option, Some, None, Result}
use Rattle.basics.specs.Lines.{active}
use Rattle.basics.specs.Answers.{Answer, accepted, refused, answered}
use Rattle.basics.specs.declared.refusal.Refusal.{Refusal}
use Rattle.codes.specs.declared.Unit.{Unit}
use Rattle.codes.specs.declared.Unit.TheVariants.{Byte, Halfword, Word, Two, Four, Eight, Sixteen}
use Rattle.codes.specs.declared.Operation.{Operation}
use Rattle.codes.specs.declared.Meaning.{Meaning}
use Rattle.codes.specs.declared.Code.{Code}
use Rattle.codes.specs.Units.{bytes_in, byte_unit, mark_of}
use Rattle.codes.specs.Lanes.{with_lanes}

-- "AD2 inactive, 2 words; else AD3 inactive, 4; else AD4 inactive, 8; else AD5 inactive, 16; else no meaning"
unfoldable pub block_of : ℕ → Option Unit
block_of ad =
    cond (active 2 ad)
    (cond (active 3 ad) (cond (active 4 ad) (cond (active 5 ad) None (Some Sixteen)) (Some Eight)) (Some Four))
    (Some Two)

-- "TM0 active: a byte .. TM0 inactive, by AD1 AD0: 00 word; 01 halfword 0; 11 halfword 1; 10 block"
unfoldable pub unit_of : Bool → ℕ → Option Unit
unit_of tm0 ad =
    cond tm0 (Some Byte)
    (cond (active 0 ad) (Some Halfword) (cond (active 1 ad) (block_of ad) (Some Word)))

-- all zeros, and so no lane: what a refusal gives
abbrev pub nothing_meant : Meaning
nothing_meant = record { operation = record { write = false; unit = Byte; address = 0 }; lanes = 0 }

-- "The address has the unit's low bits zero"; refusal 4 for a code with no meaning
abbrev pub meaning : Bool → ℕ → Option Unit → Answer Meaning
meaning tm1 ad (Some u) = accepted (with_lanes (record { write = tm1; unit = u; address = ad - ad % bytes_in u }))
meaning tm1 ad None = refused 4 nothing_meant

-- what the lines TM1, TM0 and AD of a START say: an operation, and beside it its lanes
unfoldable pub decode_of : Bool → Bool → ℕ → Answer Meaning
decode_of tm1 tm0 ad = meaning tm1 ad (unit_of tm0 ad)

-- document 01's number and values for each answer of the decoder
abbrev pub decoded_answer : Result Meaning Refusal → Answer Meaning
decoded_answer = answered nothing_meant

-- all zeros: what a refusal gives
abbrev pub no_code : Code
no_code = record { tm1 = false; tm0 = false; ad = 0 }

-- the code of an operation; refusal 4 for "an address not aligned to its unit"
unfoldable pub encode_of : Operation → Answer Code
encode_of op =
    cond (eqb (op.address % bytes_in op.unit) 0)
    (accepted (record { tm1 = op.write; tm0 = byte_unit op.unit; ad = op.address + mark_of op.unit }))
    (refused 4 no_code)

-- document 01's number and values for each answer of the encoder
abbrev pub encoded_answer : Result Code Refusal → Answer Code
encoded_answer = answered no_code
