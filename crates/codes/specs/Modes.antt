-- Document 01, "START codes": "Keep the sixteen transfer modes as one table, in the specification's row order." (001, table 2.2)
use Rattle.std.specs.Prelude.{ℕ, ◌+◌, ◌-◌, ◌*◌, ◌%◌, Bool, true, false, not}
use Rattle.basics.specs.Lines.{one, active}
use Rattle.basics.specs.Answers.{Answer, accepted}
use Rattle.codes.specs.declared.Unit.TheVariants.{Byte, Halfword, Word}
use Rattle.codes.specs.declared.Kind as kind
use Rattle.codes.specs.declared.Mode.{Mode}
use Rattle.codes.specs.declared.Meaning.{Meaning}
use Rattle.codes.specs.Lanes.{with_lanes}
use Rattle.codes.specs.Start.{block_of, meaning}

-- "TM0 active: a byte .. TM0 inactive, by AD1 AD0: 00 word; 01 halfword 0; 11 halfword 1; 10 block"
abbrev pub kind_of : Bool → Bool → Bool → kind.Kind
kind_of true ad1 ad0 = kind.Kind.Byte
kind_of false false false = kind.Kind.Word
kind_of false false true = kind.Kind.Halfword
kind_of false true true = kind.Kind.Halfword
kind_of false true false = kind.Kind.Block

-- the byte of the word at which it begins: "a byte at the address on AD", halfword 1 at byte 2, all else at byte 0
abbrev pub offset_of : Bool → Bool → Bool → ℕ
offset_of true ad1 ad0 = 2 * one ad1 + one ad0
offset_of false false false = 0
offset_of false false true = 0
offset_of false true true = 2
offset_of false true false = 0

-- direction, unit and offset by the lines TM1 TM0 AD1 AD0; "TM1 active is a write"
abbrev pub mode_of : Bool → Bool → Bool → Bool → Mode
mode_of tm1 tm0 ad1 ad0 = (tm1, kind_of tm0 ad1 ad0, offset_of tm0 ad1 ad0)

-- row k of the table, from 0: the rows count down from all four lines active, so that a line is active where its bit of k is not
unfoldable pub mode_at : ℕ → Mode
mode_at k = mode_of (not (active 3 k)) (not (active 2 k)) (not (active 1 k)) (not (active 0 k))

-- the row of the lines TM1 TM0 AD1 AD0
abbrev pub row_of : Bool → Bool → ℕ → ℕ
row_of tm1 tm0 ad = 15 - (8 * one tm1 + 4 * one tm0 + ad % 4)

-- what a row says of the lines AD, by what it names: a byte, halfword or word stands at the row's offset in the word at AD; of a block
-- the length and the address are found in AD2 upwards (table 2.3)
abbrev pub said_of : Mode → ℕ → kind.Kind → Answer Meaning
said_of m ad kind.Kind.Byte = accepted (with_lanes (record { write = m.0; unit = Byte; address = ad - ad % 4 + m.2 }))
said_of m ad kind.Kind.Halfword = accepted (with_lanes (record { write = m.0; unit = Halfword; address = ad - ad % 4 + m.2 }))
said_of m ad kind.Kind.Word = accepted (with_lanes (record { write = m.0; unit = Word; address = ad - ad % 4 + m.2 }))
said_of m ad kind.Kind.Block = meaning m.0 ad (block_of ad)

-- what a row says of the lines AD
abbrev pub row_says : Mode → ℕ → Answer Meaning
row_says m ad = said_of m ad m.1
