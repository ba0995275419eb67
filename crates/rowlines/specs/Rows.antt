-- The row of a record: "`record I cycle S gap D ns T reset b rqst b arb A start b ack b tm1 b tm0 b sp b spv b ad HHHHHHHH vtm1 b vtm0 b vack b vsack b vad
-- HHHHHHHHH spare P`": "S is the cycle in which it stands, counted from the first record's; D the stamp's difference to the record before, modulo 2^32 (0
-- for record 0); T is S x 100; b is 0 or 1; AD in 8 and VAD in 9 lower-case hex digits; ARB and the spare bits in decimal".
use Rattle.std.specs.Prelude.{ℕ, Bool, List, ◌++◌}
use Prim.Native.String.{String}
use Rattle.io.specs.Digits.{last_digits}
use Rattle.basics.specs.Lines.{one}
use Rattle.record.specs.declared.Record.{Record}
use Rattle.text.specs.Words.{word}
use Rattle.printed.specs.Lines.{named}
use Rattle.figures.specs.Times.{nanoseconds_of}

-- a line's name, and 0 or 1
abbrev pub line_named : String → Bool → List ℕ
line_named name active = named name (one active)

-- where the record stands
unfoldable pub standing : ℕ → ℕ → ℕ → List ℕ
standing i cycle gap = named "record " i ++ named " cycle " cycle ++ named " gap " gap ++ (word " ns " ++ nanoseconds_of cycle)

unfoldable pub control_lines : Record → List ℕ
control_lines r =
    line_named " reset " r.reset
    ++ line_named " rqst " r.rqst
    ++ named " arb " r.arb
    ++ line_named " start " r.start
    ++ line_named " ack " r.ack

unfoldable pub transfer_lines : Record → List ℕ
transfer_lines r =
    line_named " tm1 " r.tm1
    ++ line_named " tm0 " r.tm0
    ++ line_named " sp " r.sp
    ++ line_named " spv " r.spv
    ++ (word " ad " ++ last_digits 16 8 r.ad)

unfoldable pub virtual_lines : Record → List ℕ
virtual_lines r =
    line_named " vtm1 " r.vtm1
    ++ line_named " vtm0 " r.vtm0
    ++ line_named " vack " r.vack
    ++ line_named " vsack " r.vsack
    ++ (word " vad " ++ last_digits 16 9 r.vad)

-- THE ROW of record i, which stands in this cycle, so many cycles after the one before
unfoldable pub row_line : ℕ → ℕ → ℕ → Record → ℕ → List ℕ
row_line i cycle gap r spare =
    standing i cycle gap ++ control_lines r ++ transfer_lines r ++ virtual_lines r ++ named " spare " spare ++ word "\n"
