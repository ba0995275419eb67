-- A row as a reader would write it, by computing on the definitions. Assumes nothing.
use mathlib.Core.Path.{◌≡◌, refl}
use mathlib.Core.Bool.{true, false}
use Rattle.record.specs.declared.Record.{Record}
use Rattle.text.specs.Decimal.{spelled, decimal_of}
use Rattle.text.specs.Words.{word}
use Rattle.figures.specs.Times.{nanoseconds_of}
use Rattle.rowlines.specs.Rows.{standing, control_lines, transfer_lines, virtual_lines, row_line}

-- a START of slot 10 that writes to F0A00000, with an address on the virtual lines and a spare bit set
started : Record
started =
    record {
      stamp = 12;
      reset = false;
      rqst = true;
      arb = 10;
      start = true;
      ack = false;
      tm1 = true;
      tm0 = false;
      sp = true;
      spv = true;
      ad = 0xF0A00004;
      vtm1 = false;
      vtm0 = true;
      vack = false;
      vsack = true;
      vad = 0x1000000AB;
    }

started-row : row_line 3 2361 7 started 1
    ≡ word "record 3 cycle 2361 gap 7 ns 236100 reset 0 rqst 1 arb 10 start 1 ack 0 tm1 1 tm0 0 sp 1 spv 1 ad f0a00004 vtm1 0 vtm0 1 vack 0 vsack 1 vad 1000000ab spare 1\n"
unfolding started row_line standing control_lines transfer_lines virtual_lines nanoseconds_of decimal_of spelled
started-row = refl

-- the first record stands in cycle 0
first-standing : standing 0 0 0 ≡ word "record 0 cycle 0 gap 0 ns 0"
unfolding standing nanoseconds_of decimal_of spelled
first-standing = refl
