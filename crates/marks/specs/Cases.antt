-- Worked cases, in pairs: a recording that has the mark by a hair, and a near twin that has not. Each is reported on as bytes, from the start.
use Rattle.std.specs.Prelude.{ℕ, true, false, List, [], ◌∷◌, ◌++◌, ◌≡◌, length, take, replicate}
use Rattle.record.specs.declared.Record.{Record}
use Rattle.rules.specs.Cases.{cycle_at, idle, asks, reads, acks, fails, times_out, strobes, resets, bytes_of}
use Rattle.marks.specs.declared.Mark.{Mark}
use Rattle.marks.specs.declared.Marks.{Marks}
use Rattle.marks.specs.declared.Why.{Why}
use Rattle.marks.specs.declared.Why.TheVariants.{Complete, AtBreach, Torn, Absent}
use Rattle.marks.specs.Marks.{zero_mark}
use Rattle.marks.specs.Pieces.{report_in}

-- ---- marks
abbrev pub to : ℕ → ℕ → Mark
to slot number = record { slot = slot; number = number }

-- the marks in order, zeros behind them
abbrev pub marks_of : List Mark → Marks
marks_of ms = record { marks = take 32 (ms ++ replicate 32 zero_mark); count = length ms }

-- ---- records
-- a START that writes at AD: TM1 active, TM0 not; RQST falls in it, or it is parked
abbrev pub writes : ℕ → ℕ → Record
writes stamp ad = cycle_at stamp false true false true false 5 ad

-- a byte write: TM0 active too
abbrev pub writes_byte : ℕ → ℕ → Record
writes_byte stamp ad = cycle_at stamp false true false true true 5 ad

-- RQST active in cycles 0 and 1, so that the first START may come in cycle 2
abbrev pub asked : List Record
asked = asks 0 ∷ asks 1 ∷ []

-- the word at F, 3, 0 with 5 in AD5 to AD2: slot 3, interrupt 5; and slot 4, interrupt 1
abbrev pub third : ℕ
third = 0xF3000014

abbrev pub fourth : ℕ
fourth = 0xF4000004

-- ---- the table
pub record Case : Type 0 where
  pub marks : List Mark
  pub bytes : List ℕ
  -- what is reported: the spans at the marks that are found, the records read, and why it ends there
  pub spans : List ℕ
  pub records : ℕ
  pub why : Why

abbrev pub row : List Mark → List Record → List ℕ → ℕ → Why → Case
row ms rs spans records why = record { marks = ms; bytes = bytes_of rs; spans = spans; records = records; why = why }

-- one write, and whether it is the mark of slot 3, interrupt 5
abbrev pub found : List Record → ℕ → Case
found rs records = row (to 3 5 ∷ []) (asked ++ rs) (2 ∷ []) records Complete

abbrev pub missed : List Record → ℕ → Case
missed rs records = row (to 3 5 ∷ []) (asked ++ rs) [] records (Absent 0)

abbrev pub cases : List Case
cases =
    -- an ACK with error, and with success; the mark then is the next write
    row (to 3 5 ∷ []) (asked ++ (writes 2 third ∷ fails 3 ∷ writes 7 third ∷ acks 8 ∷ [])) (7 ∷ []) 6 Complete
    ∷ found (writes 2 third ∷ acks 3 ∷ writes 7 third ∷ acks 8 ∷ []) 4
    -- a timeout, and no ACK at all
    ∷ missed (writes 2 third ∷ times_out 3 ∷ []) 4
    ∷ missed (writes 2 third ∷ []) 3
    -- the number in AD6 upwards; and AD19 to AD6 all active, which are free
    ∷ missed (writes 2 0xF3000140 ∷ acks 3 ∷ []) 4
    ∷ found (writes 2 0xF30FFFD4 ∷ acks 3 ∷ []) 4
    -- AD20 is not
    ∷ missed (writes 2 0xF3100014 ∷ acks 3 ∷ []) 4
    -- a halfword, a block of four words, a byte and a read at the same address
    ∷ missed (writes 2 0xF3000015 ∷ acks 3 ∷ []) 4
    ∷ missed (writes 2 0xF3000016 ∷ strobes 3 ∷ strobes 4 ∷ strobes 5 ∷ acks 6 ∷ []) 7
    ∷ missed (writes_byte 2 third ∷ acks 3 ∷ []) 4
    ∷ missed (reads 2 third ∷ acks 3 ∷ []) 4
    -- E instead of F; another slot
    ∷ missed (writes 2 0xE3000014 ∷ acks 3 ∷ []) 4
    ∷ missed (writes 2 0xF4000014 ∷ acks 3 ∷ []) 4
    -- RESET between START and ACK, and a cycle without
    ∷ missed (writes 2 third ∷ resets 3 ∷ []) 4
    ∷ found (writes 2 third ∷ idle 3 ∷ acks 4 ∷ []) 5
    -- a mark before the one that it follows, and behind it
    ∷ row (to 3 5 ∷ to 4 1 ∷ []) (asked ++ (writes 2 fourth ∷ acks 3 ∷ writes 7 third ∷ acks 8 ∷ [])) (7 ∷ []) 6 (Absent 1)
    ∷ row (to 3 5 ∷ to 4 1 ∷ []) (asked ++ (writes 2 third ∷ acks 3 ∷ writes 7 fourth ∷ acks 8 ∷ [])) (2 ∷ 7 ∷ []) 6 Complete
    -- the same mark twice, written once and twice
    ∷ row (to 3 5 ∷ to 3 5 ∷ []) (asked ++ (writes 2 third ∷ acks 3 ∷ [])) (2 ∷ []) 4 (Absent 1)
    ∷ row (to 3 5 ∷ to 3 5 ∷ []) (asked ++ (writes 2 third ∷ acks 3 ∷ writes 7 third ∷ acks 8 ∷ [])) (2 ∷ 7 ∷ []) 6 Complete
    -- the stamps wrap between two marks: FFFFFFFE to 3 is 5, as 2 to 7 is
    ∷ row (to 3 5 ∷ to 4 1 ∷ []) (asks 0xFFFFFFFC ∷ asks 0xFFFFFFFD ∷ writes 0xFFFFFFFE third ∷ acks 0xFFFFFFFF ∷ writes 3 fourth ∷ acks 4 ∷ []) (2 ∷ 7 ∷ []) 6 Complete
    -- a second ACK breaks rule 5: behind the last mark's it isn't looked at; with a mark missing it is told
    ∷ found (writes 2 third ∷ acks 3 ∷ acks 4 ∷ []) 4
    ∷ row (to 3 5 ∷ to 4 1 ∷ []) (asked ++ (writes 2 third ∷ acks 3 ∷ acks 4 ∷ [])) (2 ∷ []) 4 (AtBreach (record { rule = 5; kind = 0; place = 4; span = 4 }))
    -- a torn end likewise
    ∷ record { marks = to 3 5 ∷ []; bytes = bytes_of (asked ++ (writes 2 third ∷ acks 3 ∷ [])) ++ (0 ∷ []); spans = 2 ∷ []; records = 4; why = Complete }
    ∷ record { marks = to 3 5 ∷ []; bytes = bytes_of (asked ++ (writes 2 fourth ∷ acks 3 ∷ [])) ++ (0 ∷ []); spans = []; records = 4; why = Torn }
    ∷ []

-- the report says of each case what it has to
pub data Reported : List Case → Type 0 where
  none : Reported []
  case : {c : Case} {cs : List Case}
      → (report_in 16 (marks_of c.marks) c.bytes).why ≡ c.why
      → take (report_in 16 (marks_of c.marks) c.bytes).found (report_in 16 (marks_of c.marks) c.bytes).spans ≡ c.spans
      → (report_in 16 (marks_of c.marks) c.bytes).records ≡ c.records
      → Reported cs
      → Reported (c ∷ cs)

-- the 71-minute error is impossible: the difference over the wrap is 5, and not 5 less than 2^32
pub record Worked : Type 0 where
  pub shown : Reported cases
  pub wrapped : take 2 (report_in 16 (marks_of (to 3 5 ∷ to 4 1 ∷ [])) (bytes_of (asks 0xFFFFFFFC ∷ asks 0xFFFFFFFD ∷ writes 0xFFFFFFFE third ∷ acks 0xFFFFFFFF ∷ writes 3 fourth ∷ acks 4 ∷ []))).diffs ≡ 0 ∷ 5 ∷ []
