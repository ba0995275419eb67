-- Worked cases: recordings a few records long, as bytes from the start, and the account of each, worked out by hand.
use Rattle.std.specs.Prelude.{ℕ, true, false, List, [], ◌∷◌, ◌++◌, ◌≡◌, set}
use Rattle.entries.specs.declared.Entry.{Entry}
use Rattle.record.specs.declared.Record.{Record}
use Rattle.rules.specs.State.{fresh_judge, zero_tally}
use Rattle.rules.specs.Cases.{lines, cycle_at, asks, reads, attends, acks, fails, strobes, resets, bytes_of, opening, slowest, turning}
use Rattle.usage.specs.Charge.{none_used}
use Rattle.usage.specs.Calls.{accounted_of}

-- ---- records
-- a START that opens a transfer, with this ARB, RQST falling in it or being inactive
abbrev pub opens : ℕ → ℕ → Record
opens stamp arb = cycle_at stamp false true false false false arb 0

-- an attention cycle in which RQST falls, or with RQST inactive
abbrev pub attends_last : ℕ → ℕ → Record
attends_last stamp arb = cycle_at stamp false true true true true arb 0

-- RESET with START, ACK and both TM lines active, and ARB 7: none of them counts
abbrev pub resets_all : ℕ → Record
resets_all stamp = lines stamp true false 7 true true true true (record { sp = false; spv = false }) 0

-- ---- accounts
-- this slot has so many STARTs and busy cycles
abbrev pub with : List Entry → ℕ → ℕ → ℕ → List Entry
with account slot starts busy = set account slot (record { starts = starts; busy = busy })

-- and no other has any
abbrev pub alone : ℕ → ℕ → ℕ → List Entry
alone slot starts busy = with none_used slot starts busy

pub record Case : Type 0 where
  pub recording : List Record
  pub account : List Entry

abbrev pub cases : List Case
cases =
    -- a transfer still open adds nothing; with its ACK in the next cycle it has been busy for two, START's and ACK's
    record { recording = opening 0; account = alone 5 1 0 }
    ∷ record { recording = opening 0 ++ (acks 3 ∷ []); account = alone 5 1 2 }
    -- an ACK that tells an error ends it as well; strobes do not
    ∷ record { recording = opening 2 ++ (strobes 3 ∷ fails 4 ∷ []); account = alone 5 1 3 }
    ∷ record { recording = opening 2 ++ (strobes 3 ∷ []); account = alone 5 1 0 }
    -- missing cycles are busy too: 2 to 9; RESET's own cycle is the abort's end, and its other lines count for nothing
    ∷ record { recording = opening 0 ++ (acks 9 ∷ []); account = alone 5 1 8 }
    ∷ record { recording = opening 0 ++ (resets 9 ∷ []); account = alone 5 1 8 }
    ∷ record { recording = opening 0 ++ (resets_all 9 ∷ []); account = alone 5 1 8 }
    -- ACK 256 cycles after START; the longest, a block of sixteen words with as many cycles for each; and over a wrap of the stamp, FFFFFFFF to 5
    ∷ record { recording = opening 0 ++ (acks 258 ∷ []); account = alone 5 1 257 }
    ∷ record { recording = slowest ++ (acks 4098 ∷ []); account = alone 5 1 4097 }
    ∷ record { recording = asks 0xFFFFFFFD ∷ asks 0xFFFFFFFE ∷ opens 0xFFFFFFFF 9 ∷ acks 5 ∷ []; account = alone 9 1 7 }
    -- an attention cycle is 1; slot 0 is a slot
    ∷ record { recording = turning 5; account = alone 5 1 1 }
    ∷ record { recording = turning 0; account = alone 0 1 1 }
    -- "A parked START is the owner's", whatever its ARB shows; a START of a wave with that ARB is its slot's
    ∷ record { recording = opening 0 ++ (acks 3 ∷ opens 9 12 ∷ acks 12 ∷ []); account = alone 5 2 6 }
    ∷ record { recording = opening 0 ++ (acks 3 ∷ asks 7 ∷ asks 8 ∷ opens 9 12 ∷ acks 12 ∷ []); account = with (alone 5 1 2) 12 1 4 }
    ∷ record { recording = opening 0 ++ (acks 3 ∷ attends_last 9 12 ∷ []); account = alone 5 2 3 }
    -- also in the cycle in which a wave begins; it makes nobody the owner, so slot 5 parks once more
    ∷ record { recording = opening 0 ++ (acks 3 ∷ attends 4 12 ∷ asks 5 ∷ attends_last 6 3 ∷ []); account = with (alone 5 2 3) 3 1 1 }
    ∷ record { recording = opening 0 ++ (acks 3 ∷ attends_last 4 12 ∷ attends_last 5 12 ∷ []); account = alone 5 3 4 }
    -- the owner is the last START's of a wave, not the first one's
    ∷ record { recording = turning 12 ++ (asks 3 ∷ asks 4 ∷ attends_last 5 5 ∷ opens 9 12 ∷ acks 10 ∷ []); account = with (alone 12 1 1) 5 2 3 }
    -- a breach changes no entry: a START while a transfer is open, a parked one with no owner since the reset
    ∷ record { recording = opening 0 ++ (reads 3 0 ∷ []); account = alone 5 1 0 }
    ∷ record { recording = opening 0 ++ (acks 3 ∷ resets 4 ∷ reads 5 0 ∷ []); account = alone 5 1 2 }
    -- an ACK too late: 257 cycles after START, or after the last strobe
    ∷ record { recording = opening 0 ++ (acks 259 ∷ []); account = alone 5 1 0 }
    ∷ record { recording = slowest ++ (acks 4099 ∷ []); account = alone 5 1 0 }
    ∷ []

-- each recording has its account
pub data Shown : List Case → Type 0 where
  none : Shown []
  case : {c : Case} {cs : List Case} → (accounted_of (bytes_of c.recording) (fresh_judge 16) zero_tally none_used).entries ≡ c.account → Shown cs → Shown (c ∷ cs)
