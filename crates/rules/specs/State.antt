-- Document 01, "The judge": what the judge keeps of the records before, its state after a record that breaks no rule, and the tally.
use Rattle.std.specs.Prelude.{ℕ, ◌+◌, Bool, true, false, not, cond, ◌&&◌, ◌||◌, ltb, eqb, Option, Some, None}
use Rattle.basics.specs.Lines.{one}
use Rattle.codes.specs.Owed.{words_of}
use Rattle.record.specs.declared.Record.{Record}
use Rattle.rules.specs.declared.Judge.{Judge}
use Rattle.rules.specs.declared.Wave.{Wave}
use Rattle.rules.specs.declared.Tally.{Tally}
use Rattle.rules.specs.declared.Transfer.{Transfer}
use Rattle.rules.specs.declared.Transfer.TheVariants.{Idle, Open}
use Rattle.rules.specs.Rules.{difference, strobe}

-- ---- the transfer
-- a transfer is open
abbrev pub is_open : Transfer → Bool
is_open Idle = false
is_open (Open words strobes age busy) = true

-- its words, strobes, age and busy cycles; 0 where none is open
abbrev pub open_words : Transfer → ℕ
open_words Idle = 0
open_words (Open words strobes age busy) = words

abbrev pub open_strobes : Transfer → ℕ
open_strobes Idle = 0
open_strobes (Open words strobes age busy) = strobes

abbrev pub open_age : Transfer → ℕ
open_age Idle = 0
open_age (Open words strobes age busy) = age

abbrev pub open_busy : Transfer → ℕ
open_busy Idle = 0
open_busy (Open words strobes age busy) = busy

-- an open transfer ages by the cycles since the last record, is busy in them, and counts a strobe; document 02, wish 5: "The age returns to 0 with each
-- strobe" of a block
abbrev pub aged_of : Transfer → Bool → Bool → Bool → ℕ → Transfer
aged_of Idle start ack tm0 d = Idle
aged_of (Open words strobes age busy) start ack tm0 d =
    Open words (strobes + one (strobe words start ack tm0)) (cond (strobe words start ack tm0) 0 (age + d)) (busy + d)

-- ACK ends a transfer, and with START it opens none; a START without ACK opens one of so many words, which is busy in this cycle
abbrev pub transfer_of : Transfer → Bool → Bool → Bool → ℕ → ℕ → Transfer
transfer_of t start ack tm0 words d = cond ack Idle (cond start (Open words 0 0 1) (aged_of t start ack tm0 d))

-- ---- the wave
-- there is an owner, who may park
abbrev pub is_owned : Option ℕ → Bool
is_owned None = false
is_owned (Some slot) = true

-- RQST one cycle before a record that stands d cycles after the last one: a missing cycle has no active line
abbrev pub asked_of : Wave → ℕ → Bool
asked_of w d = eqb d 1 && w.rqst

-- and two cycles before it
abbrev pub twice_of : Wave → ℕ → Bool
twice_of w d = eqb d 1 && w.prior || eqb d 2 && w.rqst

-- three cycles or more are kept as 3
abbrev pub capped : ℕ → ℕ
capped n = cond (ltb n 3) n 3

-- "A wave begins in the first cycle with RQST active and ends with the START in which RQST falls."; a START is the wave's if RQST was active
-- one cycle before
abbrev pub wave_of : Wave → Bool → Bool → ℕ → ℕ → Wave
wave_of w rqst start arb d =
    record {
      rqst = rqst;
      prior = asked_of w d;
      owner = cond (start && asked_of w d) (Some arb) w.owner;
      since = cond rqst (cond (start && asked_of w d) 0 (capped (w.since + d))) 3;
      arb = cond rqst (cond (start && asked_of w d) arb w.arb) 15;
      turn = cond rqst (cond (start && asked_of w d) (cond (eqb arb w.arb) (w.turn + 1) 1) w.turn) 0;
    }

-- no wave, and no START of one since the reset
abbrev pub fresh_wave : Wave
fresh_wave = record { rqst = false; prior = false; owner = None; since = 3; arb = 15; turn = 0 }

-- ---- the state
-- "A recording is read as following a reset"
abbrev pub fresh_judge : ℕ → Judge
fresh_judge limit = record { limit = limit; seen = false; stamp = 0; transfer = Idle; wave = fresh_wave }

-- the stamp's difference to the last one; the first record's is 0
unfoldable pub diff_of : Judge → ℕ → ℕ
diff_of j stamp = cond j.seen (difference j.stamp stamp) 0

-- "If RESET is active, .. the judge is as at the start but for its stamp and tally"
abbrev pub reset_of : Judge → ℕ → Judge
reset_of j stamp = record { limit = j.limit; seen = true; stamp = stamp; transfer = Idle; wave = fresh_wave }

-- after any other record, d cycles after the last one
abbrev pub moved_of : Judge → Record → ℕ → Judge
moved_of j r d =
    record {
      limit = j.limit;
      seen = true;
      stamp = r.stamp;
      transfer = transfer_of j.transfer r.start r.ack r.tm0 (words_of r.tm0 r.ad) d;
      wave = wave_of j.wave r.rqst r.start r.arb d;
    }

unfoldable pub judge_of : Judge → Record → ℕ → Judge
judge_of j r d = cond r.reset (reset_of j r.stamp) (moved_of j r d)

-- ---- the tally
abbrev pub zero_tally : Tally
zero_tally = record { records = 0; span = 0; starts = 0; acks = 0; aborted = 0 }

-- "Totals: records, span (the sum of the differences), starts, acks (an attention cycle counts in both), aborted. A RESET record adds to
-- records, span and aborted only."
abbrev pub tally_of : Tally → Bool → Bool → Bool → Bool → ℕ → Tally
tally_of t busy reset start ack d =
    record {
      records = t.records + 1;
      span = t.span + d;
      starts = t.starts + one (start && not reset);
      acks = t.acks + one (ack && not reset);
      aborted = t.aborted + one (busy && reset);
    }
