-- What the quick way of judging a record rests on, and the tests that it makes. Nothing here is promised to a caller: the promise is
-- `outcome_of` and `Told` of the crate `rules`, and the proofs show that the quick way keeps it.
use Rattle.std.specs.Prelude.{ℕ, ◌+◌, ◌-◌, ◌*◌, ◌/◌, ◌^◌, ◌≤◌, ◌<◌, Bool, true, false, not, cond, ◌&&◌, ◌||◌, List, ◌≡◌, leb, ltb, eqb, length, drop, Some}
use Rattle.basics.specs.Lines.{one}
use Rattle.basics.specs.Numbers.{watchdog}
use Rattle.basics.specs.Order.{implies}
use Rattle.record.specs.declared.Record.{Record}
use Rattle.codes.specs.Owed.{words_of}
use Rattle.codes.specs.Parity.{parity_of}
use Rattle.rules.specs.declared.Judge.{Judge}
use Rattle.rules.specs.declared.Tally.{Tally}
use Rattle.rules.specs.declared.Wave.{Wave}
use Rattle.rules.specs.declared.Transfer.{Transfer}
use Rattle.rules.specs.declared.Transfer.TheVariants.{Idle, Open}
use Rattle.rules.specs.Rules.{rule3}
use Rattle.rules.specs.State.{is_open, is_owned, diff_of}
use Rattle.rules.specs.Bounds.{SoundJudge, SoundTally}
use Rattle.rules.specs.Run.{from, run_of, records_in}
use Rattle.judge.specs.declared.quick.Reached.{Reached}

-- what every record leaves of the wave: where RQST is inactive, nothing of one
pub record WaveKept (w : Wave) : Type 0 where
  pub low : w.since ≤ 3
  pub since : w.rqst ≡ false → w.since ≡ 3
  pub arb : w.rqst ≡ false → w.arb ≡ 15
  pub turn : w.rqst ≡ false → w.turn ≡ 0

-- the state and the tally within the bounds, after a record
pub record Ready (j : Judge) (t : Tally) : Type 0 where
  pub judge : SoundJudge j
  pub tally : SoundTally t
  pub seen : j.seen ≡ true
  pub wave : WaveKept j.wave

-- a record d cycles after the last one that keeps rules 1, 2 and 3 and has no RESET
pub record Plain (j : Judge) (t : Tally) (r : Record) (d : ℕ) : Type 0 where
  pub ready : Ready j t
  pub room : t.records < 2 ^ 30
  pub apart : d ≡ diff_of j r.stamp
  pub later : 1 ≤ d
  pub within : d ≤ 2 ^ 31
  pub alive : r.reset ≡ false
  pub parity : rule3 r.spv r.sp (parity_of r.ad) ≡ true

-- the wave after a record without START: RQST stays once it is active (rule 9), and nothing else changes
abbrev pub waited_of : Wave → Bool → Wave
waited_of w rqst =
    record {
      rqst = rqst;
      prior = w.rqst;
      owner = w.owner;
      since = w.since + one (ltb w.since 3);
      arb = w.arb;
      turn = w.turn;
    }

-- the wave after a START: it is the wave's if RQST was active before
abbrev pub started_of : Wave → Bool → ℕ → Wave
started_of w rqst arb =
    record {
      rqst = rqst;
      prior = w.rqst;
      owner = cond w.rqst (Some arb) w.owner;
      since = cond (w.rqst && rqst) 0 3;
      arb = cond (w.rqst && rqst) arb 15;
      turn = cond (w.rqst && rqst) (cond (eqb arb w.arb) (w.turn + 1) 1) 0;
    }

-- a START of the wave keeps rules 8 to 11
abbrev pub turn_holds : ℕ → Wave → ℕ → ℕ → Bool
turn_holds limit w arb d =
    eqb d 1 && w.prior && leb 2 w.since && leb arb w.arb && implies (eqb arb w.arb) (ltb w.turn limit)

-- a START without ACK keeps rules 4 to 13, its code having so many words; `in_turn` is the test above
unfoldable pub start_holds : Bool → ℕ → Wave → Bool → Bool → Bool
start_holds busy words w in_turn ack =
    not busy && not ack && ltb 0 words && (w.rqst || is_owned w.owner) && implies w.rqst in_turn

-- a record without START keeps rule 9
abbrev pub request_holds : Wave → Bool → ℕ → Bool
request_holds w rqst d = implies w.rqst (eqb d 1 && rqst)

-- an ACK without START keeps rules 5, 12 and 13
abbrev pub ack_holds : Transfer → Bool → Bool → ℕ → Bool
ack_holds Idle tm1 tm0 d = false
ack_holds (Open words strobes age busy) tm1 tm0 d = leb (age + d) watchdog && implies (tm1 && tm0) (eqb (strobes + 1) words)

-- a record with neither keeps rules 12 and 13
abbrev pub quiet_holds : Transfer → Bool → ℕ → Bool
quiet_holds Idle tm0 d = true
quiet_holds (Open words strobes age busy) tm0 d = leb (age + d) watchdog && implies (ltb 1 words && tm0) (ltb (strobes + 1) words)

-- rules 1 and 2 of a record that is not the first, rule 3, and no RESET
abbrev pub plainly : ℕ → ℕ → Bool → Bool → Bool
plainly spare d reset parity = eqb spare 0 && leb 1 d && leb d (2 ^ 31) && not reset && parity

-- a plain record that keeps every rule: a START without ACK, an ACK without START, neither
pub record StartKept (j : Judge) (t : Tally) (r : Record) (words d : ℕ) : Type 0 where
  pub plain : Plain j t r d
  pub starts : r.start ≡ true
  pub code : words ≡ words_of r.tm0 r.ad
  pub holds : start_holds (is_open j.transfer) words j.wave (turn_holds j.limit j.wave r.arb d) r.ack ≡ true

pub record AckKept (j : Judge) (t : Tally) (r : Record) (d : ℕ) : Type 0 where
  pub plain : Plain j t r d
  pub starts : r.start ≡ false
  pub acks : r.ack ≡ true
  pub request : request_holds j.wave r.rqst d ≡ true
  pub holds : ack_holds j.transfer r.tm1 r.tm0 d ≡ true

pub record QuietKept (j : Judge) (t : Tally) (r : Record) (d : ℕ) : Type 0 where
  pub plain : Plain j t r d
  pub starts : r.start ≡ false
  pub acks : r.ack ≡ false
  pub request : request_holds j.wave r.rqst d ≡ true
  pub holds : quiet_holds j.transfer r.tm0 d ≡ true

-- what is judged of a part, and what is left of it
pub record Left (s : List ℕ) (j : Judge) (t : Tally) (r : Reached) : Type 0 where
  pub le : r.done ≤ length s / 16
  pub ready : Ready r.judge r.tally
  pub room : r.tally.records + (length s / 16 - r.done) ≤ 2 ^ 30
  pub same : run_of (from r.judge r.tally) (records_in (length s / 16 - r.done) (drop (r.done * 16) s)) ≡ run_of (from j t) (records_in (length s / 16) s)
