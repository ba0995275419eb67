-- For each of the thirteen rules, and each kind of rule 8, a recording, a few records long, that breaks it first, and a near twin that conforms: no
-- rule is empty. Each recording is judged as bytes, from the start.
use Rattle.std.specs.Prelude.{ℕ, zero, suc, ◌+◌, Bool, true, false, List, [], ◌∷◌, ◌++◌, ◌≡◌, take}
use Rattle.basics.specs.Numbers.{watchdog}
use Rattle.record.specs.declared.Record.{Record}
use Rattle.record.specs.Layout.{packed}
use Rattle.rules.specs.declared.Rule.{Rule}
use Rattle.rules.specs.declared.Broken.{Broken}
use Rattle.rules.specs.declared.Tally.{Tally}
use Rattle.rules.specs.declared.Verdict.{Verdict}
use Rattle.rules.specs.declared.Verdict.TheVariants.{Conforming, Breach}
use Rattle.rules.specs.Names.{only, kind8a, kind8b, kind8c}
use Rattle.rules.specs.Rules.{difference}
use Rattle.rules.specs.State.{fresh_judge, zero_tally}
use Rattle.rules.specs.Verdict.{outcome_of}

-- ---- records
-- SP and SPV
pub record Parity : Type 0 where
  pub sp : Bool
  pub spv : Bool

-- a record: stamp; RESET, RQST; ARB; START, ACK, TM1, TM0; SP, SPV; AD. The inter-cache lines are inactive
abbrev pub lines : ℕ → Bool → Bool → ℕ → Bool → Bool → Bool → Bool → Parity → ℕ → Record
lines stamp reset rqst arb start ack tm1 tm0 parity ad =
    record {
      stamp = stamp;
      reset = reset;
      rqst = rqst;
      arb = arb;
      start = start;
      ack = ack;
      tm1 = tm1;
      tm0 = tm0;
      sp = parity.sp;
      spv = parity.spv;
      ad = ad;
      vtm1 = false;
      vtm0 = false;
      vack = false;
      vsack = false;
      vad = 0;
    }

-- one without RESET, SP and SPV
abbrev pub cycle_at : ℕ → Bool → Bool → Bool → Bool → Bool → ℕ → ℕ → Record
cycle_at stamp rqst start ack tm1 tm0 arb ad = lines stamp false rqst arb start ack tm1 tm0 (record { sp = false; spv = false }) ad

-- no line active
abbrev pub idle : ℕ → Record
idle stamp = cycle_at stamp false false false false false 0 0

-- RQST alone
abbrev pub asks : ℕ → Record
asks stamp = cycle_at stamp true false false false false 0 0

-- a START that reads at AD, in which RQST falls: the wave's last one, or a parked one
abbrev pub reads : ℕ → ℕ → Record
reads stamp ad = cycle_at stamp false true false false false 5 ad

-- an attention cycle with this ARB, RQST staying active: more turns follow
abbrev pub attends : ℕ → ℕ → Record
attends stamp arb = cycle_at stamp true true true true true arb 0

-- ACK with success, with error, with timeout
abbrev pub acks : ℕ → Record
acks stamp = cycle_at stamp false false true true true 0 0

abbrev pub fails : ℕ → Record
fails stamp = cycle_at stamp false false true true false 0 0

abbrev pub times_out : ℕ → Record
times_out stamp = cycle_at stamp false false true false true 0 0

-- TM0 with neither START nor ACK
abbrev pub strobes : ℕ → Record
strobes stamp = cycle_at stamp false false false false true 0 0

-- RESET alone
abbrev pub resets : ℕ → Record
resets stamp = lines stamp true false 0 false false false false (record { sp = false; spv = false }) 0

-- SPV over AD 1, with SP or without
abbrev pub parity : Bool → Record
parity sp = lines 0 false false 0 false false false false (record { sp = sp; spv = true }) 1

-- ---- recordings
abbrev pub bytes_of : List Record → List ℕ
bytes_of [] = []
bytes_of (r ∷ rs) = packed r ++ bytes_of rs

-- a record whose last spare bit is not zero
abbrev pub spared : Record → List ℕ
spared r = take 15 (packed r) ++ (1 ∷ [])

-- SPV over AD 1, with SP or without, written out by hand from document 01's layout: what `packed` and `record_in` had wrong alike would not show in
-- the other rows. RESET, RQST, ARB, START and ACK are byte 4; TM1, TM0, SP, SPV are the upper half of byte 5, so that SP is hex 20 there
-- and SPV hex 10; AD31 to AD28 are its lower half and AD3 to AD0 the upper half of byte 9, so that AD0 is hex 10 there.
abbrev pub hand_made : ℕ → List ℕ
hand_made byte5 = 0 ∷ 0 ∷ 0 ∷ 0 ∷ 0 ∷ byte5 ∷ 0 ∷ 0 ∷ 0 ∷ 0x10 ∷ 0 ∷ 0 ∷ 0 ∷ 0 ∷ 0 ∷ 0 ∷ []

-- the verdict on a recording from the start
abbrev pub verdict_on : ℕ → List ℕ → Verdict
verdict_on limit bytes = (outcome_of bytes (fresh_judge limit) zero_tally).verdict

-- a wave of one master, which opens a transfer in cycle 2: RQST active for two cycles, then START
abbrev pub opening : ℕ → List Record
opening ad = asks 0 ∷ asks 1 ∷ reads 2 ad ∷ []

-- n strobes, each 256 cycles after the one before, and the first so long after this stamp
abbrev pub slow_strobes : ℕ → ℕ → List Record
slow_strobes zero stamp = []
slow_strobes (suc n) stamp = strobes (stamp + watchdog) ∷ slow_strobes n (stamp + watchdog)

-- a block of sixteen words, whose fifteen strobes come as late as they may
abbrev pub slowest : List Record
slowest = opening 0x1E ++ slow_strobes 15 2

-- a wave of which the first START, in cycle 2, is an attention cycle with this ARB
abbrev pub turning : ℕ → List Record
turning arb = asks 0 ∷ asks 1 ∷ attends 2 arb ∷ []

-- ---- the table
pub record Case : Type 0 where
  pub rule : Rule
  pub limit : ℕ
  -- breaks the rule at this place, and this is the span there
  pub place : ℕ
  pub span : ℕ
  pub breaks : List ℕ
  -- conforms
  pub twin : List ℕ

-- the rule, the limit, the place and the span
abbrev pub row : Rule → ℕ → ℕ → ℕ → List Record → List Record → Case
row rule limit place span breaks twin = record { rule = rule; limit = limit; place = place; span = span; breaks = bytes_of breaks; twin = bytes_of twin }

abbrev pub cases : List Case
cases =
    record { rule = only 1; limit = 16; place = 0; span = 0; breaks = spared (idle 0); twin = bytes_of (idle 0 ∷ []) }
    -- RESET does not let spare bits pass
    ∷ record { rule = only 1; limit = 16; place = 0; span = 0; breaks = spared (resets 0); twin = bytes_of (resets 0 ∷ []) }
    -- the tally's span, without this record's difference
    ∷ record { rule = only 1; limit = 16; place = 2; span = 5; breaks = bytes_of (idle 0 ∷ idle 5 ∷ []) ++ spared (idle 9); twin = bytes_of (idle 0 ∷ idle 5 ∷ idle 9 ∷ []) }
    -- 0 to 80000001, and to 80000000; equal stamps, which tell the tally's span
    ∷ row (only 2) 16 1 0 (idle 0 ∷ idle 0x80000001 ∷ []) (idle 0 ∷ idle 0x80000000 ∷ [])
    ∷ row (only 2) 16 2 3 (idle 4 ∷ idle 7 ∷ idle 7 ∷ []) (idle 4 ∷ idle 7 ∷ idle 8 ∷ [])
    -- FFFFFFFE to 3 is a difference of 5, but 3 to FFFFFFFE is none
    ∷ row (only 2) 16 1 0 (idle 3 ∷ idle 0xFFFFFFFE ∷ []) (idle 0xFFFFFFFE ∷ idle 3 ∷ [])
    ∷ row (only 3) 16 0 0 (parity false ∷ []) (parity true ∷ [])
    ∷ record { rule = only 3; limit = 16; place = 0; span = 0; breaks = hand_made 0x10; twin = hand_made 0x30 }
    -- START before the ACK, and after it
    ∷ row (only 4) 16 3 3 (opening 0 ++ (reads 3 0 ∷ [])) (opening 0 ++ (acks 3 ∷ reads 4 0 ∷ []))
    -- a second ACK
    ∷ row (only 5) 16 4 4 (opening 0 ++ (acks 3 ∷ acks 4 ∷ [])) (opening 0 ++ (acks 3 ∷ []))
    -- an attention cycle without TM0, and one without TM1
    ∷ row (only 6) 16 2 2 (asks 0 ∷ asks 1 ∷ cycle_at 2 false true true true false 5 0 ∷ []) (asks 0 ∷ asks 1 ∷ cycle_at 2 false true true true true 5 0 ∷ [])
    ∷ row (only 6) 16 2 2 (asks 0 ∷ asks 1 ∷ cycle_at 2 false true true false true 5 0 ∷ []) (asks 0 ∷ asks 1 ∷ cycle_at 2 false true true true true 5 0 ∷ [])
    -- AD 3E and 1E
    ∷ row (only 7) 16 2 2 (opening 0x3E) (opening 0x1E)
    -- 8a: no owner since the reset; RQST inactive, as in a missing cycle
    ∷ row kind8a 16 0 0 (reads 0 0 ∷ []) (opening 0 ++ (acks 3 ∷ reads 9 0 ∷ []))
    ∷ row kind8a 16 5 5 (opening 0 ++ (acks 3 ∷ resets 4 ∷ reads 5 0 ∷ [])) (opening 0 ++ (acks 3 ∷ idle 4 ∷ reads 5 0 ∷ []))
    -- the span over a wrap of the stamp, and over more than one
    ∷ row kind8a 16 1 5 (idle 0xFFFFFFFE ∷ reads 3 0 ∷ []) (idle 0xFFFFFFFE ∷ idle 3 ∷ [])
    ∷ row kind8a 16 3 0x180000000 (idle 0 ∷ idle 0x80000000 ∷ idle 0 ∷ reads 0x80000000 0 ∷ []) (idle 0 ∷ idle 0x80000000 ∷ idle 0 ∷ idle 0x80000000 ∷ [])
    -- 8b: RQST active for one cycle
    ∷ row kind8b 16 1 1 (asks 0 ∷ reads 1 0 ∷ []) (opening 0)
    ∷ row kind8b 16 1 1 (asks 0xFFFFFFFF ∷ reads 0 0 ∷ []) (asks 0xFFFFFFFE ∷ asks 0xFFFFFFFF ∷ reads 0 0 ∷ [])
    -- two cycles after the last START, which ended the wave before
    ∷ row kind8b 16 5 5 (opening 0 ++ (acks 3 ∷ asks 4 ∷ reads 5 0 ∷ [])) (opening 0 ++ (acks 3 ∷ asks 4 ∷ asks 5 ∷ reads 6 0 ∷ []))
    -- a parked START in the cycle in which a wave begins is none of the wave's: the wave's first START may come two cycles later
    ∷ row kind8b 16 5 5 (opening 0 ++ (acks 3 ∷ attends 4 5 ∷ reads 5 0 ∷ [])) (opening 0 ++ (acks 3 ∷ attends 4 5 ∷ asks 5 ∷ reads 6 0 ∷ []))
    -- 8c: one and two cycles after the wave's last START, and three; an attention cycle is a START too
    ∷ row kind8c 16 3 3 (turning 5 ++ (reads 3 0 ∷ [])) (turning 5 ++ (asks 3 ∷ asks 4 ∷ reads 5 0 ∷ []))
    ∷ row kind8c 16 4 4 (turning 5 ++ (asks 3 ∷ reads 4 0 ∷ [])) (turning 5 ++ (asks 3 ∷ asks 4 ∷ reads 5 0 ∷ []))
    ∷ row kind8c 16 4 4 (turning 5 ++ (asks 3 ∷ attends 4 5 ∷ [])) (turning 5 ++ (asks 3 ∷ asks 4 ∷ attends 5 5 ∷ []))
    -- RQST falls without START, in a record and in a missing cycle, which the span counts
    ∷ row (only 9) 16 1 1 (asks 0 ∷ idle 1 ∷ []) (asks 0 ∷ asks 1 ∷ [])
    ∷ row (only 9) 16 1 2 (asks 0 ∷ asks 2 ∷ []) (asks 0 ∷ resets 2 ∷ [])
    -- ARB 0 is slot 0, and 1 is above it
    ∷ row (only 10) 16 5 5 (turning 0 ++ (asks 3 ∷ asks 4 ∷ attends 5 1 ∷ [])) (turning 0 ++ (asks 3 ∷ asks 4 ∷ attends 5 0 ∷ []))
    -- a second START with limit 1
    ∷ row (only 11) 1 5 5 (turning 5 ++ (asks 3 ∷ asks 4 ∷ attends 5 5 ∷ [])) (turning 5 ++ (asks 3 ∷ asks 4 ∷ attends 5 4 ∷ []))
    -- ACK 257 cycles after START, and 256
    ∷ row (only 12) 16 3 259 (opening 0 ++ (acks 259 ∷ [])) (opening 0 ++ (acks 258 ∷ []))
    -- the same of a block of two words (document 02, wish 5): its strobe; the ACK behind its strobe; and a block of sixteen words whose strobes come as late
    -- as they may. TM0 in a single transfer restarts nothing
    ∷ row (only 12) 16 3 259 (opening 2 ++ (strobes 259 ∷ [])) (opening 2 ++ (strobes 258 ∷ acks 514 ∷ []))
    ∷ row (only 12) 16 4 515 (opening 2 ++ (strobes 258 ∷ acks 515 ∷ [])) (opening 2 ++ (strobes 3 ∷ acks 259 ∷ []))
    ∷ row (only 12) 16 18 4099 (slowest ++ (acks 4099 ∷ [])) (slowest ++ (acks 4098 ∷ []))
    ∷ row (only 12) 16 4 259 (opening 0 ++ (strobes 258 ∷ acks 259 ∷ [])) (opening 0 ++ (strobes 257 ∷ acks 258 ∷ []))
    -- a block of two words: a second strobe; a success without the first, where an error and a timeout need none; TM0 in a single transfer is no
    -- strobe
    ∷ row (only 13) 16 4 4 (opening 2 ++ (strobes 3 ∷ strobes 4 ∷ [])) (opening 2 ++ (strobes 3 ∷ acks 4 ∷ []))
    ∷ row (only 13) 16 3 3 (opening 2 ++ (acks 3 ∷ [])) (opening 2 ++ (fails 3 ∷ []))
    ∷ row (only 13) 16 3 3 (opening 2 ++ (acks 3 ∷ [])) (opening 2 ++ (times_out 3 ∷ []))
    ∷ row (only 13) 16 4 4 (opening 6 ++ (strobes 3 ∷ acks 4 ∷ [])) (opening 0 ++ (strobes 3 ∷ acks 4 ∷ []))
    ∷ []

-- the breach that a case is about
abbrev pub breach_of : Case → Broken
breach_of c = record { rule = c.rule.number; kind = c.rule.kind; place = c.place; span = c.span }

-- the judge says of each case's two recordings what it has to
pub data Shown : List Case → Type 0 where
  none : Shown []
  case : {c : Case} {cs : List Case}
      → verdict_on c.limit c.breaks ≡ Breach (breach_of c)
      → verdict_on c.limit c.twin ≡ Conforming
      → Shown cs
      → Shown (c ∷ cs)

-- the rules that the cases are about
abbrev pub about : List Case → List Rule
about [] = []
about (c ∷ cs) = c.rule ∷ about cs

-- a tally of seven records over 1000 cycles
abbrev pub handed_over : Tally
handed_over = record { records = 7; span = 1000; starts = 0; acks = 0; aborted = 0 }

-- no rule is empty, no kind of rule 8 either; and P6, "stamps FFFFFFFE to 3: difference 5. 0 to 80000000 passes; 0 to 80000001, and equal stamps,
-- break rule 2.", of which the last two are cases of the table
pub record EachRule : Type 0 where
  pub shown : Shown cases
  pub all : about cases ≡ (only 1 ∷ only 1 ∷ only 1 ∷ only 2 ∷ only 2 ∷ only 2 ∷ only 3 ∷ only 3 ∷ only 4 ∷ only 5 ∷ only 6 ∷ only 6 ∷ only 7 ∷ kind8a ∷ kind8a ∷ kind8a ∷ kind8a ∷ kind8b ∷ kind8b ∷ kind8b ∷ kind8b ∷ kind8c ∷ kind8c ∷ kind8c ∷ only 9 ∷ only 9 ∷ only 10 ∷ only 11 ∷ only 12 ∷ only 12 ∷ only 12 ∷ only 12 ∷ only 12 ∷ only 13 ∷ only 13 ∷ only 13 ∷ only 13 ∷ [])
  pub p6 : difference 0xFFFFFFFE 3 ≡ 5
  -- a breach at the first record tells the span of the tally that was handed over
  pub first : (outcome_of (bytes_of (reads 9 0 ∷ [])) (fresh_judge 16) handed_over).verdict ≡ Breach (record { rule = 8; kind = 1; place = 7; span = 1000 })
