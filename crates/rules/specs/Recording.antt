-- Document 01, "The line record": "The stamp counts 100 ns bus cycles. Cycles in which all 81 lines are inactive may be missing; a missing cycle
-- means exactly that." A recording by places, record 0, record 1 and so on: the cycle in which each record stands, and what came before it.
-- Nothing here is about the judge.
use Rattle.std.specs.Prelude.{ℕ, zero, suc, ◌+◌, ◌*◌, ◌≤◌, ◌<◌, Bool, true, false, not, ◌&&◌, ◌≡◌, ◌⊎◌, List, take, drop, ltb, eqb}
use Rattle.basics.specs.Lines.{one}
use Rattle.record.specs.declared.Record.{Record}
use Rattle.record.specs.Layout.{record_in, spare_in}
use Rattle.codes.specs.Units.{words_in}
use Rattle.codes.specs.Start.{decode_of}
use Rattle.rules.specs.Rules.{difference}

-- the lines of each record, by its place
abbrev pub Lines : Type 0
Lines = ℕ → Record

-- and the spare bits
pub record Recording : Type 0 where
  pub lines : Lines
  pub spare : ℕ → ℕ

-- the sixteen bytes at place i
abbrev pub sixteen : List ℕ → ℕ → List ℕ
sixteen bytes i = take 16 (drop (i * 16) bytes)

-- the recording that bytes hold
abbrev pub recording_in : List ℕ → Recording
recording_in bytes = record { lines = λ i. record_in (sixteen bytes i); spare = λ i. spare_in (sixteen bytes i) }

-- ---- cycles
-- "The stamp's difference to the last one, modulo 2^32"; the first record has none
abbrev pub gap : Lines → ℕ → ℕ
gap r zero = 0
gap r (suc i) = difference (r i).stamp (r (suc i)).stamp

-- the cycle in which record i stands, counted from the first record's
abbrev pub cycle : Lines → ℕ → ℕ
cycle r zero = 0
cycle r (suc i) = cycle r i + gap r (suc i)

-- how many of the places below n have p
abbrev pub count : (ℕ → Bool) → ℕ → ℕ
count p zero = 0
count p (suc n) = count p n + one (p n)

-- no record from place k up to place i, without i itself, has RESET
abbrev pub NoReset : Lines → ℕ → ℕ → Type 0
NoReset r k i = (m : ℕ) → k ≤ m → m < i → (r m).reset ≡ false

-- ---- the open transfer
-- the transfer that is open before record i began at record k: an earlier START without ACK, and no RESET, START or ACK since then
pub record Opened (r : Lines) (i k : ℕ) : Type 0 where
  pub earlier : k < i
  pub starts : (r k).start ≡ true
  pub lasts : (r k).ack ≡ false
  pub unbroken : NoReset r k i
  pub alone : (m : ℕ) → k < m → m < i → (r m).start ≡ false
  pub unanswered : (m : ℕ) → k < m → m < i → (r m).ack ≡ false

-- the words of the unit that a START's code means
unfoldable pub words_at : Lines → ℕ → ℕ
words_at r k = words_in (decode_of (r k).tm1 (r k).tm0 (r k).ad).value.operation.unit

-- record m is a strobe of the block transfer that began at record k: "TM0 with neither START nor ACK"
abbrev pub strobe_of : Lines → ℕ → ℕ → Bool
strobe_of r k m = ltb k m && ltb 1 (words_at r k) && (r m).tm0 && not (r m).start && not (r m).ack

-- the age, before record i, of the transfer that began at record k counts from record m (document 02, wish 5, "The watchdog restarts with each word"): its
-- START or the last of its strobes
pub record AgesFrom (r : Lines) (i k m : ℕ) : Type 0 where
  pub earlier : m < i
  pub word : (m ≡ k) ⊎ (strobe_of r k m ≡ true)
  pub last : (n : ℕ) → m < n → n < i → strobe_of r k n ≡ false

-- ---- RQST and the wave
-- record k, n cycles before record i, has RQST active, and no RESET has come since: a cycle that no record has is inactive
pub record Asks (r : Lines) (i n k : ℕ) : Type 0 where
  pub earlier : k < i
  pub active : (r k).rqst ≡ true
  pub unbroken : NoReset r k i
  pub ago : cycle r k + n ≡ cycle r i

-- RQST is active n cycles before record i
abbrev pub Asked : Lines → ℕ → ℕ → Type 0
Asked r i n = (k : ℕ) × Asks r i n k

-- "A wave begins in the first cycle with RQST active": the wave that lasts until the cycle before record i began at record b, RQST being active
-- in every cycle from there on and inactive one cycle before
pub record Began (r : Lines) (i b : ℕ) : Type 0 where
  pub earlier : b < i
  pub active : (m : ℕ) → b ≤ m → m < i → (r m).rqst ≡ true
  pub unbroken : NoReset r b i
  pub each : (m : ℕ) → b < m → m ≤ i → gap r m ≡ 1
  pub first : Asked r b 1 → ⊥

-- record m is a START of that wave: a parked START in the cycle in which the wave begins is none
pub record WaveStart (r : Lines) (i b m : ℕ) : Type 0 where
  pub after : b < m
  pub earlier : m < i
  pub starts : (r m).start ≡ true

-- the wave's last START before record i
pub record LastStart (r : Lines) (i b m : ℕ) : Type 0 where
  pub turn : WaveStart r i b m
  pub none : (n : ℕ) → m < n → n < i → (r n).start ≡ false

-- record m is a START of the wave that began at record b, and has this ARB
abbrev pub start_with : Lines → ℕ → ℕ → ℕ → Bool
start_with r b arb m = ltb b m && (r m).start && eqb (r m).arb arb

-- record m, before record i, is a START of some wave, and no RESET has come since: its master owns the bus
pub record Owned (r : Lines) (i m : ℕ) : Type 0 where
  pub earlier : m < i
  pub starts : (r m).start ≡ true
  pub unbroken : NoReset r m i
  pub asked : Asked r m 1

-- and the last such START: the owner is the slot that its ARB shows
pub record LastOwned (r : Lines) (i m : ℕ) : Type 0 where
  pub owned : Owned r i m
  pub none : (n : ℕ) → m < n → Owned r i n → ⊥
