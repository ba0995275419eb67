-- Document 02, wish 3, "Who used the bus": "Keep beside the tally an account for each slot: STARTs and busy cycles, START to ACK or abort, both ends
-- counted, an attention cycle being 1. A parked START is the owner's. .. A transfer still open adds nothing to busy cycles until it ends." Said of the
-- recording itself. Nothing here is about the judge.
use Rattle.std.specs.Prelude.{ℕ, zero, suc, ◌+◌, ◌≤◌, ◌<◌, true, false, ◌≡◌, List, length, get_or}
use Rattle.entries.specs.declared.Entry.{Entry}
use Rattle.entries.specs.Entries.{zero_entry}
use Rattle.rules.specs.Recording.{Lines, cycle, Opened, Asked, LastOwned}
use Rattle.rules.specs.Totals.{Number}

-- record i is a START; of a record with RESET no other line counts
pub record Starts (r : Lines) (i : ℕ) : Type 0 where
  pub active : (r i).start ≡ true
  pub alive : (r i).reset ≡ false

-- record i is a START of slot s: a wave's START (RQST active one cycle before) is the slot that its ARB shows; "a parked START is the owner's", the
-- slot that the ARB of the last wave's START since the reset shows
pub data StartOf (r : Lines) (s i : ℕ) : Type 0 where
  of_wave : Starts r i → Asked r i 1 → s ≡ (r i).arb → StartOf r s i
  parked : (m : ℕ) → Starts r i → (Asked r i 1 → ⊥) → LastOwned r i m → s ≡ (r m).arb → StartOf r s i

-- what began with the START at record k ends at record i: an attention cycle, START with ACK, in its own cycle; a transfer with its ACK, or aborted
-- by RESET
pub data Ends (r : Lines) (k i : ℕ) : Type 0 where
  attention : k ≡ i → (r i).ack ≡ true → Ends r k i
  answered : Opened r i k → (r i).ack ≡ true → Ends r k i
  aborted : Opened r i k → (r i).reset ≡ true → Ends r k i

-- cycle c is busy for slot s, as far as the first n records go: it lies between a START of that slot and its end, "both ends counted", missing
-- cycles with them; what has not ended is not busy yet
pub record Busy (r : Lines) (s n c : ℕ) : Type 0 where
  pub start : ℕ
  pub end : ℕ
  pub within : end < n
  pub slot : StartOf r s start
  pub ends : Ends r start end
  pub low : cycle r start ≤ c
  pub high : c ≤ cycle r end

-- the cycles of the first n records, from the first record's, which is cycle 0, to the last one's
abbrev pub cycles_of : Lines → ℕ → ℕ
cycles_of r zero = 0
cycles_of r (suc i) = cycle r i + 1

-- the entry is that of slot s after the first n records: so many of them are its STARTs, and so many of their cycles are busy for it
pub record Used (r : Lines) (s n : ℕ) (e : Entry) : Type 0 where
  pub starts : Number (StartOf r s) n e.starts
  pub busy : Number (Busy r s n) (cycles_of r n) e.busy

-- sixteen entries, each that of its slot
pub record UsedBy (r : Lines) (n : ℕ) (entries : List Entry) : Type 0 where
  pub sixteen : length entries ≡ 16
  pub each : (s : ℕ) → s < 16 → Used r s n (get_or entries s zero_entry)
