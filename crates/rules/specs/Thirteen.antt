-- Document 01, "The judge": "For each record, lowest number first: ..". The thirteen rules of record i, said of the recording itself.
use Rattle.std.specs.Prelude.{ℕ, suc, ◌+◌, ◌^◌, ◌≤◌, ◌<◌, true, false, cond, List, [], ◌∷◌, ◌≡◌, ◌⊎◌}
use Rattle.codes.specs.Start.{decode_of}
use Rattle.codes.specs.Parity.{parity_of}
use Rattle.basics.specs.Numbers.{watchdog}
use Rattle.rules.specs.declared.Rule.{Rule}
use Rattle.rules.specs.Names.{only, kind8a, kind8b, kind8c}
use Rattle.rules.specs.Recording.{Lines, Recording, gap, cycle, count, Opened, words_at, strobe_of, AgesFrom, Asked, Began, LastStart, start_with, Owned}

-- 1. "Spare bits are zero."
abbrev pub Rule1 : (ℕ → ℕ) → ℕ → Type 0
Rule1 spare i = spare i ≡ 0

-- 2. "The stamp's difference to the last one, modulo 2^32, is 1 to 2^31 (not judged on the first record)."
abbrev pub Rule2 : Lines → ℕ → Type 0
Rule2 r i = 0 < i → (1 ≤ gap r i) × (gap r i ≤ 2 ^ 31)

-- 3. "SPV active: SP is right."
abbrev pub Rule3 : Lines → ℕ → Type 0
Rule3 r i = (r i).spv ≡ true → (r i).sp ≡ parity_of (r i).ad

-- 4. "No START while a transfer is open."
abbrev pub Rule4 : Lines → ℕ → Type 0
Rule4 r i = (k : ℕ) → Opened r i k → (r i).start ≡ false

-- 5. "No ACK without START while none is open."
abbrev pub Rule5 : Lines → ℕ → Type 0
Rule5 r i = (r i).ack ≡ true → (r i).start ≡ false → (k : ℕ) × Opened r i k

-- 6. "An attention cycle has both TM lines active."
abbrev pub Rule6 : Lines → ℕ → Type 0
Rule6 r i = (r i).start ≡ true → (r i).ack ≡ true → ((r i).tm1 ≡ true) × ((r i).tm0 ≡ true)

-- 7. "Any other START has a code with meaning.": decoding it is not refused
abbrev pub Rule7 : Lines → ℕ → Type 0
Rule7 r i = (r i).start ≡ true → (r i).ack ≡ false → (decode_of (r i).tm1 (r i).tm0 (r i).ad).number ≡ 0

-- 8a. "With RQST inactive one cycle before, a START needs a wave's START since the last reset (parking)."
abbrev pub Rule8a : Lines → ℕ → Type 0
Rule8a r i = (r i).start ≡ true → (Asked r i 1 → ⊥) → (m : ℕ) × Owned r i m

-- 8b. "With it active then, it must be active two cycles before too,"
abbrev pub Rule8b : Lines → ℕ → Type 0
Rule8b r i = (r i).start ≡ true → Asked r i 1 → Asked r i 2

-- 8c. "and the START comes at least three cycles after the wave's last one."
abbrev pub Rule8c : Lines → ℕ → Type 0
Rule8c r i = (r i).start ≡ true → (b m : ℕ) → Began r i b → LastStart r i b m → cycle r m + 3 ≤ cycle r i

-- 9. "RQST becomes inactive only in a cycle with START.": where the record before has RQST (and no RESET), no cycle is missing, and this record
-- has RQST or START
abbrev pub Rule9 : Lines → ℕ → Type 0
Rule9 r i = (k : ℕ) → suc k ≡ i → (r k).rqst ≡ true → (r k).reset ≡ false → (gap r i ≡ 1) × ((r i).start ≡ false → (r i).rqst ≡ true)

-- 10. "ARB at a START of a wave (RQST active one cycle before) isn't above the wave's last such ARB."
abbrev pub Rule10 : Lines → ℕ → Type 0
Rule10 r i = (r i).start ≡ true → (b m : ℕ) → Began r i b → LastStart r i b m → (r i).arb ≤ (r m).arb

-- 11. "Nor equal to it more often than the hold limit allows.": by rule 10 a wave's STARTs with one ARB stand in a row; this one and those before
-- it are at most the limit
abbrev pub Rule11 : ℕ → Lines → ℕ → Type 0
Rule11 limit r i = (r i).start ≡ true → (b : ℕ) → Began r i b → count (start_with r b (r i).arb) i + 1 ≤ limit

-- 12. "An open transfer's age is at most 256.", this record's cycle counted before its strobe, if it is one, restarts the age
abbrev pub Rule12 : Lines → ℕ → Type 0
Rule12 r i = (k m : ℕ) → Opened r i k → AgesFrom r i k m → cycle r i ≤ cycle r m + watchdog

-- 13. "there are at most words less one [strobes]," this record's with them
abbrev pub Rule13a : Lines → ℕ → Type 0
Rule13a r i = (k : ℕ) → Opened r i k → count (strobe_of r k) (suc i) + 1 ≤ words_at r k

-- "and exactly so at a successful ACK." (ACK status by TM1 TM0: 11 success)
abbrev pub Rule13b : Lines → ℕ → Type 0
Rule13b r i = (k : ℕ) → Opened r i k → (r i).ack ≡ true → (r i).tm1 ≡ true → (r i).tm0 ≡ true → count (strobe_of r k) i + 1 ≡ words_at r k

abbrev pub Rule13 : Lines → ℕ → Type 0
Rule13 r i = Rule13a r i × Rule13b r i

-- ---- all of them
-- the rules of a record without RESET, from 3 up
abbrev pub from_third : ℕ → Lines → ℕ → List (Rule × Type 0)
from_third limit r i =
    (only 3, Rule3 r i)
    ∷ (only 4, Rule4 r i)
    ∷ (only 5, Rule5 r i)
    ∷ (only 6, Rule6 r i)
    ∷ (only 7, Rule7 r i)
    ∷ (kind8a, Rule8a r i)
    ∷ (kind8b, Rule8b r i)
    ∷ (kind8c, Rule8c r i)
    ∷ (only 9, Rule9 r i)
    ∷ (only 10, Rule10 r i)
    ∷ (only 11, Rule11 limit r i)
    ∷ (only 12, Rule12 r i)
    ∷ (only 13, Rule13 r i)
    ∷ []

-- "If RESET is active, .. no further rule applies."
abbrev pub rules : ℕ → Recording → ℕ → List (Rule × Type 0)
rules limit r i =
    (only 1, Rule1 r.spare i)
    ∷ (only 2, Rule2 r.lines i)
    ∷ cond (r.lines i).reset [] (from_third limit r.lines i)

-- every rule of the list holds
abbrev pub AllKept : List (Rule × Type 0) → Type 0
AllKept [] = Unit {0}
AllKept (rule ∷ rest) = rule.1 × AllKept rest

-- `name` is the first rule of the list that does not hold
abbrev pub FirstOf : Rule → List (Rule × Type 0) → Type 0
FirstOf name [] = ⊥
FirstOf name (rule ∷ rest) = ((rule.1 → ⊥) × (name ≡ rule.0)) ⊎ (rule.1 × FirstOf name rest)

-- record i keeps every rule that applies to it
abbrev pub Keeps : ℕ → Recording → ℕ → Type 0
Keeps limit r i = AllKept (rules limit r i)

-- the lowest rule that record i breaks is this one
abbrev pub Breaks : ℕ → Recording → ℕ → Rule → Type 0
Breaks limit r i rule = FirstOf rule (rules limit r i)
