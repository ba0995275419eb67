-- Document 01, "The judge": "For each record, lowest number first: ..". The thirteen rules as the judge tests them, each of just the lines
-- and numbers that it needs; the file State says what the judge keeps of the records before.
use Rattle.std.specs.Prelude.{ℕ, ◌+◌, ◌-◌, ◌%◌, ◌^◌, Bool, not, ◌&&◌, ◌||◌, leb, ltb, eqb}
use Rattle.std.specs.Bool.{beq}
use Rattle.basics.specs.Numbers.{watchdog}
use Rattle.basics.specs.Order.{implies}

-- "The stamp's difference to the last one, modulo 2^32"
abbrev pub difference : ℕ → ℕ → ℕ
difference last stamp = (stamp + (2 ^ 32 - last)) % 2 ^ 32

-- "TM0 with neither START nor ACK, in an open block transfer, is a strobe": `words` are the open transfer's, and a block has more than one
abbrev pub strobe : ℕ → Bool → Bool → Bool → Bool
strobe words start ack tm0 = ltb 1 words && tm0 && not start && not ack

-- 1. "Spare bits are zero."
abbrev pub rule1 : ℕ → Bool
rule1 spare = eqb spare 0

-- 2. "The stamp's difference to the last one, modulo 2^32, is 1 to 2^31 (not judged on the first record)."
abbrev pub rule2 : Bool → ℕ → Bool
rule2 seen d = implies seen (leb 1 d && leb d (2 ^ 31))

-- 3. "SPV active: SP is right.", that is as AD's parity
abbrev pub rule3 : Bool → Bool → Bool → Bool
rule3 spv sp parity = implies spv (beq sp parity)

-- 4. "No START while a transfer is open."
abbrev pub rule4 : Bool → Bool → Bool
rule4 busy start = not (start && busy)

-- 5. "No ACK without START while none is open."
abbrev pub rule5 : Bool → Bool → Bool → Bool
rule5 busy start ack = implies (ack && not start) busy

-- 6. "An attention cycle has both TM lines active."
abbrev pub rule6 : Bool → Bool → Bool → Bool → Bool
rule6 start ack tm1 tm0 = implies (start && ack) (tm1 && tm0)

-- 7. "Any other START has a code with meaning.", that is one with words
abbrev pub rule7 : Bool → Bool → ℕ → Bool
rule7 start ack words = implies (start && not ack) (ltb 0 words)

-- 8a. "With RQST inactive one cycle before, a START needs a wave's START since the last reset (parking)."
-- `asked`, `twice`: RQST active one cycle before, and two cycles before
abbrev pub rule8a : Bool → Bool → Bool → Bool
rule8a start asked owned = implies (start && not asked) owned

-- 8b. "With it active then, it must be active two cycles before too,"
abbrev pub rule8b : Bool → Bool → Bool → Bool
rule8b start asked twice = implies (start && asked) twice

-- 8c. "and the START comes at least three cycles after the wave's last one.": `since` cycles
abbrev pub rule8c : Bool → Bool → ℕ → Bool
rule8c start asked since = implies (start && asked) (leb 3 since)

-- 9. "RQST becomes inactive only in a cycle with START.": `last` is RQST in the last record, d cycles ago; a missing cycle has it inactive
abbrev pub rule9 : Bool → ℕ → Bool → Bool → Bool
rule9 last d rqst start = implies last (eqb d 1 && (rqst || start))

-- 10. "ARB at a START of a wave (RQST active one cycle before) isn't above the wave's last such ARB."
abbrev pub rule10 : Bool → Bool → ℕ → ℕ → Bool
rule10 start asked arb last = implies (start && asked) (leb arb last)

-- 11. "Nor equal to it more often than the hold limit allows.": `turn` STARTs in a row had it
abbrev pub rule11 : ℕ → Bool → Bool → ℕ → ℕ → ℕ → Bool
rule11 limit start asked arb last turn = implies (start && asked && eqb arb last) (ltb turn limit)

-- 12. "An open transfer's age is at most 256.": `age` at the last record, d cycles ago
abbrev pub rule12 : Bool → ℕ → ℕ → Bool
rule12 busy age d = implies busy (leb (age + d) watchdog)

-- 13. "there are at most words less one [strobes],"
abbrev pub rule13a : Bool → ℕ → ℕ → Bool → Bool → Bool → Bool
rule13a busy words strobes start ack tm0 = implies (busy && strobe words start ack tm0) (ltb (strobes + 1) words)

-- "and exactly so at a successful ACK"
abbrev pub rule13b : Bool → ℕ → ℕ → Bool → Bool → Bool → Bool
rule13b busy words strobes ack tm1 tm0 = implies (busy && ack && tm1 && tm0) (eqb (strobes + 1) words)

abbrev pub rule13 : Bool → ℕ → ℕ → Bool → Bool → Bool → Bool → Bool
rule13 busy words strobes start ack tm1 tm0 = rule13a busy words strobes start ack tm0 && rule13b busy words strobes ack tm1 tm0
