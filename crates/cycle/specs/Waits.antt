-- The numbers of demand 3: the longest pause between STARTs, and what a master waits for that asks and goes on asking until it starts.
use Rattle.std.specs.Prelude.{ℕ, ◌+◌, ◌-◌, ◌*◌, min}
use Rattle.basics.specs.Numbers.{transfer_most}

-- while a wave has members a START comes at most so many cycles after the last one: in the cycle behind the ACK of the longest transfer, 4,097
abbrev pub pause_most : ℕ
pause_most = transfer_most + 1

-- the STARTs of others that a master in slot m sees in waves before its own: 30 - m times the limit
abbrev pub turns_most : ℕ → ℕ → ℕ
turns_most limit m = (30 - m) * limit

-- all STARTs of others that it sees: these, and one more where m is over 0, which comes between waves
abbrev pub others_most : ℕ → ℕ → ℕ
others_most limit m = turns_most limit m + min m 1

-- the cycles until its own START has come: the longest pause for each of those in waves and for its own, and one cycle more where m is over 0
abbrev pub cycles_most : ℕ → ℕ → ℕ
cycles_most limit m = pause_most * (turns_most limit m + 1) + min m 1
