-- Document 01, "Numbers that are fixed": "Bit 1 means an active line."
use Rattle.std.specs.Prelude.{ℕ, zero, suc, ◌/◌, ◌%◌, ◌^◌, Bool, true, false, cond, eqb}

-- a line as a number: 1 where it is active
abbrev pub one : Bool → ℕ
one true = 1
one false = 0

-- bit k of the number n
unfoldable pub bit : ℕ → ℕ → ℕ
bit k n = n / 2 ^ k % 2

-- line k of the lines that the number n stands for is active
unfoldable pub active : ℕ → ℕ → Bool
active k n = eqb (bit k n) 1

-- how many of the lines below line n are active
unfoldable pub active_below : ℕ → ℕ → ℕ
active_below zero w = 0
active_below (suc n) w = cond (active n w) (suc (active_below n w)) (active_below n w)
