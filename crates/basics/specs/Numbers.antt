-- Document 01, "Numbers that are fixed": "Slots 0 to 15. Hold limit 1 to 16 STARTs a turn. Watchdog 256 cycles."
use Rattle.std.specs.Prelude.{ℕ, ◌*◌, Bool, ◌&&◌, leb}

abbrev pub slot_count : ℕ
slot_count = 16

abbrev pub limit_most : ℕ
limit_most = 16

abbrev pub watchdog : ℕ
watchdog = 256

-- the words of the largest block (document 001, table 2.3)
abbrev pub words_most : ℕ
words_most = 16

-- Document 02, wish 5: "The watchdog restarts with each word": the ACK comes at most so many cycles after the START, 4,096
abbrev pub transfer_most : ℕ
transfer_most = watchdog * words_most

-- "Hold limit 1 to 16"; any other is refused by 3
abbrev pub lawful_limit : ℕ → Bool
lawful_limit limit = leb 1 limit && leb limit limit_most
