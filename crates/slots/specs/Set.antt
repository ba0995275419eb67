-- Document 01: "the wave (a set of slots)", "Slots 0 to 15". A set of slots is a number: slot i is a member exactly if line i of it is active.
use Rattle.std.specs.Prelude.{ℕ, zero, suc, ◌+◌, ◌-◌, ◌^◌, Bool, cond}
use Rattle.basics.specs.Lines.{active, active_below}

-- slot i is a member of the set w
abbrev pub mem : ℕ → ℕ → Bool
mem i w = active i w

-- the set w with slot i, which it may have already
unfoldable pub including : ℕ → ℕ → ℕ
including i w = cond (mem i w) w (w + 2 ^ i)

-- the set w without slot i, which it may lack already
unfoldable pub without : ℕ → ℕ → ℕ
without i w = cond (mem i w) (w - 2 ^ i) w

-- the highest member below slot k, and 0 where there is none
unfoldable pub top_below : ℕ → ℕ → ℕ
top_below zero w = 0
top_below (suc k) w = cond (mem k w) k (top_below k w)

-- the highest member
abbrev pub top : ℕ → ℕ
top w = top_below 16 w

-- how many slots below k are members
abbrev pub card_below : ℕ → ℕ → ℕ
card_below k w = active_below k w

-- how many members there are
abbrev pub card : ℕ → ℕ
card w = card_below 16 w

-- how many members stand above slot m
unfoldable pub above : ℕ → ℕ → ℕ
above m w = card w - card_below (suc m) w

-- the slots below k whose flag is true, put in slot by slot
unfoldable pub flagged_below : ℕ → (ℕ → Bool) → ℕ
flagged_below zero flag = 0
flagged_below (suc k) flag = cond (flag k) (including k (flagged_below k flag)) (flagged_below k flag)
