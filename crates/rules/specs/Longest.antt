-- Document 02, wish 5, "the longest gap of a sixteen-word block": how long a transfer may last that conforms, said of the recording itself.
use Rattle.std.specs.Prelude.{ℕ, ◌+◌, ◌≤◌, false, List, ◌≡◌}
use Rattle.basics.specs.Numbers.{transfer_most}
use Rattle.rules.specs.Recording.{recording_in, cycle, Opened}
use Rattle.rules.specs.Thirteen.{Keeps}

-- THE PROMISE, for each hold limit: a transfer that is open before record i, where no record up to i breaks a rule and i has no RESET, began at most so
-- many cycles before it. The cases of rule 12 (the file Cases) have a block that lasts as long.
abbrev pub Longest : ℕ → Type 0
Longest limit =
    (bytes : List ℕ) (i k : ℕ) → let r = recording_in bytes in ((m : ℕ) → m ≤ i → Keeps limit r m) → (r.lines i).reset ≡ false → Opened r.lines i k
    → cycle r.lines i ≤ cycle r.lines k + transfer_most
