-- Document 01: "A fresh bus, for a given hold limit, is empty, idle and without an owner." "Reset: the state becomes fresh, all lines are
-- inactive, the rest is skipped."
use Rattle.std.specs.Prelude.{ℕ, false, None}
use Rattle.cycle.specs.declared.Bus.{Bus}
use Rattle.cycle.specs.declared.Reply.{Reply}
use Rattle.cycle.specs.declared.Transfer.TheVariants.{Idle}
use Rattle.cycle.specs.declared.Note.TheVariants.{Clear}

-- "empty, idle and without an owner"
abbrev pub fresh : ℕ → Bus
fresh limit = record { wave = 0; settling = 0; turn = 0; owner = None; limit = limit; transfer = Idle }

-- "all lines are inactive"; and the zeros of a refusal
abbrev pub silent : Reply
silent = record { rqst = false; start = false; ack = false; starter = None; status = None; note = Clear }
