-- What one record adds to an account, in terms of the judge's state before it: a working form. The file Using says what it comes to.
use Rattle.std.specs.Prelude.{ℕ, ◌+◌, Bool, not, cond, ◌&&◌, ◌||◌, List, [], ◌∷◌, ◌≡◌, get_or, set, replicate, Option, Some, None}
use Rattle.basics.specs.Lines.{one}
use Rattle.record.specs.declared.Record.{Record}
use Rattle.entries.specs.declared.Entry.{Entry}
use Rattle.entries.specs.Entries.{zero_entry}
use Rattle.rules.specs.declared.Judge.{Judge}
use Rattle.rules.specs.declared.Wave.{Wave}
use Rattle.rules.specs.declared.Transfer.{Transfer}
use Rattle.rules.specs.declared.Transfer.TheVariants.{Idle, Open}
use Rattle.rules.specs.State.{asked_of, diff_of, judge_of}
use Rattle.rules.specs.Run.{Taken, rule_of}

-- an account of nothing
abbrev pub none_used : List Entry
none_used = replicate 16 zero_entry

-- the owner's slot. Where there is nobody no START is parked, by rule 8a, and nothing is open; a state made by hand in which something is counts as
-- slot 0's
abbrev pub slot_of : Option ℕ → ℕ
slot_of None = 0
slot_of (Some slot) = slot

-- a START, of a record without RESET
abbrev pub starts_in : Record → Bool
starts_in r = r.start && not r.reset

-- the slot that a record is charged to: a wave's START to its ARB's, everything else to the owner's
unfoldable pub charged_to : Wave → Record → ℕ → ℕ
charged_to w r d = cond (starts_in r && asked_of w d) r.arb (slot_of w.owner)

-- the busy cycles of what is open, up to a record d cycles after the last one
abbrev pub busy_to : Transfer → ℕ → ℕ
busy_to Idle d = 0
busy_to (Open words strobes age busy) d = busy + d

-- the busy cycles that a record adds: "an attention cycle being 1", a START that opens a transfer none yet; what is open adds all of its own where
-- ACK ends it or RESET aborts it
unfoldable pub busy_in : Transfer → Record → ℕ → ℕ
busy_in t r d = cond (starts_in r) (one r.ack) (cond (r.ack || r.reset) (busy_to t d) 0)

-- so many STARTs and busy cycles more
abbrev pub added : Entry → ℕ → ℕ → Entry
added e starts busy = record { starts = e.starts + starts; busy = e.busy + busy }

-- in one slot's entry
unfoldable pub added_at : List Entry → ℕ → ℕ → ℕ → List Entry
added_at entries slot starts busy = set entries slot (added (get_or entries slot zero_entry) starts busy)

-- the account after a record, d cycles after the last one
unfoldable pub charged : List Entry → Judge → Record → ℕ → List Entry
charged entries j r d = added_at entries (charged_to j.wave r d) (one (starts_in r)) (busy_in j.transfer r d)

-- the judge's state after a record that breaks no rule
abbrev pub next_judge : Judge → Taken → Judge
next_judge j r = judge_of j r.lines (diff_of j r.lines.stamp)

-- none of these records breaks a rule
abbrev pub Passes : Judge → List Taken → Type 0
Passes j [] = Unit {0}
Passes j (r ∷ rs) = ((rule_of j r (diff_of j r.lines.stamp)).number ≡ 0) × Passes (next_judge j r) rs

-- the account after one record after another, none of which breaks a rule
abbrev pub account_of : Judge → List Entry → List Taken → List Entry
account_of j entries [] = entries
account_of j entries (r ∷ rs) =
    account_of (next_judge j r) (charged entries j r.lines (diff_of j r.lines.stamp)) rs
