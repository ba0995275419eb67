-- What charging keeps of the records before, and what it makes of the next one: a working form of `charged` (usage/specs/Charge) that takes few steps a
-- record. Nothing here is promised to a caller.
use Rattle.std.specs.Prelude.{ℕ, ◌+◌, ◌*◌, ◌^◌, ◌≤◌, false, cond, not, ◌&&◌, ◌||◌, List, [], ◌∷◌, length, ◌==◌, slice_index_or}
use Rattle.basics.specs.Lines.{one}
use Rattle.record.specs.declared.Record.{Record}
use Rattle.entries.specs.declared.Entry.{Entry}
use Rattle.entries.specs.Entries.{zero_entry}
use Rattle.rules.specs.declared.Judge.{Judge}
use Rattle.rules.specs.Bounds.{SoundJudge}
use Rattle.rules.specs.Rules.{difference}
use Rattle.rules.specs.State.{is_open, open_busy}
use Rattle.rules.specs.Run.{Taken, records_in}
use Rattle.usage.specs.Charge.{slot_of, added_at, Passes}
use Rattle.accounts.specs.declared.charge.Shown.{Shown}
use Rattle.accounts.specs.declared.charge.Watch.{Watch}
use Rattle.accounts.specs.declared.charge.Charged.{Charged}

-- ---- a record
-- what of a record an account hangs on; only one that counts changes an entry
abbrev pub shown_of : Record → Shown
shown_of r =
    record {
      stamp = r.stamp;
      reset = r.reset;
      rqst = r.rqst;
      arb = r.arb;
      start = r.start;
      ack = r.ack;
      counts = r.start || r.ack || r.reset;
    }

-- ---- the state
-- the stamp that the next record's difference is taken to: the first record of all has none, and its difference is 0
abbrev pub last_of : Judge → ℕ → ℕ
last_of j first = cond j.seen j.stamp first

-- what the judge's state says, `first` being the next record's stamp. What is open is told by the cycle before its START, as a stamp: whatever records
-- come between, its busy cycles are the difference to that.
abbrev pub watch_of : Judge → ℕ → Watch
watch_of j first =
    record {
      stamp = last_of j first;
      rqst = j.wave.rqst;
      slot = slot_of j.wave.owner;
      opened = is_open j.transfer;
      began = difference (open_busy j.transfer) (last_of j first);
    }

-- after a record that changes no entry
abbrev pub idled_of : Watch → Shown → Watch
idled_of w s = record { stamp = s.stamp; rqst = s.rqst; slot = w.slot; opened = w.opened; began = w.began }

-- after RESET
abbrev pub cleared_of : Shown → Watch
cleared_of s = record { stamp = s.stamp; rqst = false; slot = 0; opened = false; began = s.stamp }

-- after a record that was charged to this slot
abbrev pub charged_of : Shown → ℕ → Watch
charged_of s slot =
    cond s.reset (cleared_of s)
    (record { stamp = s.stamp; rqst = s.rqst; slot = slot; opened = s.start && not s.ack; began = difference 1 s.stamp })

-- ---- what a record adds
-- the slot: a wave's START is its ARB's, everything else the owner's
unfoldable pub slot_by : Watch → Shown → ℕ
slot_by w s = cond (s.start && not s.reset && (difference w.stamp s.stamp == 1 && w.rqst)) s.arb w.slot

-- the busy cycles, of a record that changes an entry
unfoldable pub busy_by : Watch → Shown → ℕ
busy_by w s = cond (s.start && not s.reset) (one s.ack) (cond w.opened (difference w.began s.stamp) 0)

-- what is kept after it, and the account
unfoldable pub next_watch : Watch → Shown → Watch
next_watch w s = cond s.counts (charged_of s (slot_by w s)) (idled_of w s)

unfoldable pub next_entries : Watch → List Entry → Shown → List Entry
next_entries w es s = cond s.counts (added_at es (slot_by w s) (one (s.start && not s.reset)) (busy_by w s)) es

-- after one record after another
abbrev pub charged_by : Watch → List Entry → List Taken → Charged
charged_by w es [] = record { watch = w; entries = es }
charged_by w es (r ∷ rs) = charged_by (next_watch w (shown_of r.lines)) (next_entries w es (shown_of r.lines)) rs

-- ---- what the pass rests on
-- no entry has more STARTs, or more busy cycles
abbrev pub Within : ℕ → ℕ → List Entry → Type 0
Within starts busy es = (k : ℕ) → ((slice_index_or es k zero_entry).starts ≤ starts) × ((slice_index_or es k zero_entry).busy ≤ busy)

-- no sum gets too great as n records of these bytes are charged
pub record Roomy (bytes : List ℕ) (n : ℕ) (w : Watch) (es : List Entry) : Type 0 where
  pub fits : n * 16 ≤ length bytes
  pub few : n ≤ 2 ^ 30
  pub slot : w.slot ≤ 15
  pub room : Within (2 ^ 31 + 1) (2 ^ 62 + 2 ^ 32) es

-- the judge passes them too
pub record Chargeable (bytes : List ℕ) (n : ℕ) (j : Judge) (es : List Entry) : Type 0 where
  pub sound : SoundJudge j
  pub fits : n * 16 ≤ length bytes
  pub few : n ≤ 2 ^ 30
  pub passes : Passes j (records_in n bytes)
  pub room : Within (2 ^ 31) (2 ^ 62) es
