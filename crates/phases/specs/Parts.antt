-- How a piece is gone through quickly: the judge takes many records at once, and the search sees only those that matter to it. Nothing here is
-- promised to a caller: the promise is `fed_phases` and `Phasing` of the crate `marks`, and the proofs show that this way keeps it.
use Rattle.std.specs.Prelude.{ℕ, suc, ◌*◌, ◌%◌, ◌≤◌, ◌<◌, Bool, true, false, cond, ◌||◌, Option, None, Some, List, ◌≡◌, ◌⊎◌, length}
use Rattle.record.specs.declared.Record.{Record}
use Rattle.rules.specs.Recording.{recording_in}
use Rattle.feeding.specs.State.{stream_bounds}
use Rattle.marks.specs.declared.Mark.{Mark}
use Rattle.marks.specs.declared.Phases.{Phases}
use Rattle.marks.specs.Marks.{mark_at, is_start_of}

-- a mark that is not refused: its slot and its number are 0 to 15
abbrev pub Named : Mark → Type 0
Named mark = (mark.slot ≤ 15) × (mark.number ≤ 15)

-- what going on asks of a state, and keeps: the judge's state within its bounds, and no more marks than there is room for
abbrev pub Fit : Phases → Type 0
Fit p = (stream_bounds p.stream ≡ true) × (p.marks.count ≤ 32)

-- an ACK is waited for
abbrev pub is_waiting : Option ℕ → Bool
is_waiting None = false
is_waiting (Some span) = true

-- a record that can change what the search holds
unfoldable pub matters : Mark → Bool → Record → Bool
matters mark waits r = cond waits (r.reset || r.start || r.ack) (is_start_of mark r)

-- the first n bytes: of their whole records none matters but the last that ends there; and they end with a record, or are all
pub record Reaches (mark : Mark) (waits : Bool) (bytes : List ℕ) (n : ℕ) : Type 0 where
  pub within : n ≤ length bytes
  pub some : 0 < length bytes → 0 < n
  pub dull : (i : ℕ) → suc i * 16 < n → matters mark waits ((recording_in bytes).lines i) ≡ false
  pub ends : (n % 16 ≡ 0) ⊎ (n ≡ length bytes)

-- the same of the mark that a state looks for
abbrev pub matters_to : Phases → Record → Bool
matters_to p r = matters (mark_at p.marks p.search.found) (is_waiting p.search.pending) r

-- of the whole records of a part none matters to the search but the last that ends it
abbrev pub Dull : Phases → List ℕ → Type 0
Dull p part = (i : ℕ) → suc i * 16 < length part → matters_to p ((recording_in part).lines i) ≡ false
