-- Text put piece by piece into a lent buffer. A place says where the next byte goes, and whether all that was put so far had room.
use Rattle.std.specs.Prelude.{ℕ, ◌+◌, ◌≤◌, ◌≡◌, Bool, true, false, cond, ◌&&◌, List, ◌++◌, leb, length, take, drop}
use Rattle.text.specs.declared.Place.{Place}

-- where a text begins: nothing is put yet, so nothing lacked room
abbrev pub front : Place
front = record { at = 0; room = true }

-- a place from which nothing is put any more
abbrev pub no_room : Place
no_room = record { at = 0; room = false }

-- n more bytes fit at the place, in a buffer of so many bytes
unfoldable pub fits : ℕ → Place → ℕ → Bool
fits size p n = p.room && leb (p.at + n) size

-- the place behind them
unfoldable pub moved_by : ℕ → Place → ℕ → Place
moved_by size p n = cond (fits size p n) (record { at = p.at + n; room = true }) no_room

-- the buffer with the bytes at the place and the rest as it was; where they do not all fit, nothing is written
unfoldable pub put_at : List ℕ → Place → List ℕ → List ℕ
put_at buffer p bytes =
    cond (fits (length buffer) p (length bytes)) (take p.at buffer ++ bytes ++ drop (p.at + length bytes) buffer) buffer

-- the text stands at the front of the buffer, and the place is behind it
pub record Holds (buffer : List ℕ) (p : Place) (text : List ℕ) : Type 0 where
  pub place : p ≡ record { at = length text; room = true }
  pub front : take (length text) buffer ≡ text
  pub within : length text ≤ length buffer
