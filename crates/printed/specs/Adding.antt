-- A text made piece by piece: what a function does that puts bytes behind those that are there.
use Rattle.std.specs.Prelude.{ℕ, ◌+◌, ◌≤◌, ◌≡◌, List, ◌++◌, length}
use Rattle.text.specs.declared.Place.{Place}
use Rattle.text.specs.Places.{Holds}

-- from a buffer and its place to the next: the buffer keeps its length, and where it held a text and had room for the bytes, it holds the text with
-- the bytes behind it
pub record Adds (buffer : List ℕ) (p : Place) (next : List ℕ) (q : Place) (bytes : List ℕ) : Type 0 where
  pub kept : length next ≡ length buffer
  pub behind : (t : List ℕ) → Holds buffer p t → length t + length bytes ≤ length buffer → Holds next q (t ++ bytes)
