-- What the theorems say of a call: its own block becomes what the operation makes of it, and is coherent; "Nothing else changes."
use Rattle.std.specs.Prelude.{ℕ, ◌+◌, ◌*◌, ◌<◌, true, ◌≡◌, length, get_or}
use Rattle.cache.specs.States.{invalid, valid}
use Rattle.cache.specs.Block.{Block, Coherent}
use Rattle.cache.specs.Tables.{Tables, block_of}

-- two blocks hold the same: sixteen states, sixteen copies and memory's word
pub record Same (a b : Block) : Type 0 where
  pub states : (k : ℕ) → k < 16 → a.state k ≡ b.state k
  pub copies : (k : ℕ) → k < 16 → a.copy k ≡ b.copy k
  pub word : a.word ≡ b.word

-- the tables `next` are the tables t with b for block n; b is coherent, and every other block is as it was
pub record Keeps (t : Tables) (n : ℕ) (b : Block) (next : Tables) : Type 0 where
  pub coherent : Coherent (block_of next n)
  pub itself : Same (block_of next n) b
  pub others : (m : ℕ) → (m ≡ n → ⊥) → Same (block_of next m) (block_of t m)
  pub states-length : length next.states ≡ length t.states
  pub copies_length : length next.copies ≡ length t.copies
  pub memory-length : length next.memory ≡ length t.memory

-- every block of the tables is coherent
abbrev pub AllCoherent : Tables → Type 0
AllCoherent t = (n : ℕ) → n < length t.memory → Coherent (block_of t n)

-- slot k of block n is invalid in the tables `next`: "A valid slot that becomes invalid gets copy 0"
pub record Emptied (t : Tables) (n k : ℕ) (next : Tables) : Type 0 where
  pub becomes : get_or next.states (16 * n + k) 0 ≡ invalid
  pub cleared : valid (get_or t.states (16 * n + k) 0) ≡ true → get_or next.copies (16 * n + k) 0 ≡ 0
