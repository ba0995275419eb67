-- Document 01, "Cache blocks": "Three lent tables: state bytes and 32-bit copies (16 per block, by slot) and memory (one word per block,
-- its content)."
use Rattle.std.specs.Prelude.{ℕ, zero, suc, ◌+◌, ◌*◌, List, get_or, set}
use Rattle.cache.specs.Block.{Block}

pub record Tables : Type 0 where
  pub states : List ℕ
  pub copies : List ℕ
  pub memory : List ℕ

abbrev pub tables : (states copies memory : List ℕ) → Tables
tables states copies memory = record { states = states; copies = copies; memory = memory }

-- a table's entries by slot, slot 0's standing at base
abbrev pub entries : List ℕ → ℕ → ℕ → ℕ
entries l base k = get_or l (base + k) 0

-- the block whose sixteen states and copies start at base
abbrev pub block_at : (states copies : List ℕ) (base word : ℕ) → Block
block_at states copies base word = record { state = entries states base; copy = entries copies base; word = word }

-- block n
abbrev pub block_of : Tables → ℕ → Block
block_of t n = block_at t.states t.copies (16 * n) (get_or t.memory n 0)

-- a table with its entries base to base + n - 1 given by slot, and every other entry as it was
unfoldable pub placed : List ℕ → ℕ → (ℕ → ℕ) → ℕ → List ℕ
placed l base f zero = l
placed l base f (suc n) = set (placed l base f n) (base + n) (f n)

-- the tables with block n as given, and every other block as it was
unfoldable pub with_block : Tables → ℕ → Block → Tables
with_block t n b =
    record {
      states = placed t.states (16 * n) b.state 16;
      copies = placed t.copies (16 * n) b.copy 16;
      memory = set t.memory n b.word;
    }
