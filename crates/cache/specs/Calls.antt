-- Document 01, the table of numbers: "1: .. memory isn't 1 to 64 words, or state and copy tables aren't 16 times memory's length",
-- "2: slot over 15, block number not in the table ..", "7: the named cache block isn't coherent", in this order.
use Rattle.std.specs.Prelude.{ℕ, ◌*◌, Bool, cond, ◌&&◌, length, eqb, leb, ltb}
use Rattle.basics.specs.Answers.{Answer, accepted, refused}
use Rattle.basics.specs.Order.{unless}
use Rattle.cache.specs.Block.{Block, coherent}
use Rattle.cache.specs.Operations.{value_read, block_read, block_written, block_evicted}
use Rattle.cache.specs.Tables.{Tables, block_of, with_block}

-- memory is 1 to 64 words, and the state and copy tables are 16 times as long
unfoldable pub fit : (states copies words : ℕ) → Bool
fit states copies words = leb words 64 && leb 1 words && eqb states (16 * words) && eqb copies (16 * words)

-- the slot is not over 15, and the block is in the table
unfoldable pub named : (block slot words : ℕ) → Bool
named block slot words = leb slot 15 && ltb block words

-- the number of the first refusal that applies, 0 where none does
unfoldable pub refusal : Tables → ℕ → ℕ → ℕ
refusal t block slot =
    unless (fit (length t.states) (length t.copies) (length t.memory)) 1
    (unless (named block slot (length t.memory)) 2 (unless (coherent (block_of t block)) 7 0))

-- the tables after a call: block `block` by the operation, or, refused, all as they were
unfoldable pub after : Tables → ℕ → ℕ → (Block → Block) → Tables
after t block slot operation =
    cond (eqb (refusal t block slot) 0) (with_block t block (operation (block_of t block))) t

-- what a read answers, and the tables after it
unfoldable pub read_of : Tables → ℕ → ℕ → Answer ℕ
read_of t block slot =
    cond (eqb (refusal t block slot) 0) (accepted (value_read (block_of t block) slot)) (refused (refusal t block slot) 0)

abbrev pub after_read : Tables → ℕ → ℕ → Tables
after_read t block slot = after t block slot (λ b. block_read b slot)

-- a write and an evict answer their refusal's number alone
abbrev pub after_write : Tables → ℕ → ℕ → ℕ → Tables
after_write t block slot value = after t block slot (λ b. block_written b slot value)

abbrev pub after_evict : Tables → ℕ → ℕ → Tables
after_evict t block slot = after t block slot (λ b. block_evicted b slot)
