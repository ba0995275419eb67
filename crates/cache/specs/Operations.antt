-- Document 01, "Cache blocks": what becomes of each slot k's state and copy, and of memory's word. "Nothing else changes."
use Rattle.std.specs.Prelude.{ℕ, cond, eqb}
use Rattle.cache.specs.States.{invalid, unowned, owned_shared, owned_private, valid, owns}
use Rattle.cache.specs.Block.{Block, supplied}

-- "Read: valid, the copy. Invalid, the owner's copy .. or else memory"
unfoldable pub value_read : Block → ℕ → ℕ
value_read b reader = cond (valid (b.state reader)) (b.copy reader) (supplied b)

-- "the owner becomes owned shared", "the reader becomes unowned", and holds what it read
abbrev pub block_fetched : Block → ℕ → Block
block_fetched b reader =
    record {
      state = λ k. cond (eqb k reader) unowned (cond (owns (b.state k)) owned_shared (b.state k));
      copy = λ k. cond (eqb k reader) (supplied b) (b.copy k);
      word = b.word;
    }

-- a read by a valid slot changes nothing
unfoldable pub block_read : Block → ℕ → Block
block_read b reader = cond (valid (b.state reader)) b (block_fetched b reader)

-- "A valid slot that becomes invalid gets copy 0; one invalid already keeps its copy."
unfoldable pub copy_left : (state copy : ℕ) → ℕ
copy_left state copy = cond (valid state) 0 copy

-- "Write: every other slot becomes invalid, the writer private with the new value."
unfoldable pub block_written : Block → ℕ → ℕ → Block
block_written b writer value =
    record {
      state = λ k. cond (eqb k writer) owned_private invalid;
      copy = λ k. cond (eqb k writer) value (copy_left (b.state k) (b.copy k));
      word = b.word;  -- memory is left alone
    }

-- "Evict: an owner's copy goes to memory; the slot becomes invalid."
unfoldable pub block_evicted : Block → ℕ → Block
block_evicted b slot =
    record {
      state = λ k. cond (eqb k slot) invalid (b.state k);
      copy = λ k. cond (eqb k slot) (copy_left (b.state slot) (b.copy slot)) (b.copy k);
      word = cond (owns (b.state slot)) (b.copy slot) b.word;
    }
