-- "Nothing else changes": what a call leaves as it was, entry by entry. Other blocks: proofs/Kept.antt.
use Prim.Native.Nat.{ℕ, ◌+◌, ◌*◌, ◌<◌}
use mathlib.Core.Bool.{true, false, true≢false}
use mathlib.Core.Path.{◌≡◌, refl, sym, ap, ◌∙◌}
use borrow.Author.Tests.{eqb-true, ne_eqb}
use lib.Dec.{eqb}
use lib.ListN.{get_or, set}
use lib.Seq.{set-get_or}
use Rattle.basics.proofs.Bools.{choice, cond-true, cond-false, not-true}
use Rattle.cache.specs.States.{valid, owns}
use Rattle.cache.specs.Block.{Block}
use Rattle.cache.specs.Operations.{block_read, copy_left, block_written, block_evicted}
use Rattle.cache.specs.Tables.{Tables, entries, block_of, with_block}
use Rattle.cache.specs.Calls.{refusal, after, after_read, after_write, after_evict}
use Rattle.cache.proofs.States.{owner-valid, not_valid}
use Rattle.cache.proofs.Placed.{placed-own, placed_same}
use Rattle.cache.proofs.Laws.{with_block_lem}
use Rattle.cache.proofs.Kept.{read_keeps, write_keeps, evict_keeps}

-- what holds of the tables as they were and of those with the operation's block holds after the call
by_call : (P : Tables → Type 0) (t : Tables) (block slot : ℕ) (operation : Block → Block) → P t → P (with_block t block (operation (block_of t block))) → P (after t block slot operation)
unfolding after
by_call P t block slot operation before done = choice P (eqb (refusal t block slot) 0) (λ _. done) (λ _. before)

module _ (t : Tables) (block slot : ℕ) where
  -- a read leaves memory alone, and so does a write
  pub read-memory-kept : (after_read t block slot).memory ≡ t.memory
  unfolding block_read with_block
  read-memory-kept =
      by_call (λ u. u.memory ≡ t.memory) t block slot (λ b. block_read b slot) refl
      (ap (set t.memory block) (choice (λ (b : Block). b.word ≡ get_or t.memory block 0) (valid ((block_of t block).state slot)) (λ _. refl) (λ _. refl)) ∙ set-get_or t.memory block 0)

  pub write_memory-kept : (value : ℕ) → (after_write t block slot value).memory ≡ t.memory
  unfolding block_written with_block
  write_memory-kept value = by_call (λ u. u.memory ≡ t.memory) t block slot (λ b. block_written b slot value) refl (set-get_or t.memory block 0)

  -- a block that is given as it was leaves the tables as they were
  block_kept : (b : Block) → ((k : ℕ) → k < 16 → b.state k ≡ (block_of t block).state k) → ((k : ℕ) → k < 16 → b.copy k ≡ (block_of t block).copy k) → b.word ≡ get_or t.memory block 0 → with_block t block b ≡ t
  block_kept b s c w =
      sym (with_block_lem t.states t.copies t.memory block b t.states t.copies t.memory
      (sym (placed_same t.states (16 * block) b.state (entries t.states (16 * block)) 16 s ∙ placed-own t.states (16 * block) 16))
      (sym (placed_same t.copies (16 * block) b.copy (entries t.copies (16 * block)) 16 c ∙ placed-own t.copies (16 * block) 16))
      (sym (ap (set t.memory block) w ∙ set-get_or t.memory block 0)))

  -- a read by a valid slot changes nothing
  pub read-valid-kept : valid (get_or t.states (16 * block + slot) 0) ≡ true → after_read t block slot ≡ t
  unfolding block_read
  read-valid-kept v =
      by_call (λ u. u ≡ t) t block slot (λ b. block_read b slot) refl
      (ap (with_block t block) (cond-true _ _ v) ∙ block_kept (block_of t block) (λ k _. refl) (λ k _. refl) refl)

  -- evicting an invalid slot changes nothing
  pub evict_invalid-kept : valid (get_or t.states (16 * block + slot) 0) ≡ false → after_evict t block slot ≡ t
  unfolding block_evicted copy_left
  evict_invalid-kept v =
      by_call (λ u. u ≡ t) t block slot (λ b. block_evicted b slot) refl
      (block_kept (block_evicted (block_of t block) slot)
      (λ k _. choice (λ x. x ≡ (block_of t block).state k) (eqb k slot) (λ e. sym (ap (block_of t block).state (eqb-true k slot e) ∙ not_valid _ v)) (λ _. refl))
      (λ k _. choice (λ x. x ≡ (block_of t block).copy k) (eqb k slot) (λ e. cond-false _ _ v ∙ sym (ap (block_of t block).copy (eqb-true k slot e))) (λ _. refl))
      (cond-false _ _ (not-true _ (λ o. true≢false (sym (owner-valid _ o) ∙ v)))))

-- the slots of the named block that an accepted call does not name
module _ (t : Tables) (block slot : ℕ) (ok : refusal t block slot ≡ 0) (k : ℕ) (lt : k < 16) (other : k ≡ slot → ⊥) where
  abbrev at : ℕ
  at = 16 * block + k

  -- a read: another slot keeps its copy, and its state unless it owns
  pub read-copy-kept : get_or (after_read t block slot).copies at 0 ≡ get_or t.copies at 0
  unfolding block_read
  read-copy-kept =
      (read_keeps t block slot ok).itself.copies k lt
      ∙ choice (λ (b : Block). b.copy k ≡ get_or t.copies at 0) (valid ((block_of t block).state slot)) (λ _. refl) (λ _. cond-false _ _ (ne_eqb k slot other))

  pub read-state-kept : owns (get_or t.states at 0) ≡ false → get_or (after_read t block slot).states at 0 ≡ get_or t.states at 0
  unfolding block_read
  read-state-kept o =
      (read_keeps t block slot ok).itself.states k lt
      ∙ choice (λ (b : Block). b.state k ≡ get_or t.states at 0) (valid ((block_of t block).state slot)) (λ _. refl) (λ _. cond-false _ _ (ne_eqb k slot other) ∙ cond-false _ _ o)

  -- a write: another slot that was invalid keeps its copy
  pub write_copy-kept : (value : ℕ) → valid (get_or t.states at 0) ≡ false → get_or (after_write t block slot value).copies at 0 ≡ get_or t.copies at 0
  unfolding block_written copy_left
  write_copy-kept value v = (write_keeps t block slot value ok).itself.copies k lt ∙ cond-false _ _ (ne_eqb k slot other) ∙ cond-false _ _ v

  -- an evict: another slot keeps its state and its copy
  pub evict_state-kept : get_or (after_evict t block slot).states at 0 ≡ get_or t.states at 0
  unfolding block_evicted
  evict_state-kept = (evict_keeps t block slot ok).itself.states k lt ∙ cond-false _ _ (ne_eqb k slot other)

  pub evict_copy-kept : get_or (after_evict t block slot).copies at 0 ≡ get_or t.copies at 0
  unfolding block_evicted
  evict_copy-kept = (evict_keeps t block slot ok).itself.copies k lt ∙ cond-false _ _ (ne_eqb k slot other)
