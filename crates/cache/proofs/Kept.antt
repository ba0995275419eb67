-- Every accepted call leaves its block coherent and every other block as it was (`read_keeps`, `write_keeps`, `evict_keeps`), so coherent
-- tables stay coherent, whatever is called (`read_stays`, `write_stays`, `evict_stays`).
use Prim.Native.Nat.{ℕ, ◌+◌, ◌*◌, ◌≤◌, ◌<◌}
use mathlib.Core.Bool.{true≢false}
use mathlib.Core.Path.{◌≡◌, refl, sym, ap, subst, ◌∙◌}
use native.Mathlib.Omega.{arith}
use borrow.Author.Tests.{eqb-true, eqb-false}
use lib.Dec.{eqb}
use lib.ListN.{length, get_or, length-set}
use lib.Seq.{get_or-set_same, get_or-set_other}
use Rattle.basics.proofs.Bools.{by-test}
use Rattle.cache.specs.States.{invalid, legal, valid, private, owns}
use Rattle.cache.specs.Block.{Block, Coherent}
use Rattle.cache.specs.Operations.{block_read, block_written, block_evicted}
use Rattle.cache.specs.Tables.{Tables, block_of, with_block}
use Rattle.cache.specs.Calls.{refusal, after, after_read, after_write, after_evict}
use Rattle.cache.specs.Kept.{Same, Keeps, AllCoherent}
use Rattle.cache.proofs.States.{is_invalid}
use Rattle.cache.proofs.Coherence.{coherent_by}
use Rattle.cache.proofs.Placed.{placed-length, placed_at, placed_out}
use Rattle.cache.proofs.Refusals.{accepted-says, after-accepted, after-refused}
use Rattle.cache.proofs.Operations.{read-coherent, write_coherent, evict_coherent}

-- a block that holds what a coherent one holds is coherent
pub same-coherent : (a b : Block) → Same a b → Coherent b → Coherent a
same-coherent a b s h =
    record {
      within = λ k l. ap legal (s.states k l) ∙ h.within k l;
      single = λ i k hi hk oi ok. h.single i k hi hk (sym (ap owns (s.states i hi)) ∙ oi) (sym (ap owns (s.states k hk)) ∙ ok);
      alone = λ i k hi hk p ne. s.states k hk ∙ h.alone i k hi hk (sym (ap private (s.states i hi)) ∙ p) ne;
      equal = λ i k hi hk vi vk. s.copies i hi ∙ h.equal i k hi hk (sym (ap valid (s.states i hi)) ∙ vi) (sym (ap valid (s.states k hk)) ∙ vk) ∙ sym (s.copies k hk);
      memory = λ none i hi vi. s.copies i hi ∙ h.memory (λ k l. sym (ap owns (s.states k l)) ∙ none k l) i hi (sym (ap valid (s.states i hi)) ∙ vi) ∙ sym s.word;
    }

module _ (t : Tables) (n : ℕ) (b : Block) where
  block_itself : 16 * n + 16 ≤ length t.states → 16 * n + 16 ≤ length t.copies → n < length t.memory → Same (block_of (with_block t n b) n) b
  unfolding with_block
  block_itself s c m =
      record {
        states = λ k l. placed_at t.states (16 * n) b.state 16 k s l;
        copies = λ k l. placed_at t.copies (16 * n) b.copy 16 k c l;
        word = get_or-set_same t.memory n b.word 0 m;
      }

  block_other : (m : ℕ) → (m ≡ n → ⊥) → Same (block_of (with_block t n b) m) (block_of t m)
  unfolding with_block
  block_other m ne =
      record {
        states = λ k l. placed_out t.states (16 * n) b.state 16 (16 * m + k) (λ i h (e : 16 * m + k ≡ 16 * n + i). ne (omega arith));
        copies = λ k l. placed_out t.copies (16 * n) b.copy 16 (16 * m + k) (λ i h (e : 16 * m + k ≡ 16 * n + i). ne (omega arith));
        word = get_or-set_other t.memory n m b.word 0 ne;
      }

  block_keeps : Coherent b → 16 * n + 16 ≤ length t.states → 16 * n + 16 ≤ length t.copies → n < length t.memory → Keeps t n b (with_block t n b)
  unfolding with_block
  block_keeps h s c m =
      record {
        coherent = same-coherent (block_of (with_block t n b) n) b (block_itself s c m) h;
        itself = block_itself s c m;
        others = block_other;
        states-length = placed-length t.states (16 * n) b.state 16;
        copies_length = placed-length t.copies (16 * n) b.copy 16;
        memory-length = length-set t.memory n b.word;
      }

-- of any operation that leaves a coherent block coherent
module _ (t : Tables) (block slot : ℕ) (operation : Block → Block) (sane : (b : Block) → Coherent b → slot < 16 → Coherent (operation b)) where
  pub after_keeps : refusal t block slot ≡ 0 → Keeps t block (operation (block_of t block)) (after t block slot operation)
  after_keeps e =
      let a = accepted-says t block slot e in
      let f = a.sizes in
      subst (Keeps t block (operation (block_of t block))) (sym (after-accepted t block slot operation e))
      (block_keeps t block (operation (block_of t block)) (sane (block_of t block) a.sane a.narrow) (omega arith) (omega arith) a.inside)

  pub after-stays : AllCoherent t → AllCoherent (after t block slot operation)
  after-stays all n lt =
      by-test (eqb (refusal t block slot) 0)
      (λ e. let k = after_keeps (eqb-true (refusal t block slot) 0 e) in
      by-test (eqb n block)
      (λ q. subst (λ (m : ℕ). Coherent (block_of (after t block slot operation) m)) (sym (eqb-true n block q)) k.coherent)
      (λ q. same-coherent _ _ (k.others n (eqb-false n block q)) (all n (let z = k.memory-length in omega arith))))
      (λ e. let q = after-refused t block slot operation (eqb-false (refusal t block slot) 0 e) in
      subst (λ (u : Tables). Coherent (block_of u n)) (sym q) (all n (subst (λ (u : Tables). n < length u.memory) q lt)))

module _ (t : Tables) (block slot : ℕ) where
  pub read_keeps : refusal t block slot ≡ 0 → Keeps t block (block_read (block_of t block) slot) (after_read t block slot)
  read_keeps = after_keeps t block slot (λ b. block_read b slot) (λ b h. read-coherent b h slot)

  pub write_keeps : (value : ℕ) → refusal t block slot ≡ 0 → Keeps t block (block_written (block_of t block) slot value) (after_write t block slot value)
  write_keeps value = after_keeps t block slot (λ b. block_written b slot value) (λ b h. write_coherent b slot value)

  pub evict_keeps : refusal t block slot ≡ 0 → Keeps t block (block_evicted (block_of t block) slot) (after_evict t block slot)
  evict_keeps = after_keeps t block slot (λ b. block_evicted b slot) (λ b h. evict_coherent b h slot)

  pub read_stays : AllCoherent t → AllCoherent (after_read t block slot)
  read_stays = after-stays t block slot (λ b. block_read b slot) (λ b h. read-coherent b h slot)

  pub write_stays : (value : ℕ) → AllCoherent t → AllCoherent (after_write t block slot value)
  write_stays value = after-stays t block slot (λ b. block_written b slot value) (λ b h. write_coherent b slot value)

  pub evict_stays : AllCoherent t → AllCoherent (after_evict t block slot)
  evict_stays = after-stays t block slot (λ b. block_evicted b slot) (λ b h. evict_coherent b h slot)

-- tables whose slots are all invalid are coherent, whatever memory and the copies hold
pub invalid-coherent : (t : Tables) → ((j : ℕ) → get_or t.states j 0 ≡ invalid) → AllCoherent t
invalid-coherent t none n lt =
    coherent_by (block_of t n) (get_or t.memory n 0)
    (λ k _. ap legal (none (16 * n + k)) ∙ is_invalid.known)
    (λ i k _ _ o _. absurd (true≢false (sym o ∙ ap owns (none (16 * n + i)) ∙ is_invalid.ownership)))
    (λ i k _ _ _ _. none (16 * n + k))
    (λ k _ v. absurd (true≢false (sym v ∙ ap valid (none (16 * n + k)) ∙ is_invalid.validity)))
    (λ _. refl)
