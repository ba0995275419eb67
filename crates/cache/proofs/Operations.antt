-- Each operation leaves a coherent block coherent.
use Prim.Native.Nat.{ℕ, ◌<◌}
use mathlib.Core.Bool.{Bool, true, false, cond, true≢false}
use mathlib.Core.Path.{◌≡◌, refl, sym, subst, ◌∙◌}
use borrow.Author.Tests.{eqb-true, eq-eqb}
use lib.Dec.{eqb}
use Rattle.basics.proofs.Bools.{choice, by-test, cond-true, cond-false, not-true}
use Rattle.cache.specs.States.{invalid, owned_private, legal, valid, private, owns}
use Rattle.cache.specs.Block.{Block, Coherent, supplied}
use Rattle.cache.specs.Operations.{block_fetched, block_read, block_written, block_evicted}
use Rattle.cache.proofs.States.{is_invalid, is_unowned, is_shared, is_private, private-owns, owner-valid}
use Rattle.cache.proofs.Coherence.{coherent_by, memory_supplies, holds-supplied}

-- what is true and false at once
clash : {t : Bool} {P : Type 0} → t ≡ true → t ≡ false → P
clash y n = absurd (true≢false (sym y ∙ n))

-- an invalid slot reads
module _ (b : Block) (h : Coherent b) (reader : ℕ) (lt : reader < 16) (gone : valid (b.state reader) ≡ false) where
  abbrev now : ℕ → ℕ
  now k = (block_fetched b reader).state k

  known : (k : ℕ) → k < 16 → legal (now k) ≡ true
  known k l =
      choice (λ x. legal x ≡ true) (eqb k reader) (λ _. is_unowned.known) (λ _.
      choice (λ x. legal x ≡ true) (owns (b.state k)) (λ _. is_shared.known) (λ _. h.within k l))

  owned : (k : ℕ) → owns (now k) ≡ true → owns (b.state k) ≡ true
  owned k =
      choice (λ x. owns x ≡ true → owns (b.state k) ≡ true) (eqb k reader) (λ _ o. clash o is_unowned.ownership) (λ _.
      choice (λ x. owns x ≡ true → owns (b.state k) ≡ true) (owns (b.state k)) (λ e _. e) (λ _ o. o))

  shared : (k : ℕ) → private (now k) ≡ true → ⊥
  shared k =
      choice (λ x. private x ≡ true → ⊥) (eqb k reader) (λ _ p. clash p is_unowned.privacy) (λ _.
      choice (λ x. private x ≡ true → ⊥) (owns (b.state k)) (λ _ p. clash p is_shared.privacy) (λ e p. clash (private-owns _ p) e))

  was_valid : (k : ℕ) → eqb k reader ≡ false → valid (now k) ≡ true → valid (b.state k) ≡ true
  was_valid k other =
      choice (λ x. valid x ≡ true → valid (b.state k) ≡ true) (eqb k reader) (λ e _. clash e other) (λ _.
      choice (λ x. valid x ≡ true → valid (b.state k) ≡ true) (owns (b.state k)) (λ o _. owner-valid _ o) (λ _ v. v))

  holds : (k : ℕ) → k < 16 → valid (now k) ≡ true → (block_fetched b reader).copy k ≡ supplied b
  holds k l v =
      by-test (eqb k reader)
      (λ e. cond-true _ _ e)
      (λ e. cond-false _ _ e ∙ holds-supplied b h k l (was_valid k e v))

  still : (k : ℕ) → owns (b.state k) ≡ true → owns (now k) ≡ true
  still k o =
      choice (λ x. owns x ≡ true) (eqb k reader)
      (λ e. clash (owner-valid _ (subst (λ (i : ℕ). owns (b.state i) ≡ true) (eqb-true k reader e) o)) gone)
      (λ _. choice (λ x. owns x ≡ true) (owns (b.state k)) (λ _. is_shared.ownership) (λ e. clash o e))

  fetch_coherent : Coherent (block_fetched b reader)
  fetch_coherent =
      coherent_by (block_fetched b reader) (supplied b) known
      (λ i k hi hk oi ok. h.single i k hi hk (owned i oi) (owned k ok))
      (λ i k _ _ p _. absurd (shared i p))
      holds
      (λ none. memory_supplies b (λ k l. not-true _ (λ o. clash (still k o) (none k l))))

pub read-coherent : (b : Block) → Coherent b → (reader : ℕ) → reader < 16 → Coherent (block_read b reader)
unfolding block_read
read-coherent b h reader lt = choice Coherent (valid (b.state reader)) (λ _. h) (λ e. fetch_coherent b h reader lt e)

-- a write makes any block coherent
module _ (b : Block) (writer value : ℕ) (lt : writer < 16) where
  abbrev new : ℕ → ℕ
  new k = cond (eqb k writer) owned_private invalid

  alone : (k : ℕ) → owns (new k) ≡ true → k ≡ writer
  alone k = choice (λ x. owns x ≡ true → k ≡ writer) (eqb k writer) (λ e _. eqb-true k writer e) (λ _ o. clash o is_invalid.ownership)

  given : (t : Bool) (left : ℕ) → valid (cond t owned_private invalid) ≡ true → cond t value left ≡ value
  given true left v = refl
  given false left v = clash v is_invalid.validity

  pub write_coherent : Coherent (block_written b writer value)
  unfolding block_written
  write_coherent =
      coherent_by (block_written b writer value) value
      (λ k _. choice (λ x. legal x ≡ true) (eqb k writer) (λ _. is_private.known) (λ _. is_invalid.known))
      (λ i k _ _ oi ok. alone i oi ∙ sym (alone k ok))
      (λ i k _ _ p ne. choice (λ x. x ≡ invalid) (eqb k writer) (λ e. absurd (ne (alone i (private-owns _ p) ∙ sym (eqb-true k writer e)))) (λ _. refl))
      (λ k _. given (eqb k writer) _)
      (λ none. clash (subst (λ (t : Bool). owns (cond t owned_private invalid) ≡ true) (sym (eq-eqb writer writer refl)) is_private.ownership) (none writer lt))

-- a slot is evicted
module _ (b : Block) (h : Coherent b) (slot : ℕ) (lt : slot < 16) where
  abbrev left : ℕ → ℕ
  left k = cond (eqb k slot) invalid (b.state k)

  owner_left : (k : ℕ) → owns (left k) ≡ true → owns (b.state k) ≡ true
  owner_left k = choice (λ x. owns x ≡ true → owns (b.state k) ≡ true) (eqb k slot) (λ _ o. clash o is_invalid.ownership) (λ _ o. o)

  private_left : (k : ℕ) → private (left k) ≡ true → private (b.state k) ≡ true
  private_left k = choice (λ x. private x ≡ true → private (b.state k) ≡ true) (eqb k slot) (λ _ p. clash p is_invalid.privacy) (λ _ p. p)

  kept : (t : Bool) (state copy gone : ℕ) → valid (cond t invalid state) ≡ true → (valid state ≡ true) × (cond t gone copy ≡ copy)
  kept true state copy gone v = clash v is_invalid.validity
  kept false state copy gone v = (v, refl)

  remains : (k : ℕ) → owns (b.state slot) ≡ false → owns (b.state k) ≡ true → owns (left k) ≡ true
  remains k n o =
      choice (λ x. owns x ≡ true) (eqb k slot) (λ e. clash (subst (λ (i : ℕ). owns (b.state i) ≡ true) (eqb-true k slot e) o) n) (λ _. o)

  pub evict_coherent : Coherent (block_evicted b slot)
  unfolding block_evicted
  evict_coherent =
      coherent_by (block_evicted b slot) (supplied b)
      (λ k l. choice (λ x. legal x ≡ true) (eqb k slot) (λ _. is_invalid.known) (λ _. h.within k l))
      (λ i k hi hk oi ok. h.single i k hi hk (owner_left i oi) (owner_left k ok))
      (λ i k hi hk p ne. choice (λ x. x ≡ invalid) (eqb k slot) (λ _. refl) (λ _. h.alone i k hi hk (private_left i p) ne))
      (λ k l v. let both = kept (eqb k slot) (b.state k) (b.copy k) _ v in both.1 ∙ holds-supplied b h k l both.0)
      (λ none. choice (λ x. supplied b ≡ x) (owns (b.state slot))
      (λ o. sym (holds-supplied b h slot lt (owner-valid _ o)))
      (λ n. memory_supplies b (λ k l. not-true _ (λ o. clash (remains k n o) (none k l)))))
