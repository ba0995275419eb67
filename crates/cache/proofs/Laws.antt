-- What the functions' proofs cite: each law says of plain values what one function's code does.
use Prim.Native.Nat.{ℕ, ◌+◌, ◌*◌, ◌<◌}
use mathlib.Core.Bool.{Bool, true, false, cond, ◌&&◌}
use mathlib.Core.List.{List}
use mathlib.Core.Path.{◌≡◌, refl, sym, ap, ◌∙◌}
use native.Mathlib.Omega.{arith}
use borrow.Author.Tests.{eq-eqb, ne_eqb, ltb-true, ltb-false}
use lib.Dec.{eqb, ltb}
use lib.ListN.{get_or, set}
use lib.Seq.{set-get_or}
use Rattle.std.specs.Prelude.{Result, Ok, Err}
use Rattle.basics.specs.Answers.{accepted, refused, refusal_number, call_number}
use Rattle.basics.specs.declared.refusal.Refusal.{Refusal}
use Rattle.basics.proofs.Refusals.{some_number}
use Rattle.basics.proofs.Bools.{cond-true, cond-false, by-test, push}
use Rattle.cache.specs.States.{invalid, unowned, owned_shared, valid, private, owns}
use Rattle.cache.specs.Block.{Block, owner_below, owner, supplied, guarded, all_sound, coherent}
use Rattle.cache.specs.Operations.{value_read, block_fetched, block_read, copy_left, block_written, block_evicted}
use Rattle.cache.specs.Tables.{Tables, tables, entries, block_at, block_of, placed, with_block}
use Rattle.cache.specs.Calls.{refusal, after, read_of, after_read, after_write, after_evict}
use Rattle.cache.proofs.Placed.{placed_same, placed-own, placed_set, placed_one}
use Rattle.cache.proofs.Coherence.{coherent-says, owns-owner}
use Rattle.cache.proofs.Refusals.{Accepted, accepted-says, after-accepted, after-refused}

-- ---- is_coherent
pub coherent-found : (b : Block) (o v : ℕ) (h r : Bool) → o ≡ owner b → v ≡ cond (ltb o 16) (b.copy o) b.word → h ≡ (ltb o 16 && private (b.state o)) → r ≡ all_sound b.state b.copy o h v 16 → r ≡ coherent b
unfolding coherent supplied guarded
coherent-found b o v h r eo ev eh er =
    er
    ∙ ap (λ (x : ℕ). all_sound b.state b.copy x h v 16) eo
    ∙ ap (λ (x : Bool). all_sound b.state b.copy (owner b) x v 16) (eh ∙ ap (λ (x : ℕ). ltb x 16 && private (b.state x)) eo)
    ∙ ap (λ (x : ℕ). all_sound b.state b.copy (owner b) (guarded b) x 16) (ev ∙ ap (λ (x : ℕ). cond (ltb x 16) (b.copy x) b.word) eo)

-- ---- read_block
module _ (s c : List ℕ) (base slot word : ℕ) where
  abbrev blk : Block
  blk = block_at s c base word

  -- one entry stored, or none
  stored : (o v : ℕ) → cond (ltb o 16) (set s (base + o) v) s ≡ placed s base (λ k. cond (eqb k o) v (entries s base k)) 16
  stored o v =
      by-test (ltb o 16)
      (λ e. cond-true _ _ e ∙ placed_one s base o v (ltb-true o 16 e))
      (λ e. cond-false _ _ e ∙ sym (placed-own s base 16) ∙ placed_same s base (entries s base) (λ k. cond (eqb k o) v (entries s base k)) 16 (λ k h. sym (cond-false _ _ (ne_eqb k o (λ (q : k ≡ o). let z = ltb-false o 16 e in omega arith)))))

  pub read-valid : slot < 16 → valid (entries s base slot) ≡ true → (entries c base slot ≡ value_read blk slot) × ((s ≡ placed s base (block_read blk slot).state 16) × (c ≡ placed c base (block_read blk slot).copy 16))
  unfolding value_read block_read
  read-valid lt v = (
    sym (cond-true _ _ v),
    (
      sym (ap (λ (f : ℕ → ℕ). placed s base f 16) (ap (λ (b : Block). b.state) (cond-true blk (block_fetched blk slot) v)) ∙ placed-own s base 16),
      sym (ap (λ (f : ℕ → ℕ). placed c base f 16) (ap (λ (b : Block). b.copy) (cond-true blk (block_fetched blk slot) v)) ∙ placed-own c base 16),
    ),
  )

  pub read-invalid : (o v : ℕ) (s₁ : List ℕ) → coherent blk ≡ true → slot < 16 → valid (entries s base slot) ≡ false → o ≡ owner_below (entries s base) 16 → v ≡ cond (ltb o 16) (entries c base o) word → s₁ ≡ cond (ltb o 16) (set s (base + o) owned_shared) s
      → (v ≡ value_read blk slot) × ((set s₁ (base + slot) unowned ≡ placed s base (block_read blk slot).state 16) × (set c (base + slot) v ≡ placed c base (block_read blk slot).copy 16))
  unfolding value_read block_read supplied
  read-invalid o v s₁ whole lt inv eo ev es =
      let value : v ≡ supplied blk = ev ∙ ap (λ (x : ℕ). cond (ltb x 16) (entries c base x) word) eo in
      let shared : s₁ ≡ placed s base (λ k. cond (owns (entries s base k)) owned_shared (entries s base k)) 16 =
      es ∙ stored o owned_shared
      ∙ placed_same s base (λ k. cond (eqb k o) owned_shared (entries s base k)) (λ k. cond (owns (entries s base k)) owned_shared (entries s base k)) 16
      (λ k h. ap (λ (t : Bool). cond t owned_shared (entries s base k)) (ap (eqb k) eo ∙ sym (owns-owner blk (coherent-says blk whole) k h))) in (
        value ∙ sym (cond-false _ _ inv),
        (
          ap (λ (x : List ℕ). set x (base + slot) unowned) shared
              ∙ placed_set s base (λ k. cond (owns (entries s base k)) owned_shared (entries s base k)) slot unowned 16 lt
              ∙ sym (ap (λ (f : ℕ → ℕ). placed s base f 16) (ap (λ (b : Block). b.state) (cond-false blk (block_fetched blk slot) inv))),
          ap (set c (base + slot)) value
              ∙ placed_one c base slot (supplied blk) lt
              ∙ sym (ap (λ (f : ℕ → ℕ). placed c base f 16) (ap (λ (b : Block). b.copy) (cond-false blk (block_fetched blk slot) inv))),
        ),
      )

-- ---- the calls
unnumbered : (why : Refusal) → refusal_number why ≡ 0 → ⊥
unnumbered why e = omega (arith, some_number why)

module _ (t : Tables) (block slot : ℕ) (r : Result (Unit {0}) Refusal) (is : call_number r ≡ refusal t block slot) where
  pub call_done : r ≡ Ok tt → refusal t block slot ≡ 0
  call_done e = sym is ∙ ap call_number e

  pub call_accepted : r ≡ Ok tt → Accepted t block slot
  call_accepted e = accepted-says t block slot (call_done e)

  pub call_refused : (why : Refusal) → r ≡ Err why → refusal_number why ≡ refusal t block slot
  call_refused why e = ap call_number (sym e) ∙ is

  pub call_unchanged : (operation : Block → Block) (why : Refusal) → r ≡ Err why → t ≡ after t block slot operation
  call_unchanged operation why e = sym (after-refused t block slot operation (λ z. unnumbered why (call_refused why e ∙ z)))

  pub read-refused : (why : Refusal) → r ≡ Err why → refused (refusal_number why) 0 ≡ read_of t block slot
  unfolding read_of
  read-refused why e =
      ap (λ (n : ℕ). refused n 0) (call_refused why e)
      ∙ sym (cond-false (accepted (value_read (block_of t block) slot)) (refused (refusal t block slot) 0) (ne_eqb (refusal t block slot) 0 (λ z. unnumbered why (call_refused why e ∙ z))))

-- tables given list by list
pub with_block_lem : (s c m : List ℕ) (block : ℕ) (b : Block) (s' c' m' : List ℕ) → s' ≡ placed s (16 * block) b.state 16 → c' ≡ placed c (16 * block) b.copy 16 → m' ≡ set m block b.word → tables s' c' m' ≡ with_block (tables s c m) block b
unfolding with_block
with_block_lem s c m block b s' c' m' es ec em =
    ap (λ (x : List ℕ). tables x c' m') es
    ∙ ap (λ (x : List ℕ). tables (placed s (16 * block) b.state 16) x m') ec
    ∙ ap (λ (x : List ℕ). tables (placed s (16 * block) b.state 16) (placed c (16 * block) b.copy 16) x) em

module _ (s c m : List ℕ) (block slot : ℕ) (r : Result (Unit {0}) Refusal) (is : call_number r ≡ refusal (tables s c m) block slot) (done : r ≡ Ok tt) where
  abbrev own : Block
  own = block_of (tables s c m) block

  pub read_done : (x : ℕ) (s' c' : List ℕ) → x ≡ value_read own slot → s' ≡ placed s (16 * block) (block_read own slot).state 16 → c' ≡ placed c (16 * block) (block_read own slot).copy 16
      → (accepted x ≡ read_of (tables s c m) block slot) × (tables s' c' m ≡ after_read (tables s c m) block slot)
  unfolding read_of block_read
  read_done x s' c' ex es ec =
      let e = call_done (tables s c m) block slot r is done in
      let word : (block_read own slot).word ≡ get_or m block 0 = push (λ (b : Block). b.word) (valid (own.state slot)) own (block_fetched own slot) ∙ same (valid (own.state slot)) in (
        ap (λ (v : ℕ). accepted v) ex ∙ sym (cond-true (accepted (value_read own slot)) (refused (refusal (tables s c m) block slot) 0) (eq-eqb (refusal (tables s c m) block slot) 0 e)),
        with_block_lem s c m block (block_read own slot) s' c' m es ec (sym (ap (set m block) word ∙ set-get_or m block 0)) ∙ sym (after-accepted (tables s c m) block slot (λ b. block_read b slot) e),
      )
    where
      same : (t : Bool) → cond t (get_or m block 0) (get_or m block 0) ≡ get_or m block 0
      same true = refl
      same false = refl

  pub write_done : (value : ℕ) (s' c' : List ℕ) → s' ≡ placed s (16 * block) (block_written (block_at s c (16 * block) 0) slot value).state 16 → c' ≡ placed c (16 * block) (block_written (block_at s c (16 * block) 0) slot value).copy 16
      → tables s' c' m ≡ after_write (tables s c m) block slot value
  unfolding block_written
  write_done value s' c' es ec =
      with_block_lem s c m block (block_written own slot value) s' c' m es ec (sym (set-get_or m block 0)) ∙ sym (after-accepted (tables s c m) block slot (λ b. block_written b slot value) (call_done (tables s c m) block slot r is done))

  pub evict_done : (left : ℕ) (m' : List ℕ) → slot < 16 → m' ≡ set m block (cond (owns (entries s (16 * block) slot)) (entries c (16 * block) slot) (get_or m block 0)) → left ≡ copy_left (entries s (16 * block) slot) (entries c (16 * block) slot)
      → tables (set s (16 * block + slot) invalid) (set c (16 * block + slot) left) m' ≡ after_evict (tables s c m) block slot
  unfolding block_evicted
  evict_done left m' lt em el =
      with_block_lem s c m block (block_evicted own slot) _ _ m' (placed_one s (16 * block) slot invalid lt) (ap (set c (16 * block + slot)) el ∙ placed_one c (16 * block) slot _ lt) em
      ∙ sym (after-accepted (tables s c m) block slot (λ b. block_evicted b slot) (call_done (tables s c m) block slot r is done))
