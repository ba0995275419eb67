-- Laws of a table with the entries of one block placed. Assumes nothing.
use Prim.Native.Nat.{ℕ, zero, suc, ◌+◌, ◌≤◌, ◌<◌}
use mathlib.Core.Bool.{Bool, true, false, cond}
use mathlib.Core.List.{List}
use mathlib.Core.Path.{◌≡◌, refl, sym, ap, subst, ◌∙◌}
use native.Mathlib.Omega.{arith}
use native.Mathlib.Numerals.{add-one}
use borrow.Author.Tests.{eqb-true, eqb-false, ne_eqb}
use lib.Dec.{eqb}
use lib.ListN.{length, get_or, set, length-set}
use lib.Seq.{get_or-set_same, get_or-set_other, set-get_or, set-set, set_comm}
use Rattle.basics.proofs.Bools.{cond-true, cond-false, by-test}
use Rattle.cache.specs.Tables.{entries, placed}

module _ (l : List ℕ) (base : ℕ) where
  pub placed-length : (f : ℕ → ℕ) (n : ℕ) → length (placed l base f n) ≡ length l
  unfolding placed
  placed-length f zero = refl
  placed-length f (suc n) = simp length-set (placed-length f n)

  pub placed-none : (f : ℕ → ℕ) → l ≡ placed l base f 0
  unfolding placed
  placed-none f = refl

  -- an entry that none is placed at is as it was
  pub placed_out : (f : ℕ → ℕ) (n j : ℕ) → ((k : ℕ) → k < n → j ≡ base + k → ⊥) → get_or (placed l base f n) j 0 ≡ get_or l j 0
  unfolding placed
  placed_out f zero j out = refl
  placed_out f (suc n) j out =
      get_or-set_other (placed l base f n) (base + n) j (f n) 0 (out n (omega arith)) ∙ placed_out f n j (λ k h. out k (omega arith))

  -- the next entry still holds what it held
  pub placed-next : (f : ℕ → ℕ) (n : ℕ) → get_or (placed l base f n) (base + n) 0 ≡ entries l base n
  placed-next f n = placed_out f n (base + n) (λ k h (e : base + n ≡ base + k). omega arith)

  -- one entry more, as the code has it
  pub placed-more : (f : ℕ → ℕ) (n v : ℕ) (now : List ℕ) → now ≡ placed l base f n → v ≡ f n → set now (base + n) v ≡ placed l base f (n + 1)
  unfolding placed
  placed-more f n v now e h = ap (λ (x : List ℕ). set x (base + n) v) e ∙ ap (set (placed l base f n) (base + n)) h ∙ ap (placed l base f) (sym (add-one n))

  -- an entry that is placed
  pub placed_at : (f : ℕ → ℕ) (n k : ℕ) → base + n ≤ length l → k < n → get_or (placed l base f n) (base + k) 0 ≡ f k
  unfolding placed
  placed_at f zero k fits h = absurd (omega arith)
  placed_at f (suc n) k fits h =
      by-test (eqb k n)
      (λ e. let q = eqb-true k n e in
      subst (λ (i : ℕ). get_or (placed l base f (suc n)) (base + i) 0 ≡ f i) (sym q)
      (get_or-set_same (placed l base f n) (base + n) (f n) 0 (let z = placed-length f n in omega arith)))
      (λ e. let q = eqb-false k n e in
      get_or-set_other (placed l base f n) (base + n) (base + k) (f n) 0 (λ (i : base + k ≡ base + n). q (omega arith)) ∙ placed_at f n k (omega arith) (let z : k ≡ n → ⊥ = q in omega arith))

  pub placed_same : (f g : ℕ → ℕ) (n : ℕ) → ((k : ℕ) → k < n → f k ≡ g k) → placed l base f n ≡ placed l base g n
  unfolding placed
  placed_same f g zero h = refl
  placed_same f g (suc n) h =
      ap (λ (x : List ℕ). set x (base + n) (f n)) (placed_same f g n (λ k lt. h k (omega arith))) ∙ ap (set (placed l base g n) (base + n)) (h n (omega arith))

  -- a table with its own entries placed is the table
  pub placed-own : (n : ℕ) → placed l base (entries l base) n ≡ l
  unfolding placed
  placed-own zero = refl
  placed-own (suc n) = ap (λ (x : List ℕ). set x (base + n) (entries l base n)) (placed-own n) ∙ set-get_or l (base + n) 0

  -- one entry given anew
  abbrev over : (ℕ → ℕ) → ℕ → ℕ → ℕ → ℕ
  over f i v k = cond (eqb k i) v (f k)

  -- one entry stored over those that are placed
  pub placed_set : (f : ℕ → ℕ) (i v n : ℕ) → i < n → set (placed l base f n) (base + i) v ≡ placed l base (λ k. cond (eqb k i) v (f k)) n
  unfolding placed
  placed_set f i v zero h = absurd (omega arith)
  placed_set f i v (suc n) h = by-test (eqb n i) last (earlier (placed_set f i v n))
    where
      last : eqb n i ≡ true → set (set (placed l base f n) (base + n) (f n)) (base + i) v ≡ set (placed l base (over f i v) n) (base + n) (over f i v n)
      last e =
          let q = eqb-true n i e in
          ap (λ (x : ℕ). set (set (placed l base f n) (base + n) (f n)) (base + x) v) (sym q)
          ∙ set-set (placed l base f n) (base + n) (f n) v
          ∙ ap (λ (x : List ℕ). set x (base + n) v) (placed_same f (over f i v) n (λ k lt. sym (cond-false _ _ (ne_eqb k i (λ (z : k ≡ i). omega arith)))))
          ∙ ap (set (placed l base (over f i v) n) (base + n)) (sym (cond-true _ _ e))

      earlier : (i < n → set (placed l base f n) (base + i) v ≡ placed l base (over f i v) n) → eqb n i ≡ false → set (set (placed l base f n) (base + n) (f n)) (base + i) v ≡ set (placed l base (over f i v) n) (base + n) (over f i v n)
      earlier rec e =
          let q = eqb-false n i e in
          set_comm (placed l base f n) (base + n) (base + i) (f n) v (λ (z : base + n ≡ base + i). q (omega arith))
          ∙ ap (λ (x : List ℕ). set x (base + n) (f n)) (rec (let z : n ≡ i → ⊥ = q in omega arith))
          ∙ ap (set (placed l base (over f i v) n) (base + n)) (sym (cond-false _ _ e))

  -- one entry stored
  pub placed_one : (i v : ℕ) → i < 16 → set l (base + i) v ≡ placed l base (λ k. cond (eqb k i) v (entries l base k)) 16
  placed_one i v h = ap (λ (x : List ℕ). set x (base + i) v) (sym (placed-own 16)) ∙ placed_set (entries l base) i v 16 h

-- a word that is chosen to be what it was leaves memory as it was
pub memory_kept : (memory : List ℕ) (block copy : ℕ) (t : Bool) → t ≡ false → memory ≡ set memory block (cond t copy (get_or memory block 0))
memory_kept memory block copy t e = sym (ap (set memory block) (cond-false _ _ e) ∙ set-get_or memory block 0)
