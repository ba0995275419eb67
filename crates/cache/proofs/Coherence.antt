-- The test `coherent` passes exactly the blocks that are `Coherent`: `coherent-says` and `coherent_test`.
use Prim.Native.Nat.{ℕ, zero, suc, ◌<◌}
use mathlib.Core.Bool.{Bool, true, false, cond, ◌&&◌, true≢false}
use mathlib.Core.Path.{◌≡◌, refl, sym, ap, subst, ◌∙◌}
use native.Mathlib.Omega.{arith}
use borrow.Author.Tests.{eqb-true, eqb-false, eq-eqb, ne_eqb, lt-ltb, le-ltb, ltb-true}
use lib.Dec.{eqb, ltb}
use Rattle.basics.proofs.Bools.{choice, by-test, cond-true, cond-false, and_both, both_and, not-true, implied, implying}
use Rattle.cache.specs.States.{invalid, legal, valid, private, owns}
use Rattle.basics.specs.Order.{implies}
use Rattle.cache.specs.Block.{Block, Coherent, owner_below, owner, supplied, guarded, sound, every, coherent}
use Rattle.cache.proofs.States.{is_invalid, private-owns, owner-valid, not_valid}

-- ---- every
pub every-says : (p : ℕ → Bool) (n : ℕ) → every p n ≡ true → (k : ℕ) → k < n → p k ≡ true
unfolding every
every-says p zero e k h = absurd (omega arith)
every-says p (suc n) e k h =
    let both = and_both (every p n) (p n) e in
    by-test (eqb k n)
    (λ q. subst (λ (i : ℕ). p i ≡ true) (sym (eqb-true k n q)) both.1)
    (λ q. every-says p n both.0 k (let z : k ≡ n → ⊥ = eqb-false k n q in omega arith))

pub every_test : (p : ℕ → Bool) (n : ℕ) → ((k : ℕ) → k < n → p k ≡ true) → every p n ≡ true
unfolding every
every_test p zero f = refl
every_test p (suc n) f = both_and _ _ (every_test p n (λ k h. f k (omega arith))) (f n (omega arith))

-- ---- the owner
data Owned (state : ℕ → ℕ) (n o : ℕ) : Type 0 where
  by : o < n → owns (state o) ≡ true → Owned state n o
  none : o ≡ 16 → ((k : ℕ) → k < n → owns (state k) ≡ false) → Owned state n o

owned : (state : ℕ → ℕ) (n : ℕ) → Owned state n (owner_below state n)
unfolding owner_below
owned state zero = none refl (λ k h. absurd (omega arith))
owned state (suc n) = choice (λ o. Owned state (suc n) o) (owns (state n)) (λ e. by (omega arith) e) (λ e. more e (owned state n))
  where
    more : owns (state n) ≡ false → Owned state n (owner_below state n) → Owned state (suc n) (owner_below state n)
    more e (by h o) = by (omega arith) o
    more e (none q f) =
        none q (λ k h. by-test (eqb k n)
        (λ i. subst (λ (x : ℕ). owns (state x) ≡ false) (sym (eqb-true k n i)) e)
        (λ i. f k (let z : k ≡ n → ⊥ = eqb-false k n i in omega arith)))

-- ---- one slot's test
record Sound (state copy : ℕ) (itself held : Bool) (value : ℕ) : Type 0 where
  pub known : legal state ≡ true
  pub owning : owns state ≡ true → itself ≡ true
  pub holding : valid state ≡ true → copy ≡ value
  pub lonely : valid state ≡ true → held ≡ true → itself ≡ true

module _ (state copy : ℕ) (itself held : Bool) (value : ℕ) where
  sound-says : sound state copy itself held value ≡ true → Sound state copy itself held value
  unfolding sound
  sound-says e =
      let p = and_both (legal state && implies (owns state) itself) (implies (valid state) (eqb copy value && implies held itself)) e in
      let q = and_both (legal state) (implies (owns state) itself) p.0 in
      let inner : valid state ≡ true → (eqb copy value && implies held itself) ≡ true = implied (valid state) _ p.1 in
      record {
        known = q.0;
        owning = implied (owns state) itself q.1;
        holding = λ v. eqb-true copy value (and_both (eqb copy value) (implies held itself) (inner v)).0;
        lonely = λ v. implied held itself (and_both (eqb copy value) (implies held itself) (inner v)).1;
      }

  sound_test : Sound state copy itself held value → sound state copy itself held value ≡ true
  unfolding sound
  sound_test s =
      both_and _ _ (both_and _ _ s.known (implying _ _ s.owning))
      (implying _ _ (λ v. both_and _ _ (eq-eqb copy value (s.holding v)) (implying _ _ (s.lonely v))))

-- ---- the block
module _ (b : Block) where
  -- a block all of whose valid copies are one value, memory's where no slot owns
  pub coherent_by : (value : ℕ) → ((k : ℕ) → k < 16 → legal (b.state k) ≡ true) → ((i k : ℕ) → i < 16 → k < 16 → owns (b.state i) ≡ true → owns (b.state k) ≡ true → i ≡ k) → ((i k : ℕ) → i < 16 → k < 16 → private (b.state i) ≡ true → (i ≡ k → ⊥) → b.state k ≡ invalid)
      → ((k : ℕ) → k < 16 → valid (b.state k) ≡ true → b.copy k ≡ value) → (((k : ℕ) → k < 16 → owns (b.state k) ≡ false) → value ≡ b.word) → Coherent b
  coherent_by value within single alone holds memory =
      record {
        within = within;
        single = single;
        alone = alone;
        equal = λ i k hi hk vi vk. holds i hi vi ∙ sym (holds k hk vk);
        memory = λ f i hi vi. holds i hi vi ∙ memory f;
      }

  -- where no slot owns, memory supplies
  pub memory_supplies : ((k : ℕ) → k < 16 → owns (b.state k) ≡ false) → supplied b ≡ b.word
  unfolding supplied
  memory_supplies f = from (owned b.state 16)
    where
      from : Owned b.state 16 (owner b) → cond (ltb (owner b) 16) (b.copy (owner b)) b.word ≡ b.word
      from (by h o) = absurd (true≢false (sym o ∙ f (owner b) h))
      from (none e g) = cond-false _ _ (le-ltb (owner b) 16 (omega arith))

  -- the owner found is the only one
  pub owner_is : Coherent b → (k : ℕ) → k < 16 → owns (b.state k) ≡ true → k ≡ owner b
  owner_is h k lt o = from (owned b.state 16)
    where
      from : Owned b.state 16 (owner b) → k ≡ owner b
      from (by l p) = h.single k (owner b) lt l o p
      from (none e f) = absurd (true≢false (sym o ∙ f k lt))

  pub owns-owner : Coherent b → (k : ℕ) → k < 16 → owns (b.state k) ≡ eqb k (owner b)
  owns-owner h k lt = from (owned b.state 16)
    where
      from : Owned b.state 16 (owner b) → owns (b.state k) ≡ eqb k (owner b)
      from (by l p) =
          by-test (eqb k (owner b))
          (λ e. subst (λ (i : ℕ). owns (b.state i) ≡ true) (sym (eqb-true k (owner b) e)) p ∙ sym e)
          (λ e. not-true _ (λ o. eqb-false k (owner b) e (owner_is h k lt o)) ∙ sym e)
      from (none e f) = f k lt ∙ sym (ne_eqb k (owner b) (λ (q : k ≡ owner b). omega arith))

  -- and what it holds is what is supplied, and what every valid slot holds
  pub holds-supplied : Coherent b → (k : ℕ) → k < 16 → valid (b.state k) ≡ true → b.copy k ≡ supplied b
  unfolding supplied
  holds-supplied h k lt v = from (owned b.state 16)
    where
      from : Owned b.state 16 (owner b) → b.copy k ≡ cond (ltb (owner b) 16) (b.copy (owner b)) b.word
      from (by l o) = h.equal k (owner b) lt l v (owner-valid _ o) ∙ sym (cond-true _ _ (lt-ltb (owner b) 16 l))
      from (none e f) = h.memory f k lt v ∙ sym (cond-false _ _ (le-ltb (owner b) 16 (omega arith)))

  abbrev sound_at : ℕ → Type 0
  sound_at k = Sound (b.state k) (b.copy k) (eqb k (owner b)) (guarded b) (supplied b)

  pub coherent-says : coherent b ≡ true → Coherent b
  unfolding coherent guarded
  coherent-says e =
      coherent_by (supplied b)
      (λ k h. (at k h).known)
      (λ i k hi hk oi ok. is i hi oi ∙ sym (is k hk ok))
      (λ i k hi hk p ne. not_valid (b.state k) (not-true _ (λ v. ne (is i hi (private-owns _ p) ∙ sym (eqb-true k (owner b) ((at k hk).lonely v (held i hi p)))))))
      (λ k h. (at k h).holding)
      memory_supplies
    where
      at : (k : ℕ) → k < 16 → sound_at k
      at k h = sound-says _ _ _ _ _ (every-says (λ k. sound (b.state k) (b.copy k) (eqb k (owner b)) (guarded b) (supplied b)) 16 e k h)

      is : (k : ℕ) → k < 16 → owns (b.state k) ≡ true → k ≡ owner b
      is k h o = eqb-true k (owner b) ((at k h).owning o)

      held : (i : ℕ) → i < 16 → private (b.state i) ≡ true → guarded b ≡ true
      held i h p =
          let q = is i h (private-owns _ p) in
          both_and _ _ (lt-ltb (owner b) 16 (let z : i ≡ owner b = q in omega arith)) (subst (λ (x : ℕ). private (b.state x) ≡ true) q p)

  pub coherent_test : Coherent b → coherent b ≡ true
  unfolding coherent guarded
  coherent_test h = every_test (λ k. sound (b.state k) (b.copy k) (eqb k (owner b)) (guarded b) (supplied b)) 16 (λ k lt. sound_test _ _ _ _ _ (at k lt))
    where
      alone : (k : ℕ) → k < 16 → valid (b.state k) ≡ true → guarded b ≡ true → eqb k (owner b) ≡ true
      alone k lt v g =
          let p = and_both (ltb (owner b) 16) (private (b.state (owner b))) g in
          by-test (eqb k (owner b)) (λ e. e) (λ e.
          let dead = h.alone (owner b) k (ltb-true (owner b) 16 p.0) lt p.1 (λ z. eqb-false k (owner b) e (sym z)) in
          absurd (true≢false (sym v ∙ ap valid dead ∙ is_invalid.validity)))

      at : (k : ℕ) → k < 16 → sound_at k
      at k lt =
          record {
            known = h.within k lt;
            owning = λ o. eq-eqb k (owner b) (owner_is h k lt o);
            holding = holds-supplied h k lt;
            lonely = alone k lt;
          }
