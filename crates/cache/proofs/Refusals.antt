-- Laws of the refusals: what each test says, and what a call that is not refused has in hand.
use Prim.Native.Nat.{ℕ, ◌*◌, ◌≤◌, ◌<◌}
use mathlib.Core.Bool.{Bool, true, false, ◌&&◌}
use mathlib.Core.Path.{◌≡◌, refl, sym, ap, ◌∙◌}
use native.Mathlib.Omega.{arith}
use borrow.Author.Tests.{eqb-true, eq-eqb, ne_eqb, leb-true, le-leb, ltb-true, lt-ltb}
use lib.Dec.{eqb, leb, ltb}
use lib.ListN.{length}
use Rattle.basics.specs.Order.{unless}
use Rattle.basics.proofs.Bools.{cond-true, cond-false, and_both, both_and}
use Rattle.cache.specs.Block.{Block, Coherent, coherent}
use Rattle.cache.specs.Tables.{Tables, block_of, with_block}
use Rattle.cache.specs.Calls.{fit, named, refusal, after}
use Rattle.cache.proofs.Coherence.{coherent-says, coherent_test}

pub record Fit (states copies words : ℕ) : Type 0 where
  pub low : 1 ≤ words
  pub high : words ≤ 64
  pub states-fit : states ≡ 16 * words
  pub copies-fit : copies ≡ 16 * words

module _ (states copies words : ℕ) where
  pub fit-says : fit states copies words ≡ true → Fit states copies words
  unfolding fit
  fit-says e =
      let p = and_both (leb words 64 && leb 1 words && eqb states (16 * words)) (eqb copies (16 * words)) e in
      let q = and_both (leb words 64 && leb 1 words) (eqb states (16 * words)) p.0 in
      let r = and_both (leb words 64) (leb 1 words) q.0 in
      record {
        low = leb-true 1 words r.1;
        high = leb-true words 64 r.0;
        states-fit = eqb-true states (16 * words) q.1;
        copies-fit = eqb-true copies (16 * words) p.1;
      }

  pub fit_test : Fit states copies words → fit states copies words ≡ true
  unfolding fit
  fit_test f =
      both_and _ _ (both_and _ _ (both_and _ _ (le-leb words 64 f.high) (le-leb 1 words f.low)) (eq-eqb _ _ f.states-fit)) (eq-eqb _ _ f.copies-fit)

pub named-says : (block slot words : ℕ) → named block slot words ≡ true → (slot < 16) × (block < words)
unfolding named
named-says block slot words e =
    let p = and_both (leb slot 15) (ltb block words) e in
    let l = leb-true slot 15 p.0 in
    (omega arith, ltb-true block words p.1)

pub named_test : (block slot words : ℕ) → slot < 16 → block < words → named block slot words ≡ true
unfolding named
named_test block slot words s b = both_and _ _ (le-leb slot 15 (omega arith)) (lt-ltb block words b)

-- a call that is not refused
pub record Accepted (t : Tables) (block slot : ℕ) : Type 0 where
  pub sizes : Fit (length t.states) (length t.copies) (length t.memory)
  pub narrow : slot < 16
  pub inside : block < length t.memory
  pub sane : Coherent (block_of t block)

unless_held : (t : Bool) (n rest : ℕ) → t ≡ true → rest ≡ unless t n rest
unless_held true n rest e = refl
unless_held false n rest e = absurd (omega (arith, ap (λ (x : Bool). unless x 0 1) e))

unless-broken : (t : Bool) (n rest : ℕ) → t ≡ false → n ≡ unless t n rest
unless-broken true n rest e = absurd (omega (arith, ap (λ (x : Bool). unless x 0 1) e))
unless-broken false n rest e = refl

unless-none : (t : Bool) (n rest : ℕ) → 0 < n → unless t n rest ≡ 0 → (t ≡ true) × (rest ≡ 0)
unless-none true n rest p e = (refl, e)
unless-none false n rest p e = absurd (omega arith)

module _ (t : Tables) (block slot : ℕ) where
  abbrev fits : Bool
  fits = fit (length t.states) (length t.copies) (length t.memory)

  abbrev known : Bool
  known = named block slot (length t.memory)

  -- refusals 1, 2 and 7 in their order, and none
  pub refused_sizes : fits ≡ false → 1 ≡ refusal t block slot
  unfolding refusal
  refused_sizes f = unless-broken fits 1 _ f

  pub refused-place : fits ≡ true → known ≡ false → 2 ≡ refusal t block slot
  unfolding refusal
  refused-place f k = unless-broken known 2 _ k ∙ unless_held fits 1 _ f

  pub refused_incoherent : fits ≡ true → known ≡ true → coherent (block_of t block) ≡ false → 7 ≡ refusal t block slot
  unfolding refusal
  refused_incoherent f k c = unless-broken (coherent (block_of t block)) 7 0 c ∙ unless_held known 2 _ k ∙ unless_held fits 1 _ f

  pub not-refused : fits ≡ true → known ≡ true → coherent (block_of t block) ≡ true → 0 ≡ refusal t block slot
  unfolding refusal
  not-refused f k c = unless_held (coherent (block_of t block)) 7 0 c ∙ unless_held known 2 _ k ∙ unless_held fits 1 _ f

  pub accepted-says : refusal t block slot ≡ 0 → Accepted t block slot
  unfolding refusal
  accepted-says e =
      let a = unless-none fits 1 _ (omega arith) e in
      let b = unless-none known 2 _ (omega arith) a.1 in
      let c = unless-none (coherent (block_of t block)) 7 0 (omega arith) b.1 in
      let n = named-says block slot (length t.memory) b.0 in
      record { sizes = fit-says _ _ _ a.0; narrow = n.0; inside = n.1; sane = coherent-says (block_of t block) c.0 }

  pub accepted_test : Accepted t block slot → refusal t block slot ≡ 0
  accepted_test a =
      sym (not-refused (fit_test _ _ _ a.sizes) (named_test block slot _ a.narrow a.inside) (coherent_test (block_of t block) a.sane))

  -- the tables after a call, accepted and refused
  pub after-accepted : (operation : Block → Block) → refusal t block slot ≡ 0 → after t block slot operation ≡ with_block t block (operation (block_of t block))
  unfolding after
  after-accepted operation e = cond-true _ _ (eq-eqb (refusal t block slot) 0 e)

  pub after-refused : (operation : Block → Block) → (refusal t block slot ≡ 0 → ⊥) → after t block slot operation ≡ t
  unfolding after
  after-refused operation ne = cond-false _ _ (ne_eqb (refusal t block slot) 0 ne)
