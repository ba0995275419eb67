-- A read gives the owner's copy, or memory's word where no slot owns; and right after a write, by whatever slots, what was written.
use Prim.Native.Nat.{ℕ, ◌+◌, ◌*◌, ◌<◌}
use mathlib.Core.Bool.{true, false}
use mathlib.Core.Path.{◌≡◌, refl, sym, ap, ◌∙◌}
use native.Mathlib.Omega.{arith}
use borrow.Author.Tests.{eq-eqb}
use lib.ListN.{length, get_or}
use Rattle.basics.specs.Answers.{accepted}
use Rattle.basics.proofs.Bools.{choice, cond-true}
use Rattle.cache.specs.States.{valid, owns}
use Rattle.cache.specs.Block.{Block, Coherent, supplied}
use Rattle.cache.specs.Operations.{value_read, block_written}
use Rattle.cache.specs.Tables.{Tables, block_of}
use Rattle.cache.specs.Calls.{refusal, read_of, after_write}
use Rattle.cache.proofs.States.{is_private, owner-valid}
use Rattle.cache.proofs.Coherence.{memory_supplies, holds-supplied}
use Rattle.cache.proofs.Refusals.{Fit, accepted-says, accepted_test}
use Rattle.cache.proofs.Kept.{write_keeps}

-- every slot reads the same of a coherent block
reads-supplied : (b : Block) → Coherent b → (slot : ℕ) → slot < 16 → value_read b slot ≡ supplied b
unfolding value_read
reads-supplied b h slot lt = choice (λ x. x ≡ supplied b) (valid (b.state slot)) (λ v. holds-supplied b h slot lt v) (λ _. refl)

module _ (t : Tables) (block slot : ℕ) (ok : refusal t block slot ≡ 0) where
  read_gives : read_of t block slot ≡ accepted (supplied (block_of t block))
  unfolding read_of
  read_gives =
      let a = accepted-says t block slot ok in
      cond-true _ _ (eq-eqb (refusal t block slot) 0 ok) ∙ ap (λ (v : ℕ). accepted v) (reads-supplied (block_of t block) a.sane slot a.narrow)

  pub read-owner : (i : ℕ) → i < 16 → owns (get_or t.states (16 * block + i) 0) ≡ true → read_of t block slot ≡ accepted (get_or t.copies (16 * block + i) 0)
  read-owner i lt o =
      read_gives ∙ ap (λ (v : ℕ). accepted v) (sym (holds-supplied (block_of t block) (accepted-says t block slot ok).sane i lt (owner-valid _ o)))

  pub read-memory : ((i : ℕ) → i < 16 → owns (get_or t.states (16 * block + i) 0) ≡ false) → read_of t block slot ≡ accepted (get_or t.memory block 0)
  read-memory none = read_gives ∙ ap (λ (v : ℕ). accepted v) (memory_supplies (block_of t block) none)

-- the read is accepted, whichever slot reads
pub read-written : (t : Tables) (block writer value : ℕ) → refusal t block writer ≡ 0 → (reader : ℕ) → reader < 16 → read_of (after_write t block writer value) block reader ≡ accepted value
unfolding block_written
read-written t block writer value ok reader lt =
    let a = accepted-says t block writer ok in
    let f = a.sizes in
    let k = write_keeps t block writer value ok in
    let next = after_write t block writer value in
    let itself = eq-eqb writer writer refl in
    let s = k.states-length in
    let c = k.copies_length in
    let m = k.memory-length in
    let sizes : Fit (length next.states) (length next.copies) (length next.memory) =
    record { low = omega arith; high = omega arith; states-fit = omega arith; copies-fit = omega arith } in
    let free = accepted_test next block reader (record { sizes = sizes; narrow = lt; inside = omega (arith, a.inside); sane = k.coherent }) in
    let owning = ap owns (k.itself.states writer a.narrow ∙ cond-true _ _ itself) ∙ is_private.ownership in
    read-owner next block reader free writer a.narrow owning ∙ ap (λ (v : ℕ). accepted v) (k.itself.copies writer a.narrow ∙ cond-true _ _ itself)
