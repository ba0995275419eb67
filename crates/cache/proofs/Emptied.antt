-- The slot that is evicted, and after a write every slot but the writer, is invalid, and gets copy 0 if it was valid. (One that was invalid keeps its
-- copy: proofs/Unchanged.antt.) Assumes nothing.
use Prim.Native.Nat.{ℕ, ◌<◌}
use mathlib.Core.Bool.{true}
use mathlib.Core.Path.{◌≡◌, refl, ◌∙◌}
use borrow.Author.Tests.{eq-eqb, ne_eqb}
use Rattle.basics.proofs.Bools.{cond-true, cond-false}
use Rattle.cache.specs.States.{valid}
use Rattle.cache.specs.Operations.{copy_left, block_written, block_evicted}
use Rattle.cache.specs.Tables.{Tables}
use Rattle.cache.specs.Calls.{refusal, after_write, after_evict}
use Rattle.cache.specs.Kept.{Emptied}
use Rattle.cache.proofs.Refusals.{accepted-says}
use Rattle.cache.proofs.Kept.{write_keeps, evict_keeps}

left_valid : (state copy : ℕ) → valid state ≡ true → copy_left state copy ≡ 0
unfolding copy_left
left_valid state copy v = cond-true _ _ v

module _ (t : Tables) (block slot : ℕ) (ok : refusal t block slot ≡ 0) where
  pub evict_empties : Emptied t block slot (after_evict t block slot)
  unfolding block_evicted
  evict_empties =
      let s = (evict_keeps t block slot ok).itself in
      let l = (accepted-says t block slot ok).narrow in
      let e = eq-eqb slot slot refl in
      record {
        becomes = s.states slot l ∙ cond-true _ _ e;
        cleared = λ v. s.copies slot l ∙ cond-true _ _ e ∙ left_valid _ _ v;
      }

  pub write_empties : (value k : ℕ) → k < 16 → (k ≡ slot → ⊥) → Emptied t block k (after_write t block slot value)
  unfolding block_written
  write_empties value k l other =
      let s = (write_keeps t block slot value ok).itself in
      let e = ne_eqb k slot other in
      record {
        becomes = s.states k l ∙ cond-false _ _ e;
        cleared = λ v. s.copies k l ∙ cond-false _ _ e ∙ left_valid _ _ v;
      }
