-- The loops over a block's sixteen slots, one slot at a time. Assumes nothing.
use Prim.Native.Nat.{ℕ, ◌+◌, ◌≤◌, ◌<◌}
use mathlib.Core.Bool.{Bool, true, cond, ◌&&◌}
use mathlib.Core.List.{List}
use mathlib.Core.Path.{◌≡◌, refl, sym, ap, ◌∙◌}
use native.Mathlib.Numerals.{add-one}
use lib.Dec.{eqb}
use native.Mathlib.Nat.{le_antisymm}
use native.Mathlib.Omega.{arith}
use lib.ListN.{length, get_or, set}
use Rattle.cache.specs.States.{invalid, owned_private, owns}
use Rattle.cache.specs.Block.{Block, owner_below, every, sound, all_sound}
use Rattle.cache.specs.Operations.{copy_left, block_written}
use Rattle.cache.specs.Tables.{entries, block_at, placed}
use Rattle.cache.proofs.Placed.{placed-none, placed-length, placed-next, placed-more}

module _ (state : ℕ → ℕ) where
  pub owner-start : 16 ≡ owner_below state 0
  unfolding owner_below
  owner-start = refl

  pub owner-more : (k found : ℕ) (owning : Bool) (next : ℕ) → found ≡ owner_below state k → owning ≡ owns (state k) → next ≡ cond owning k found → next ≡ owner_below state (k + 1)
  unfolding owner_below
  owner-more k found owning next f o n =
      n ∙ ap (λ (t : Bool). cond t k found) o ∙ ap (cond (owns (state k)) k) f ∙ ap (owner_below state) (sym (add-one k))

module _ (state copy : ℕ → ℕ) (owner : ℕ) (held : Bool) (value : ℕ) where
  pub sound-start : true ≡ all_sound state copy owner held value 0
  unfolding every
  sound-start = refl

  pub sound_more : (k : ℕ) (all this : Bool) → all ≡ all_sound state copy owner held value k → this ≡ sound (state k) (copy k) (eqb k owner) held value → (all && this) ≡ all_sound state copy owner held value (k + 1)
  unfolding every
  sound_more k all this a t =
      ap (λ (x : Bool). x && this) a ∙ ap (λ (x : Bool). all_sound state copy owner held value k && x) t ∙ ap (all_sound state copy owner held value) (sym (add-one k))

-- ---- a write, which does not look at memory's word
abbrev pub written : (states copies : List ℕ) (base slot value : ℕ) → Block
written states copies base slot value = block_written (block_at states copies base 0) slot value

-- the first k slots are written, as the code has it
pub record Written (states copies : List ℕ) (base slot value k : ℕ) (s c : List ℕ) : Type 0 where
  pub within : k ≤ 16
  pub states_are : s ≡ placed states base (written states copies base slot value).state k
  pub copies_are : c ≡ placed copies base (written states copies base slot value).copy k

module _ (states copies : List ℕ) (base slot value : ℕ) where
  pub written_none : Written states copies base slot value 0 states copies
  written_none = record { within = omega arith; states_are = placed-none states base _; copies_are = placed-none copies base _ }

  pub written-more : (k : ℕ) (s c : List ℕ) (left state copy : ℕ) → Written states copies base slot value k s c → k < 16
      → left ≡ copy_left (get_or s (base + k) 0) (get_or c (base + k) 0) → state ≡ cond (eqb k slot) owned_private invalid → copy ≡ cond (eqb k slot) value left
      → Written states copies base slot value (k + 1) (set s (base + k) state) (set c (base + k) copy)
  unfolding block_written
  written-more k s c left state copy w lt l st cp =
      let x : get_or s (base + k) 0 ≡ entries states base k = ap (λ (a : List ℕ). get_or a (base + k) 0) w.states_are ∙ placed-next states base _ k in
      let y : get_or c (base + k) 0 ≡ entries copies base k = ap (λ (a : List ℕ). get_or a (base + k) 0) w.copies_are ∙ placed-next copies base _ k in
      record {
        within = omega arith;
        states_are = placed-more states base _ k state s w.states_are st;
        copies_are = placed-more copies base _ k copy c w.copies_are (cp ∙ ap (cond (eqb k slot) value) (l ∙ ap (λ (a : ℕ). copy_left a (get_or c (base + k) 0)) x ∙ ap (copy_left (entries states base k)) y));
      }

  pub written_all : (k : ℕ) (s c : List ℕ) → Written states copies base slot value k s c → 16 ≤ k
      → (s ≡ placed states base (written states copies base slot value).state 16) × (c ≡ placed copies base (written states copies base slot value).copy 16)
  written_all k s c w ge =
      let e : k ≡ 16 = le_antisymm w.within ge in
      (w.states_are ∙ ap (placed states base _) e, w.copies_are ∙ ap (placed copies base _) e)

  -- the tables keep their lengths
  pub written-states : (k : ℕ) (s c : List ℕ) → Written states copies base slot value k s c → length s ≡ length states
  written-states k s c w = ap length w.states_are ∙ placed-length states base _ k

  pub written-copies : (k : ℕ) (s c : List ℕ) → Written states copies base slot value k s c → length c ≡ length copies
  written-copies k s c w = ap length w.copies_are ∙ placed-length copies base _ k
