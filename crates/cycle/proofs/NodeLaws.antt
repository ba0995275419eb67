-- What the sets of a node table mean: slot i is in the set exactly if node i wants (holds), and its words are node i's. Assumes nothing.
use Prim.Native.Nat.{ℕ, zero, suc, ◌^◌, ◌≤◌, ◌<◌}
use mathlib.Core.Path.{◌≡◌, refl, ap, ◌∙◌}
use mathlib.Core.Bool.{Bool, cond}
use mathlib.Core.List.{List}
use native.Mathlib.Omega.{arith}
use native.Mathlib.Decide.{ℕ_discrete}
use lib.ListN.{length, get_or, length-set}
use lib.Seq.{get_or-set_same, get_or-set_other}
use Rattle.slots.specs.Set.{mem, including, flagged_below}
use Rattle.slots.proofs.WithLaws.{flagged_less, flagged_mem}
use Rattle.slots.proofs.TopLaws.{last_or}
use Rattle.cycle.specs.declared.Node.{Node}
use Rattle.cycle.specs.Nodes.{blank, joined_of, add_of, gathered, sets_of}

module _ (nodes : List Node) where
  abbrev wants_at : ℕ → Bool
  wants_at i = (get_or nodes i blank).wants

  abbrev holds_at : ℕ → Bool
  holds_at i = (get_or nodes i blank).holds

  wants_flagged : (k : ℕ) → (gathered k nodes).wants ≡ flagged_below k wants_at
  unfolding gathered add_of joined_of flagged_below
  wants_flagged zero = refl
  wants_flagged (suc k) = ap (λ (w : ℕ). cond (wants_at k) (including k w) w) (wants_flagged k)

  holds_flagged : (k : ℕ) → (gathered k nodes).holds ≡ flagged_below k holds_at
  unfolding gathered add_of joined_of flagged_below
  holds_flagged zero = refl
  holds_flagged (suc k) = ap (λ (w : ℕ). cond (holds_at k) (including k w) w) (holds_flagged k)

  words_long : (k : ℕ) → length (gathered k nodes).words ≡ 16
  unfolding gathered add_of
  words_long zero = refl
  words_long (suc k) = simp length-set (words_long k)

  words_below : (k i : ℕ) → k ≤ 16 → i < k → get_or (gathered k nodes).words i 0 ≡ (get_or nodes i blank).words
  unfolding gathered add_of
  words_below zero i h l = absurd (omega arith)
  words_below (suc k) i h l =
      elim (ℕ_discrete i k) [ yes q ↦ rw q (get_or-set_same (gathered k nodes).words k (get_or nodes k blank).words 0 (omega (arith, words_long k))) | no n ↦ get_or-set_other (gathered k nodes).words k i (get_or nodes k blank).words 0 n ∙ words_below k i (omega arith) (last_or l n) ]

  -- THE SETS MEAN THE NODES
  pub wants_mean : (i : ℕ) → i < 16 → mem i (sets_of nodes).wants ≡ (get_or nodes i blank).wants
  unfolding sets_of
  wants_mean i l = ap (mem i) (wants_flagged 16) ∙ flagged_mem wants_at 16 i l

  pub holds_mean : (i : ℕ) → i < 16 → mem i (sets_of nodes).holds ≡ (get_or nodes i blank).holds
  unfolding sets_of
  holds_mean i l = ap (mem i) (holds_flagged 16) ∙ flagged_mem holds_at 16 i l

  pub wants_less : (sets_of nodes).wants < 2 ^ 16
  unfolding sets_of
  wants_less = omega (arith, wants_flagged 16, flagged_less wants_at 16)

  pub holds_less : (sets_of nodes).holds < 2 ^ 16
  unfolding sets_of
  holds_less = omega (arith, holds_flagged 16, flagged_less holds_at 16)

  pub words_mean : (i : ℕ) → i < 16 → get_or (sets_of nodes).words i 0 ≡ (get_or nodes i blank).words
  unfolding sets_of
  words_mean i l = words_below 16 i (omega arith) l

  pub words-sixteen : length (sets_of nodes).words ≡ 16
  unfolding sets_of
  words-sixteen = words_long 16
