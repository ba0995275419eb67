-- What document 01 says of the contest, sentence by sentence, with 001's equations as they stand in its 2.7.1. Assumes nothing.
use Prim.Native.Nat.{ℕ, ◌<◌, ◌≤◌, ◌^◌}
use mathlib.Core.Path.{◌≡◌, refl, sym, subst, ◌∙◌}
use mathlib.Core.Bool.{Bool, true, false, true≢false}
use native.Mathlib.Omega.{arith}
use native.Mathlib.Decide.{ℕ_discrete}
use Rattle.basics.specs.Lines.{active, bit}
use Rattle.basics.proofs.Bools.{not-true}
use Rattle.slots.specs.Set.{mem, top, top_below}
use Rattle.slots.proofs.MemberLaws.{mem-empty, empty_is_zero}
use Rattle.slots.proofs.TopLaws.{Top, found, bare, top_view, top_most}
use Rattle.contest.specs.Contest.{drives, MayDrive, Settled, Settles, winner_of}
use Rattle.contest.specs.Walk.{settle_from}
use Rattle.std.specs.Prelude.{Some, None}
use Rattle.contest.proofs.Laws.{drives-says, says-drives}
use Rattle.contest.proofs.Settling.{settles, walk_top}
use Rattle.contest.proofs.Winners.{nobody_wins, top_wins}

pub record Contest : Type 0 where
  -- "A contestant drives a bit of its slot number only while no higher ARB line is active that its own number lacks": 001's equations say so
  pub only_while : (k : ℕ) (arb : Bool) (id lines : ℕ) → k < 4 → drives k arb id lines ≡ true → MayDrive k arb id lines
  pub all_while : (k : ℕ) (arb : Bool) (id lines : ℕ) → k < 4 → MayDrive k arb id lines → drives k arb id lines ≡ true
  -- "The settled lines are worked out from ARB3 down to ARB0, each line from those above it."
  pub worked_out : (set : ℕ) → Settled set (settle_from 3 set 0)
  -- "They have one settled value, and it is the highest contesting slot."
  pub settled : (set : ℕ) → Settled set (top set)
  pub only : (set lines : ℕ) → lines < 16 → Settled set lines → lines ≡ top set
  pub contests : (set : ℕ) → set < 2 ^ 16 → (set ≡ 0 → ⊥) → mem (top set) set ≡ true
  pub highest : (set slot : ℕ) → slot < 16 → mem slot set ≡ true → slot ≤ top set
  pub wins : (set : ℕ) → (set ≡ 0 → ⊥) → winner_of set ≡ Some (top set)
  -- "Slot 0 alone drives no line and still wins"
  pub zero-drives-none : (k lines : ℕ) → k < 4 → drives k true 0 lines ≡ false
  pub zero_settles_at_0 : Settles (2 ^ 0) 0
  pub zero_wins : winner_of (2 ^ 0) ≡ Some 0
  -- "an empty set has no winner", and only an empty set; its lines settle at 0
  pub empty_settles_at_0 : Settles 0 0
  pub empty_has_none : winner_of 0 ≡ None
  pub none-only_if_empty : (set : ℕ) → winner_of set ≡ None → set ≡ 0

-- the winner is one of the contestants
top-contests : (set : ℕ) → set < 2 ^ 16 → (set ≡ 0 → ⊥) → mem (top set) set ≡ true
top-contests set h n = go (top_view 16 set)
  where
    go : Top 16 set → mem (top set) set ≡ true
    go (found e l) = e
    go (bare f) = absurd (n (empty_is_zero 16 set h f))

zero-drives : (k lines : ℕ) → k < 4 → drives k true 0 lines ≡ false
zero-drives k lines h =
    not-true (drives k true 0 lines) (λ e. true≢false (sym (drives-says true 0 lines k h e).own ∙ mem-empty k))

none-empty : (set : ℕ) → winner_of set ≡ None → set ≡ 0
none-empty set e = elim (ℕ_discrete set 0) [ yes q ↦ q | no n ↦ let z : Some (top set) ≡ None = sym (top_wins set n) ∙ e in let y : ◌≡◌ {A = ℕ} 0 1 = cc in absurd (omega arith) ]

pub the_contest : Contest
unfolding top_below active bit
the_contest = record {
  only_while = λ k arb id lines. drives-says arb id lines k;
  all_while = λ k arb id lines. says-drives arb id lines k;
  worked_out = λ set. subst (Settled set) (sym (walk_top set)) (settles set).settled;
  settled = λ set. (settles set).settled;
  only = λ set. (settles set).only;
  contests = top-contests;
  highest = top_most 16;
  wins = top_wins;
  zero-drives-none = zero-drives;
  zero_settles_at_0 = settles (2 ^ 0);
  zero_wins = top_wins (2 ^ 0) (λ (e : 2 ^ 0 ≡ 0). omega arith);
  empty_settles_at_0 = settles 0;
  empty_has_none = nobody_wins 0 refl;
  none-only_if_empty = none-empty;
}
