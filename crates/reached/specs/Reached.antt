-- What it means that a run reaches a number of demand 3: the number can't be smaller. Each is reached at every hold limit, and by every slot
-- (proofs/Reached.antt).
use Rattle.std.specs.Prelude.{ℕ, ◌+◌, ◌*◌, ◌≡◌, false, List, [], length, Some}
use Rattle.slots.specs.Set.{card}
use Rattle.cycle.specs.State.{fresh}
use Rattle.cycle.specs.Waits.{pause_most, others_most, cycles_most}
use Rattle.cycle.specs.Runs.{Input, next, after, start_in, starters, over_in, count, ahead, Asks}

-- a START in cycle i leaves members, and none comes in the cycles after it, one less than the longest pause (against `starts_again`)
pub record PausesAfterStart (limit : ℕ) : Type 0 where
  pub past : List Input
  pub i : Input
  pub future : List Input
  pub starter : ℕ
  pub starts : start_in (after (fresh limit) past) i ≡ Some starter
  pub members : (next (after (fresh limit) past) i).wave ≡ 0 → ⊥
  pub long : length future + 1 ≡ pause_most
  pub none : starters (next (after (fresh limit) past) i) future ≡ []

-- a wave forms in cycle i, and no START comes in the cycles after it, one less than the longest pause (against `starts_first`)
pub record PausesAfterForming (limit : ℕ) : Type 0 where
  pub past : List Input
  pub i : Input
  pub future : List Input
  pub empty : (after (fresh limit) past).wave ≡ 0
  pub members : (next (after (fresh limit) past) i).wave ≡ 0 → ⊥
  pub long : length future + 1 ≡ pause_most
  pub none : starters (next (after (fresh limit) past) i) future ≡ []

-- a wave is not over one cycle before it must be (against `ends`)
pub record Lasts (limit : ℕ) : Type 0 where
  pub past : List Input
  pub future : List Input
  pub long : length future + 1 ≡ pause_most * (limit * card (after (fresh limit) past).wave)
  pub lasts : over_in (after (fresh limit) past) future ≡ false

-- slot m sees as many STARTs of others before its own as it may (against `sharper`; for slot 0 against `share`)
pub record Sees (limit m : ℕ) : Type 0 where
  pub past : List Input
  pub future : List Input
  pub asks : Asks m (after (fresh limit) past) future
  pub all : ahead m (starters (after (fresh limit) past) future) ≡ others_most limit m

-- slot m has not started one cycle before it must have (against `own`)
pub record Waits (limit m : ℕ) : Type 0 where
  pub past : List Input
  pub future : List Input
  pub asks : Asks m (after (fresh limit) past) future
  pub long : length future + 1 ≡ cycles_most limit m
  pub none : count m (starters (after (fresh limit) past) future) ≡ 0
