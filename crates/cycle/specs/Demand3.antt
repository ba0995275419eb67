-- DEMAND 3, as one statement: what the bus promises its masters, for a hold limit of 1 to 16, in every run from a fresh bus. A run is any
-- list of inputs (any requests, holds and slave answers) with no reset among them: `past` are its cycles so far, i is the next one and
-- `future` are those after.
use Rattle.std.specs.Prelude.{ℕ, ◌*◌, ◌<◌, ◌≤◌, ◌≡◌, true, false, List, length, Some}
use Rattle.basics.specs.Answers.{accepted}
use Rattle.slots.specs.Set.{card}
use Rattle.cycle.specs.declared.Transfer.TheVariants.{Idle}
use Rattle.cycle.specs.State.{fresh}
use Rattle.cycle.specs.Bounds.{in_bounds, fresh_of}
use Rattle.cycle.specs.Nodes.{step_table_of}
use Rattle.cycle.specs.Waits.{pause_most, others_most, cycles_most}
use Rattle.cycle.specs.Runs.{Input, cycle_in, next, after, start_in, starters, over_in, served, count, Turns, ahead, Asks}

pub record Demand3 (limit : ℕ) : Type 0 where
  -- 1. A fresh bus with this limit is there, and is where the runs begin.
  pub begins : fresh_of limit ≡ accepted (fresh limit)
  -- Every cycle of a run is an accepted call of the step with no reset, and what the call answers is the cycle's state and reply.
  pub cycles : (past : List Input) (i : Input)
      → let b = after (fresh limit) past in step_table_of b false i.event i.nodes ≡ accepted (cycle_in b i)
  -- No state of a run is refused.
  pub bounded : (past : List Input) → in_bounds (after (fresh limit) past) ≡ true
  -- 2. Once a wave has formed (it was empty before cycle i), each of its members gets one turn, of one START at least and of the limit at most,
  -- and no master outside the wave starts in a later cycle before the wave is over.
  pub turns : (past : List Input) (i : Input) (future : List Input) → (after (fresh limit) past).wave ≡ 0
      → let b = next (after (fresh limit) past) i in Turns limit b.wave (over_in b future) (served b future)
  -- The wave is over within the longest pause (`pause_most`) for each START that its members may make after it has formed.
  pub ends : (past future : List Input)
      → let b = after (fresh limit) past in pause_most * (limit * card b.wave) ≤ length future → over_in b future ≡ true
  -- A START comes only where no transfer was open before the cycle: never in the cycle of the ACK that ends one, but in a later one.
  pub alone : (past : List Input) (i : Input) (s : ℕ)
      → let b = after (fresh limit) past in start_in b i ≡ Some s → b.transfer ≡ Idle
  -- 3. While a wave has members, one of the next `pause_most` cycles has a START, whatever came before;
  pub starts : (past future : List Input) → ((after (fresh limit) past).wave ≡ 0 → ⊥) → length future ≡ pause_most
      → 0 < length (starters (after (fresh limit) past) future)
  -- so the next START comes at most so many cycles after the last one (in cycle i), if that has left members;
  pub starts_again : (past : List Input) (i : Input) (future : List Input) (s : ℕ)
      → let b = next (after (fresh limit) past) i in
      start_in (after (fresh limit) past) i ≡ Some s → (b.wave ≡ 0 → ⊥) → length future ≡ pause_most → 0 < length (starters b future)
  -- and at most so many after the wave has formed (in cycle i).
  pub starts_first : (past : List Input) (i : Input) (future : List Input)
      → let b = next (after (fresh limit) past) i in
      (after (fresh limit) past).wave ≡ 0 → (b.wave ≡ 0 → ⊥) → length future ≡ pause_most → 0 < length (starters b future)
  -- 4. A master in slot m that asks and goes on asking until it starts sees at most 30 - m times the limit of others' STARTs before its own, and
  -- one more where m is over 0;
  pub sharper : (past future : List Input) (m : ℕ) → m < 16 → Asks m (after (fresh limit) past) future
      → ahead m (starters (after (fresh limit) past) future) ≤ others_most limit m
  -- so at most 30 times the limit;
  pub share : (past future : List Input) (m : ℕ) → m < 16 → Asks m (after (fresh limit) past) future
      → ahead m (starters (after (fresh limit) past) future) ≤ 30 * limit
  -- and its own START does come: within the longest pause for each of these 30 - m times the limit and for its own, and one cycle more where m is over 0.
  pub own : (past future : List Input) (m : ℕ) → m < 16 → Asks m (after (fresh limit) past) future
      → cycles_most limit m ≤ length future → 0 < count m (starters (after (fresh limit) past) future)
