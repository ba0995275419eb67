-- What the answer of `worst_wait` means for the bus: runs, asking and STARTs are those of demand 3 (cycle/specs/Runs, Demand3).
use Rattle.std.specs.Prelude.{ℕ, ◌<◌, ◌≤◌, ◌≡◌, List, length}
use Rattle.basics.specs.Answers.{accepted}
use Rattle.cycle.specs.State.{fresh}
use Rattle.cycle.specs.Bounds.{fresh_of}
use Rattle.cycle.specs.Runs.{Input, after, starters, count, ahead, Asks}
use Rattle.quote.specs.declared.Worst.{Worst}

-- in every run from a fresh bus with this limit, a master in this slot that asks and goes on asking until it starts sees at most n STARTs of others
-- before its own
abbrev pub SeesAtMost : ℕ → ℕ → ℕ → Type 0
SeesAtMost slot limit n =
    (past future : List Input) → Asks slot (after (fresh limit) past) future → ahead slot (starters (after (fresh limit) past) future) ≤ n

-- and its own START comes within n cycles
abbrev pub StartsWithin : ℕ → ℕ → ℕ → Type 0
StartsWithin slot limit n =
    (past future : List Input) → Asks slot (after (fresh limit) past) future → n ≤ length future → 0 < count slot (starters (after (fresh limit) past) future)

-- what an accepted answer promises: the slot is one of the bus, a fresh bus with this limit is there, both numbers hold, and no smaller ones do
pub record Quoted (slot limit : ℕ) (w : Worst) : Type 0 where
  pub small : slot < 16
  pub begins : fresh_of limit ≡ accepted (fresh limit)
  pub others : SeesAtMost slot limit w.others
  pub cycles : StartsWithin slot limit w.cycles
  pub fewest : (n : ℕ) → SeesAtMost slot limit n → w.others ≤ n
  pub soonest : (n : ℕ) → StartsWithin slot limit n → w.cycles ≤ n
