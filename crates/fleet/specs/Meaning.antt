-- What each figure of a fleet means, whatever way it is found.
use Rattle.std.specs.Prelude.{ℕ, ◌+◌, ◌*◌, ◌≤◌, ◌<◌, ◌≡◌, length}
use mathlib.Core.List.{List, Memᴰ}
use Rattle.fleet.specs.declared.Summary.{Summary}
use Rattle.fleet.specs.Figures.{total_of, within}

-- x is one of the numbers
abbrev pub OneOf : ℕ → List ℕ → Type 0
OneOf x xs = Memᴰ x xs

-- m is one of the numbers, and none is below it
pub record IsLeast (xs : List ℕ) (m : ℕ) : Type 0 where
  pub member : OneOf m xs
  pub none_below : (x : ℕ) → OneOf x xs → m ≤ x

-- m is one of the numbers, and none exceeds it
pub record IsGreatest (xs : List ℕ) (m : ℕ) : Type 0 where
  pub member : OneOf m xs
  pub none_above : (x : ℕ) → OneOf x xs → x ≤ m

-- m is one of the numbers, at least half of them don't exceed it, and it is the least of those of which that holds
pub record IsMedian (xs : List ℕ) (m : ℕ) : Type 0 where
  pub member : OneOf m xs
  pub half : length xs ≤ 2 * within m xs
  pub first : (x : ℕ) → OneOf x xs → length xs ≤ 2 * within x xs → m ≤ x

-- "sum = Q x K + R", with less left than would make the mean one more
pub record IsMean (xs : List ℕ) (q r : ℕ) : Type 0 where
  pub sum : q * length xs + r ≡ total_of xs
  pub rest : r < length xs

-- a summary says of the numbers what is so
pub record Summarizes (xs : List ℕ) (s : Summary) : Type 0 where
  pub number : s.count ≡ length xs
  pub lowest : IsLeast xs s.least
  pub middle : IsMedian xs s.median
  pub highest : IsGreatest xs s.greatest
  pub average : IsMean xs s.mean s.remainder
