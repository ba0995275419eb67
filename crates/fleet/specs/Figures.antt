-- The figures of a fleet, over a list of numbers. An empty list has 0 for each of them.
use Rattle.std.specs.Prelude.{ℕ, ◌+◌, ◌*◌, ◌/◌, ◌%◌, min, max, Bool, cond, leb, length}
use mathlib.Core.List.{List, [], ◌∷◌, foldl, foldr}
use Rattle.basics.specs.Lines.{one}
use Rattle.fleet.specs.declared.Summary.{Summary}

-- the least of the numbers: the lower of the first two, then of that and the third, and so on
abbrev pub least_of : List ℕ → ℕ
least_of [] = 0
least_of (x ∷ xs) = foldl min x xs

-- the greatest of the numbers: none is below 0
abbrev pub greatest_of : List ℕ → ℕ
greatest_of xs = foldl max 0 xs

-- their sum
abbrev pub total_of : List ℕ → ℕ
total_of xs = foldr ◌+◌ 0 xs

-- how many of the numbers don't exceed m
abbrev pub within : ℕ → List ℕ → ℕ
within m [] = 0
within m (x ∷ xs) = one (leb x m) + within m xs

-- at least half of all the numbers don't exceed x
unfoldable pub half_within : List ℕ → ℕ → Bool
half_within all x = leb (length all) (2 * within x all)

-- those of some numbers that at least half of all don't exceed
abbrev pub halving : List ℕ → List ℕ → List ℕ
halving all [] = []
halving all (x ∷ xs) = cond (half_within all x) (x ∷ halving all xs) (halving all xs)

-- "The median is the least of the numbers that at least half of them don't exceed"
abbrev pub median_of : List ℕ → ℕ
median_of xs = least_of (halving xs xs)

-- what is said of the numbers: the mean is "the sum divided by K, rounded down", and the remainder "what is left"
unfoldable pub summary_of : List ℕ → Summary
summary_of xs =
    record {
      count = length xs;
      least = least_of xs;
      median = median_of xs;
      greatest = greatest_of xs;
      mean = total_of xs / length xs;
      remainder = total_of xs % length xs;
    }
