-- Document 01: "The settled lines are worked out from ARB3 down to ARB0, each line from those above it." How the code goes, line by line.
use Rattle.std.specs.Prelude.{ℕ, zero, suc, cond}
use Rattle.slots.specs.Set.{including}
use Rattle.contest.specs.Contest.{driven}

-- the higher lines with line k, worked out from them
unfoldable pub with_line : ℕ → ℕ → ℕ → ℕ
with_line k set higher = cond (driven k set higher) (including k higher) higher

-- line k, and then each line below it
unfoldable pub settle_from : ℕ → ℕ → ℕ → ℕ
settle_from zero set higher = with_line zero set higher
settle_from (suc k) set higher = settle_from k set (with_line (suc k) set higher)
