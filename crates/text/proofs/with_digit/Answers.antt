-- `text::with_digit` meets its contract. Assumes nothing.
use native.Mathlib.Omega.{arith}
use Rattle.text.specs.Numbers.{capped}
use Rattle.text.proofs.with_digit.Goals as goal

pub returns : goal.returns
unfolding capped
returns c = (c.min.ensures, omega arith)
