-- `contest::drives` meets its contract, line by line.
-- Assumes nothing.
use mathlib.Core.Path.{◌≡◌}
use native.Mathlib.Omega.{arith}
use Rattle.contest.specs.Contest.{drives}
use Rattle.contest.proofs.drives.Goals as goal

pub returns-in-3 : goal.returns-in-3
unfolding drives
returns-in-3 c = simp (c.has.ensures, c.in-3.is)

pub returns-in-2 : goal.returns-in-2
unfolding drives
returns-in-2 c = simp (c.has.ensures, c.keeps-keeps3.ensures, c.in-2.is)

pub returns-in-1 : goal.returns-in-1
unfolding drives
returns-in-1 c = simp (c.has.ensures, c.keeps-keeps3.ensures, c.keeps-keeps2.ensures, c.in-1.is)

pub returns-in_default : goal.returns-in_default
unfolding drives
returns-in_default c = let e : c.args.line ≡ 0 = omega arith in
    simp (c.has.ensures, c.keeps-keeps3.ensures, c.keeps-keeps2.ensures, c.keeps-keeps1.ensures, e)
