-- `fleet::count_within` meets its contract: those counted and those that are left that count are all that count. Assumes nothing.
use Prim.Native.Nat.{◌+◌}
use mathlib.Core.Path.{◌≡◌}
use native.Mathlib.Omega.{arith}
use lib.ListN.{get_or, drop}
use lib.Dec.{leb}
use Rattle.basics.specs.Lines.{one}
use Rattle.fleet.specs.Figures.{within}
use Rattle.fleet.proofs.Walks.{onward, ended}
use Rattle.fleet.proofs.count_within.Goals as goal

pub loop-x-init : goal.loop-x-init
loop-x-init c = (omega arith, omega arith, omega arith)

pub loop-x-preserved : goal.loop-x-preserved
loop-x-preserved c = let a = c.args in
    let on : within a.most (drop c.loop-x.x-index a.figures.now) ≡ one (leb (get_or a.figures.now c.loop-x.x-index 0) a.most) + within a.most (drop (c.loop-x.x-index + 1) a.figures.now) = onward a.figures.now c.loop-x.x-index (within a.most) (omega arith) in
    (omega arith, omega arith, omega arith)

pub returns : goal.returns
returns c = let a = c.args in
    let none = ended a.figures.now c.loop-x.x-index (within a.most) (omega arith) in
    (omega arith, omega arith)
