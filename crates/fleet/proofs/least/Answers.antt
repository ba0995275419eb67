-- `fleet::least` meets its contract: the least of the one in hand and those that are left is the least of all. Assumes nothing.
use Prim.Native.Nat.{ℕ, ◌+◌, ◌<◌, min}
use mathlib.Core.Path.{◌≡◌, sym, ap, ◌∙◌}
use native.Mathlib.Omega.{arith}
use lib.ListN.{length, drop}
use mathlib.Core.List.{foldl}
use Rattle.fleet.proofs.Walks.{onward, ended, least_start, least-none}
use Rattle.fleet.proofs.least.Goals as goal

pub returns-then-figures-eq0 : goal.returns-then-figures-eq0
returns-then-figures-eq0 c = let xs = c.args.figures.now in
    let e : length xs ≡ 0 = c.if-figures-eq0.true in
    sym (least-none xs e)

pub loop-next-init : goal.loop-next-init
loop-next-init c = let xs = c.args.figures.now in
    let h : 0 < length xs = omega arith in
    (h, least_start xs h)

pub loop-next-preserved : goal.loop-next-preserved
loop-next-preserved c = let xs = c.args.figures.now in (
  omega arith,
  ap (λ (m : ℕ). foldl min m (drop (c.loop-next.next + 1) xs)) c.min-low.ensures ∙ sym (onward xs c.loop-next.next (foldl min c.loop-next.low) (omega arith)) ∙ c.loop-next.invariant.1,
)

pub returns : goal.returns
returns c = let xs = c.args.figures.now in
    sym (ended xs c.loop-next.next (foldl min c.loop-next.low) (omega arith)) ∙ c.loop-next.invariant.1
