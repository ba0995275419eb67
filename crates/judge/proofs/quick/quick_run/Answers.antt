-- `judge::quick::quick_run` meets its contract. Assumes nothing.
use native.Mathlib.Omega.{arith}
use Prim.Native.Nat.{ℕ, ◌/◌}
use mathlib.Core.Path.{◌≡◌, refl, ap, subst, ◌∙◌}
use lib.ListN.{length}
use Rattle.rules.specs.Run.{step_of}
use Rattle.judge.specs.Quick.{Left}
use Rattle.judge.proofs.Runs.{reached, record_of, left_starts, left_again}
use Rattle.judge.proofs.quick.quick_run.Goals as goal

pub loop-i-init : goal.loop-i-init
loop-i-init c = (refl, left_starts _ _ _ c.requires.0 c.requires.1)

pub quick-requires : goal.quick-requires
quick-requires c = let g = c.loop-i.invariant in
    let room = g.1.room in
    let whole = g.0 in
    (g.1.ready, (omega arith, c.difference-d.ensures))

pub returns-in_default : goal.returns-in_default
returns-in_default c = c.loop-i.invariant.1

pub loop-i-preserved : goal.loop-i-preserved
loop-i-preserved c = let part = c.args.part.now in
    let whole = c.loop-i.invariant.0 in
    let under = c.loop-i-test.true in
    let kept = c.in-Some.ensures in
    (whole, left_again part _ _ c.loop-i.i c.loop-i.state c.loop-i.totals c.in-Some.next c.loop-i.invariant.1 (omega arith) kept.0 (kept.1 ∙ ap (step_of c.loop-i.state c.loop-i.totals) (record_of part c.loop-i.i c.lines_in-lines.result c.spare_in-spare.result (omega arith) c.lines_in-lines.ensures c.spare_in-spare.ensures)))

pub returns : goal.returns
returns c = let part = c.args.part.now in
    let le = c.loop-i.invariant.1.le in
    let end = c.loop-i-test.false in
    let all : c.loop-i.i ≡ length part / 16 = omega arith in
    subst (λ (n : ℕ). Left part c.args.judge c.args.tally (reached n c.loop-i.state c.loop-i.totals)) all c.loop-i.invariant.1
