-- `phases::go_through` meets its contract: what is left of the piece brings the state to where it has to come. Assumes nothing.
use mathlib.Core.Path.{refl, sym, ◌∙◌}
use native.Mathlib.Omega.{arith}
use borrow.Author.Rules.{rules}
use Rattle.phases.proofs.Parts.{found-few, through_done, through_over, call_fits, call_some, call_needs, call_next}
use Rattle.phases.proofs.go_through.Goals as goal

pub loop-at-init : goal.loop-at-init
loop-at-init c = let pre = c.requires in record { within = pre.1.1.1; fit = pre.0; still = pre.1.0; held = λ on _. pre.1.1.0 on; same = refl }

pub mark_at-mark-requires : goal.mark_at-mark-requires
mark_at-mark-requires c = found-few c.loop-at.state c.loop-at.invariant.fit (sym c.is_under_way.ensures ∙ c.if-not-is_under_way.false)

pub overflow_add-end : goal.overflow_add-end
overflow_add-end c = let z = call_fits c.args.phases c.args.piece.now c.args.from c.loop-at.state c.loop-at.at c.reach-size.result c.mark_at-mark.result c.is_some-waits.result c.loop-at.invariant (omega arith) (sym c.is_under_way.ensures ∙ c.if-not-is_under_way.false) c.mark_at-mark.ensures c.is_some-waits.ensures c.reach-size.ensures in search rules

pub advance-state-requires : goal.advance-state-requires
advance-state-requires c = call_needs c.args.phases c.args.piece.now c.args.from c.loop-at.state c.loop-at.at c.reach-size.result c.mark_at-mark.result c.is_some-waits.result c.loop-at.invariant (omega arith) (sym c.is_under_way.ensures ∙ c.if-not-is_under_way.false) c.mark_at-mark.ensures c.is_some-waits.ensures c.reach-size.ensures

pub loop-at-smaller : goal.loop-at-smaller
loop-at-smaller c = let z = call_fits c.args.phases c.args.piece.now c.args.from c.loop-at.state c.loop-at.at c.reach-size.result c.mark_at-mark.result c.is_some-waits.result c.loop-at.invariant (omega arith) (sym c.is_under_way.ensures ∙ c.if-not-is_under_way.false) c.mark_at-mark.ensures c.is_some-waits.ensures c.reach-size.ensures in
    let y = call_some c.args.phases c.args.piece.now c.args.from c.loop-at.state c.loop-at.at c.reach-size.result c.mark_at-mark.result c.is_some-waits.result c.loop-at.invariant (omega arith) (sym c.is_under_way.ensures ∙ c.if-not-is_under_way.false) c.mark_at-mark.ensures c.is_some-waits.ensures c.reach-size.ensures in
    omega arith

pub loop-at-preserved : goal.loop-at-preserved
loop-at-preserved c = call_next c.args.phases c.args.piece.now c.args.from c.loop-at.state c.loop-at.at c.reach-size.result c.mark_at-mark.result c.is_some-waits.result c.loop-at.invariant (omega arith) (sym c.is_under_way.ensures ∙ c.if-not-is_under_way.false) c.mark_at-mark.ensures c.is_some-waits.ensures c.reach-size.ensures c.advance-state.result c.advance-state.ensures

pub returns-after-loop-at : goal.returns-after-loop-at
returns-after-loop-at c = through_done c.args.phases c.args.piece.now c.args.from c.loop-at.state c.loop-at.at c.loop-at.invariant (omega arith)

pub returns-then-not-is_under_way : goal.returns-then-not-is_under_way
returns-then-not-is_under_way c = through_over c.args.phases c.args.piece.now c.args.from c.loop-at.state c.loop-at.at c.loop-at.invariant (sym c.is_under_way.ensures ∙ c.if-not-is_under_way.true)
