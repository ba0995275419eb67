-- `phases::finish` meets its contract. Assumes nothing.
use mathlib.Core.Bool.{cond}
use mathlib.Core.Path.{◌≡◌, sym, ◌∙◌}
use Rattle.basics.proofs.Bools.{cond-true, cond-false}
use Rattle.marks.specs.declared.Why.TheVariants.{Complete}
use Rattle.marks.specs.State.{lacking, no_report}
use Rattle.phases.proofs.Calls.{bounded, reported, report_is, report_none}
use Rattle.phases.proofs.finish.Goals.{After-differences-diffs, then-complete, else-complete}
use Rattle.phases.proofs.finish.Goals as goal

pub returns-then-not-in_bounds : goal.returns-then-not-in_bounds
unfolding no_report
returns-then-not-in_bounds c = let p = c.args.phases in reported p no_report (report_none p c.in_bounds.result c.in_bounds.ensures c.if-not-in_bounds.true)

pub differences-diffs-requires : goal.differences-diffs-requires
differences-diffs-requires c = let h = bounded c.args.phases (sym c.in_bounds.ensures ∙ c.if-not-in_bounds.false) in (h.few, h.rises)

reason : (c : After-differences-diffs) → c.if-complete.why ≡ cond c.all_found-complete.result Complete (lacking c.args.phases.search.found c.finish-ending.result.verdict)
reason c =
    elim c.if-complete.branch [
      | then-complete w ↦ w.why-is ∙ sym (cond-true _ _ w.if-complete.true)
      | else-complete w ↦ w.why-is ∙ w.why_lacking-why.ensures ∙ sym (cond-false _ _ w.if-complete.false)
    ]

pub returns : goal.returns
returns c = let p = c.args.phases in
    reported p _ (report_is p c.in_bounds.result c.all_found-complete.result c.finish-ending.result c.if-complete.why c.differences-diffs.result c.in_bounds.ensures c.if-not-in_bounds.false c.finish-ending.ensures.0 c.all_found-complete.ensures (reason (goal.at.returns c).After-differences-diffs) c.differences-diffs.ensures)
