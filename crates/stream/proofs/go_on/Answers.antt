-- `stream::go_on` meets its contract. Assumes nothing.
use mathlib.Core.Path.{sym}
use native.Mathlib.Omega.{arith}
use lib.Seq.{length-take-le}
use Rattle.feeding.proofs.GoOn.{behind_in}
use borrow.Author.Rules.{rules}
use Rattle.stream.proofs.Parts.{filled_in}
use Rattle.stream.proofs.Calls.{part_few, went_on}
use Rattle.stream.proofs.go_on.Goals as goal

pub slice_bounds-judge_all-end : goal.slice_bounds-judge_all-end
slice_bounds-judge_all-end c = let h = c.min-taken.ensures in sym (length-take-le _ _ (omega arith))

pub slice_bounds-filled-count : goal.slice_bounds-filled-count
slice_bounds-filled-count c = (behind_in c.is_going.result c.args.bytes.now c.pick-behind.result c.pick-behind.ensures).0

pub slice_bounds-filled-start : goal.slice_bounds-filled-start
slice_bounds-filled-start c = (behind_in c.is_going.result c.args.bytes.now c.pick-behind.result c.pick-behind.ensures).0

pub overflow_sub-held : goal.overflow_sub-held
overflow_sub-held c = (behind_in c.is_going.result c.args.bytes.now c.pick-behind.result c.pick-behind.ensures).0

pub returns : goal.returns
returns c = let a = c.args in
    let pre = c.requires in
    went_on a.bytes.now a.judge a.tally pre.0 pre.1.0 pre.1.1
    c.min-taken.result
    c.judge_all-next.result
    c.stop_of-stop.result
    c.is_going.result
    c.pick-behind.result
    c.filled-torn.result
    c.min-taken.ensures
    c.judge_all-next.ensures.0
    c.stop_of-stop.ensures
    c.is_going.ensures
    c.pick-behind.ensures
    (filled_in _ 0 _ c.filled-torn.result (search rules) (part_few c.is_going.result c.args.bytes.now c.pick-behind.result c.pick-behind.ensures) c.filled-torn.ensures)
