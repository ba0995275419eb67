-- `phases::first_record` meets its contract. Assumes nothing.
use mathlib.Core.Path.{sym}
use lib.Seq.{length-take-le}
use native.Mathlib.Omega.{arith}
use borrow.Author.Rules.{rules}
use Rattle.phases.proofs.Parts.{few, found-few, waits_bounds, first_is}
use Rattle.phases.proofs.first_record.Goals as goal

pub overflow_sub-last : goal.overflow_sub-last
overflow_sub-last c = let pre = c.requires in let h = few c.args.phases pre.0 pre.1.0 in let l = pre.1.1 in omega arith

pub slice_bounds-fed-end : goal.slice_bounds-fed-end
slice_bounds-fed-end c = let pre = c.requires in let h = few c.args.phases pre.0 pre.1.0 in let l = pre.1.1 in sym (length-take-le _ _ (omega arith))

pub bounds-piece-last : goal.bounds-piece-last
bounds-piece-last c = let pre = c.requires in let h = few c.args.phases pre.0 pre.1.0 in let l = pre.1.1 in omega arith

pub slice_bounds-fed-end-2 : goal.slice_bounds-fed-end-2
slice_bounds-fed-end-2 c = let pre = c.requires in let h = few c.args.phases pre.0 pre.1.0 in let l = pre.1.1 in omega arith

pub fed-waits-requires : goal.fed-waits-requires
fed-waits-requires c = c.requires.0.0

pub fed-next-requires : goal.fed-next-requires
fed-next-requires c = let a = c.args in
    let pre = c.requires in
    waits_bounds a.phases pre.0 pre.1.0 (search rules) a.piece.now pre.1.1 c.fed-waits.result c.fed-waits.ensures

pub saw-requires : goal.saw-requires
saw-requires c = let pre = c.requires in found-few c.args.phases pre.0 pre.1.0

pub returns : goal.returns
returns c = let a = c.args in
    let pre = c.requires in
    first_is a.phases pre.0 pre.1.0 (search rules) a.piece.now pre.1.1 c.fed-waits.result c.fed-next.result c.completed-lines.result c.saw.result c.fed-waits.ensures c.fed-next.ensures c.completed-lines.ensures c.saw.ensures
