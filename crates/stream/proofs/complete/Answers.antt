-- `stream::complete` meets its contract. Assumes nothing.
use mathlib.Core.Path.{sym}
use native.Mathlib.Omega.{arith}
use lib.Seq.{length-take-le}
use Rattle.stream.proofs.Parts.{filled_in}
use Rattle.stream.proofs.Calls.{fills, front-size, goes_on, ends_there, bounds_kept}
use borrow.Author.Rules.{rules}
use Rattle.stream.proofs.complete.Goals as goal

pub slice_bounds-filled-end : goal.slice_bounds-filled-end
slice_bounds-filled-end c = let h = c.min-n.ensures in sym (length-take-le _ _ (omega arith))

pub slice_bounds-go_on-end : goal.slice_bounds-go_on-end
slice_bounds-go_on-end c = let a = c.args.stream in front-size a.torn c.args.piece.now a.held c.min-n.result (search rules) c.requires.1.1.1 c.min-n.ensures c.filled-front.result (filled_in a.torn a.held _ c.filled-front.result (search rules) (fills a.torn c.args.piece.now a.held c.min-n.result (search rules) c.requires.1.1.1 c.min-n.ensures) c.filled-front.ensures)

pub go_on-requires : goal.go_on-requires
go_on-requires c = let a = c.args.stream in let pre = c.requires in bounds_kept a.judge a.tally _ c.go_on-first.result pre.0 pre.1.0 pre.1.1.0 c.go_on-first.ensures

pub returns-then-is_going-n : goal.returns-then-is_going-n
returns-then-is_going-n c = let a = c.args.stream in
    let pre = c.requires in
    goes_on a.torn c.args.piece.now a.held c.min-n.result (search rules) pre.1.1.1 c.min-n.ensures
    a.judge a.tally pre.1.1.0 c.filled-front.result (filled_in a.torn a.held _ c.filled-front.result (search rules) (fills a.torn c.args.piece.now a.held c.min-n.result (search rules) c.requires.1.1.1 c.min-n.ensures) c.filled-front.ensures) c.go_on-first.result c.go_on-first.ensures c.is_going.result c.is_going.ensures
    c.go_on.result c.go_on.ensures c.if-is_going-n.true

pub returns : goal.returns
returns c = let a = c.args.stream in
    let pre = c.requires in
    ends_there a.torn c.args.piece.now a.held c.min-n.result (search rules) pre.1.1.1 c.min-n.ensures
    a.judge a.tally pre.1.1.0 c.filled-front.result (filled_in a.torn a.held _ c.filled-front.result (search rules) (fills a.torn c.args.piece.now a.held c.min-n.result (search rules) c.requires.1.1.1 c.min-n.ensures) c.filled-front.ensures) c.go_on-first.result c.go_on-first.ensures c.is_going.result c.is_going.ensures
    c.if-is_going-n.false
