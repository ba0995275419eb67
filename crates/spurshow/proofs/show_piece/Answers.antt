-- `spurshow::show_piece` meets its contract: what is left of the piece brings the walk and the text to where they have to come. Assumes nothing.
use mathlib.Core.Path.{refl, sym, ◌∙◌}
use native.Mathlib.Omega.{arith}
use borrow.Author.Rules.{rules}
use Rattle.spurshow.proofs.Showing.{part_is, part_size, along_start, along_next, along_end, along_over}
use Rattle.spurshow.proofs.show_piece.Goals as goal

pub loop-i-init : goal.loop-i-init
loop-i-init c = let a = c.args in along_start a.asked a.walk a.piece.now a.text.now _ refl c.requires.0 _ c.front-place.ensures

pub overflow_mul-at : goal.overflow_mul-at
overflow_mul-at c = let h = c.loop-i.invariant.all in search rules

pub overflow_add-end : goal.overflow_add-end
overflow_add-end c = let h = c.loop-i.invariant.all in search rules

pub slice_bounds-show_record-count : goal.slice_bounds-show_record-count
slice_bounds-show_record-count c = let h = c.loop-i.invariant.all in search rules

pub show_record-next-requires : goal.show_record-next-requires
show_record-next-requires c = let h = c.loop-i.invariant.all in
    (c.loop-i.invariant.bounds, (sym c.is_going.ensures ∙ c.if-not-is_going.false, part_size c.args.piece.now c.loop-i.i (omega arith)))

pub loop-i-preserved : goal.loop-i-preserved
loop-i-preserved c = let a = c.args in
    along_next a.asked a.walk a.piece.now a.text.now _ c.loop-i.i c.loop-i.state c.loop-i.text c.loop-i.place c.loop-i.invariant _ _ _ _ c.loop-i-test.true (sym c.is_going.ensures ∙ c.if-not-is_going.false) (part_is a.piece.now c.loop-i.i) c.show_record-next.ensures.0 c.show_record-next.ensures.1

pub shape_of-text-after-loop-i : goal.shape_of-text-after-loop-i
shape_of-text-after-loop-i c = c.loop-i.invariant.adds.kept

pub returns-after-loop-i : goal.returns-after-loop-i
returns-after-loop-i c = let a = c.args in
    let pre = c.requires in
    let d = along_end a.asked a.walk a.piece.now a.text.now _ c.loop-i.i c.loop-i.state c.loop-i.text c.loop-i.place c.loop-i.invariant pre.1.0 pre.1.1 c.loop-i-test.false in
    record { walk_value = (d.walks, d.made.text); walk_value_2 = (d.bounds, (d.made.within, d.made.size)) }

pub shape_of-text-then-not-is_going : goal.shape_of-text-then-not-is_going
shape_of-text-then-not-is_going c = c.loop-i.invariant.adds.kept

pub returns-then-not-is_going : goal.returns-then-not-is_going
returns-then-not-is_going c = let a = c.args in
    let pre = c.requires in
    let d = along_over a.asked a.walk a.piece.now a.text.now _ c.loop-i.i c.loop-i.state c.loop-i.text c.loop-i.place c.loop-i.invariant pre.1.0 pre.1.1 (sym c.is_going.ensures ∙ c.if-not-is_going.true) in
    record { walk_value = (d.walks, d.made.text); walk_value_2 = (d.bounds, (d.made.within, d.made.size)) }
