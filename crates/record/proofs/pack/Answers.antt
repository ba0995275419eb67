use Prim.Native.Nat.{◌+◌, ◌≤◌}
use mathlib.Core.Path.{◌≡◌, sym, ◌∙◌}
use mathlib.Core.Bool.{false}
use native.Mathlib.Omega.{arith}
use lib.ListN.{length, length-take, length-drop}
use Rattle.record.specs.Layout.{packed}
use Rattle.record.specs.Packing.{too_wide}
use Rattle.record.proofs.Packing.{refused_wide, refused-few, written, part_back, room}
use Rattle.record.proofs.pack.Goals.{After-is_too_few, Else-is_too_few}
use Rattle.record.proofs.pack.Goals as goal

-- no field is too wide
narrow_at : (c : After-is_too_few) → too_wide c.args.lines ≡ false
narrow_at c = sym c.is_too_wide.ensures ∙ c.if-is_too_wide.false

-- sixteen bytes are there
room_at : (c : Else-is_too_few) → c.args.at + 16 ≤ length c.args.buf.now
room_at c = let a = c.args in
    room (length a.buf.now) a.at (sym c.is_too_few.ensures ∙ c.if-is_too_few.false)

pub returns-then-is_too_wide : goal.returns-then-is_too_wide
returns-then-is_too_wide c = let a = c.args in
    refused_wide a.buf.now a.at a.lines (sym c.is_too_wide.ensures ∙ c.if-is_too_wide.true)

pub returns-then-is_too_few : goal.returns-then-is_too_few
returns-then-is_too_few c = let a = c.args in
    refused-few a.buf.now a.at a.lines (narrow_at (goal.at.returns-then-is_too_few c).After-is_too_few) (sym c.is_too_few.ensures ∙ c.if-is_too_few.true)

pub slice_bounds-write_fields-count : goal.slice_bounds-write_fields-count
slice_bounds-write_fields-count c = omega (arith, room_at c)

pub slice_bounds-write_fields-start : goal.slice_bounds-write_fields-start
slice_bounds-write_fields-start c = omega (arith, room_at c)

pub write_fields-requires : goal.write_fields-requires
write_fields-requires c = (simp (length-take, length-drop) (omega (arith, room_at (goal.at.write_fields-requires c).Else-is_too_few)), narrow_at (goal.at.write_fields-requires c).After-is_too_few)

pub returns : goal.returns
returns c = let a = c.args in
    let d = written a.buf.now a.at a.lines (narrow_at (goal.at.returns c).After-is_too_few) (sym c.is_too_few.ensures ∙ c.if-is_too_few.false) in
    (d.0, part_back a.buf.now (packed a.lines) c.write_fields.new.part a.at 16 (room_at (goal.at.returns c).Else-is_too_few) c.write_fields.ensures ∙ d.1)
