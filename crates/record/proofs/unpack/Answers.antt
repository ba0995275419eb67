use Prim.Native.Nat.{ℕ, ◌-◌, ◌+◌, ◌≤◌}
use mathlib.Core.Path.{◌≡◌, sym, ap, ◌∙◌}
use mathlib.Core.List.{List}
use native.Mathlib.Omega.{arith}
use lib.ListN.{length, take, drop, length-take, length-drop}
use lib.Seq.{take_all}
use Rattle.record.specs.Packing.{parsed}
use Rattle.record.proofs.Packing.{room}
use Rattle.record.proofs.Unpacking.{few, enough}
use Rattle.record.proofs.unpack.Goals.{Else-is_too_few}
use Rattle.record.proofs.unpack.Goals as goal

-- sixteen bytes are there
room_at : (c : Else-is_too_few) → c.args.at + 16 ≤ length c.args.buf.now
room_at c = let a = c.args in
    room (length a.buf.now) a.at (sym c.is_too_few.ensures ∙ c.if-is_too_few.false)

pub returns-then-is_too_few : goal.returns-then-is_too_few
returns-then-is_too_few c = few c.args.buf.now c.args.at (sym c.is_too_few.ensures ∙ c.if-is_too_few.true)

pub slice_bounds-read_part-count : goal.slice_bounds-read_part-count
slice_bounds-read_part-count c = omega (arith, room_at c)

pub slice_bounds-read_part-start : goal.slice_bounds-read_part-start
slice_bounds-read_part-start c = omega (arith, room_at c)

pub read_part-requires : goal.read_part-requires
read_part-requires c = simp (length-take, length-drop) (omega (arith, room_at (goal.at.read_part-requires c).Else-is_too_few))

pub returns : goal.returns
returns c = let a = c.args in
    let xs = a.buf.now in
    let t : take (length xs - a.at) (drop a.at xs) ≡ drop a.at xs = take_all (length xs - a.at) (drop a.at xs) (simp length-drop (omega arith)) in
    c.read_part.ensures ∙ ap (λ (l : List ℕ). parsed (take 16 l)) t ∙ sym (enough xs a.at (sym c.is_too_few.ensures ∙ c.if-is_too_few.false))
