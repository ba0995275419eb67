use mathlib.Core.Path.{sym, ap, ◌∙◌}
use mathlib.Core.List.{List, ◌++◌}
use Prim.Native.Nat.{ℕ}
use native.Mathlib.Omega.{arith}
use lib.ListN.{drop, length-set}
use lib.Seq.{sets-eq}
use Rattle.record.proofs.Widths.{arb-lt, vad_lt}
use Rattle.record.proofs.Packing.{bytes_of, packed_is}
use Rattle.record.proofs.write_fields.Goals as goal

pub bounds-part-1 : goal.bounds-part-1
bounds-part-1 c = simp length-set (omega arith)

pub bounds-part-2 : goal.bounds-part-2
bounds-part-2 c = simp length-set (omega arith)

pub bounds-part-3 : goal.bounds-part-3
bounds-part-3 c = simp length-set (omega arith)

pub byte_four-requires : goal.byte_four-requires
byte_four-requires c = arb-lt _ c.requires.1

pub bounds-part-4 : goal.bounds-part-4
bounds-part-4 c = simp length-set (omega arith)

pub bounds-part-5 : goal.bounds-part-5
bounds-part-5 c = simp length-set (omega arith)

pub bounds-part-6 : goal.bounds-part-6
bounds-part-6 c = simp length-set (omega arith)

pub bounds-part-7 : goal.bounds-part-7
bounds-part-7 c = simp length-set (omega arith)

pub bounds-part-8 : goal.bounds-part-8
bounds-part-8 c = simp length-set (omega arith)

pub bounds-part-9 : goal.bounds-part-9
bounds-part-9 c = simp length-set (omega arith)

pub overflow_cast-part-8 : goal.overflow_cast-part-8
overflow_cast-part-8 c = omega (arith, vad_lt _ c.requires.1)

pub bounds-part-10 : goal.bounds-part-10
bounds-part-10 c = simp length-set (omega arith)

pub bounds-part-11 : goal.bounds-part-11
bounds-part-11 c = simp length-set (omega arith)

pub bounds-part-12 : goal.bounds-part-12
bounds-part-12 c = simp length-set (omega arith)

pub bounds-part-13 : goal.bounds-part-13
bounds-part-13 c = simp length-set (omega arith)

pub bounds-part-14 : goal.bounds-part-14
bounds-part-14 c = simp length-set (omega arith)

pub bounds-part-15 : goal.bounds-part-15
bounds-part-15 c = simp length-set (omega arith)

pub shape_of-part : goal.shape_of-part
shape_of-part c = simp length-set

pub returns : goal.returns
returns c = let xs = c.args.part.now in
    rw (c.byte_four.ensures, c.byte_five.ensures, c.byte_nine.ensures)
    (sets-eq (bytes_of c.args.lines) xs 0 c.requires.0 ∙ ap (λ (l : List ℕ). l ++ drop 16 xs) (sym (packed_is c.args.lines c.requires.1)))
