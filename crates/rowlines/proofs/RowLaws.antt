-- How long a row is at most, where every number has twenty digits. Assumes nothing.
use Prim.Native.Nat.{ℕ, ◌≤◌}
use mathlib.Core.List.{List}
use native.Mathlib.Omega.{arith}
use lib.Dec.{eqb}
use lib.ListN.{length, length-append}
use Rattle.basics.specs.Lines.{one}
use Rattle.basics.proofs.Bools.{choice}
use Rattle.record.specs.declared.Record.{Record}
use Rattle.printed.proofs.LineLaws.{most}
use Rattle.figures.specs.Times.{nanoseconds_of}
use Rattle.rowlines.specs.Rows.{standing, control_lines, transfer_lines, virtual_lines, row_line}

nanoseconds_most : (cycles : ℕ) → length (nanoseconds_of cycles) ≤ 22
unfolding nanoseconds_of
nanoseconds_most cycles =
    choice (λ (l : List ℕ). length l ≤ 22) (eqb cycles 0) (λ _. omega arith) (λ _. simp length-append (omega (arith, most cycles)))

standing-most : (i cycle gap : ℕ) → length (standing i cycle gap) ≤ 105
unfolding standing
standing-most i cycle gap = simp length-append (omega (arith, most i, most cycle, most gap, nanoseconds_most cycle))

control_most : (r : Record) → length (control_lines r) ≤ 130
unfolding control_lines
control_most r =
    simp length-append
    (omega (arith, most (one r.reset), most (one r.rqst), most r.arb, most (one r.start), most (one r.ack)))

transfer-most : (r : Record) → length (transfer_lines r) ≤ 111
unfolding transfer_lines
transfer-most r =
    simp length-append
    (omega (arith, most (one r.tm1), most (one r.tm0), most (one r.sp), most (one r.spv)))

virtual_most : (r : Record) → length (virtual_lines r) ≤ 119
unfolding virtual_lines
virtual_most r =
    simp length-append
    (omega (arith, most (one r.vtm1), most (one r.vtm0), most (one r.vack), most (one r.vsack)))

pub row-most : (i cycle gap : ℕ) (r : Record) (spare : ℕ) → length (row_line i cycle gap r spare) ≤ 493
unfolding row_line
row-most i cycle gap r spare =
    simp length-append
    (omega (arith, standing-most i cycle gap, control_most r, transfer-most r, virtual_most r, most spare))
