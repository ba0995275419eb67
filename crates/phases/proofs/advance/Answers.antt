-- `phases::advance` meets its contract. Assumes nothing.
use Prim.Native.Nat.{◌%◌}
use mathlib.Core.Path.{refl}
use lib.ListN.{length}
use lib.Dec.{eqb, leb}
use borrow.Author.Tests.{eqb-true, leb-true}
use Rattle.basics.proofs.Bools.{and_both}
use Rattle.phases.proofs.Parts.{found-few, advanced_whole, advanced_rest}
use Rattle.phases.proofs.advance.Goals as goal

pub overflow_sub-at : goal.overflow_sub-at
overflow_sub-at c = let n = length c.args.part.now in leb-true 16 n (and_both (eqb (n % 16) 0) (leb 16 n) c.if-part.true).1

pub fed-next-requires : goal.fed-next-requires
fed-next-requires c = c.requires.0.0

pub saw-requires : goal.saw-requires
saw-requires c = let pre = c.requires in found-few c.args.phases pre.0 pre.1.0

pub returns-then-part : goal.returns-then-part
returns-then-part c = let a = c.args in
    let pre = c.requires in
    let n = length a.part.now in
    let both = and_both (eqb (n % 16) 0) (leb 16 n) c.if-part.true in
    advanced_whole a.phases pre.0 pre.1.0 pre.1.1.0 a.part.now pre.1.1.1 c.fed-next.result c.lines_in.result c.saw.result (eqb-true (n % 16) 0 both.0) (leb-true 16 n both.1) c.fed-next.ensures c.lines_in.ensures c.saw.ensures

pub returns : goal.returns
returns c = let a = c.args in
    let pre = c.requires in
    advanced_rest a.phases pre.0 pre.1.0 pre.1.1.0 a.part.now pre.1.1.1 c.fed-next.result _ c.if-part.false c.fed-next.ensures refl
