-- `fleet::with_figure` meets its contract: what is left is carried where it comes to n. Assumes nothing.
use native.Mathlib.Omega.{arith}
use Rattle.fleet.proofs.Dividing.{part_less, carried_not, carried, mean_fits, carried_fits}
use Rattle.fleet.proofs.with_figure.Goals as goal

pub overflow_sub-lacking : goal.overflow_sub-lacking
overflow_sub-lacking c = let a = c.args in let l = part_less a.n a.share.mean a.share.remainder a.x c.requires.0 in omega arith

pub overflow_add-result : goal.overflow_add-result
overflow_add-result c = let a = c.args in record { fits = mean_fits a.n a.share.mean a.share.remainder a.x c.requires.0 c.requires.1 }

pub returns-then-share-lacking : goal.returns-then-share-lacking
returns-then-share-lacking c = let a = c.args in
    (omega arith, carried_not a.n a.share.mean a.share.remainder a.x c.requires.0)

pub overflow_add-result-2 : goal.overflow_add-result-2
overflow_add-result-2 c = let a = c.args in record { fits = mean_fits a.n a.share.mean a.share.remainder a.x c.requires.0 c.requires.1 }

pub overflow_add-result-3 : goal.overflow_add-result-3
overflow_add-result-3 c = let a = c.args in record { fits = carried_fits a.n a.share.mean a.share.remainder a.x c.requires.0 c.requires.1 c.if-share-lacking.false }

pub returns : goal.returns
returns c = let a = c.args in
    (omega arith, carried a.n a.share.mean a.share.remainder a.x c.requires.0 c.if-share-lacking.false)
