-- `spurseconds::tell_all` meets its contract: after each turn the words so far are printed. Assumes nothing.
use mathlib.Core.Path.{sym}
use borrow.Author.Rules.{rules}
use Rattle.std.proofs.lemmas.Result.{err_from_is_err_and}
use Rattle.spurseconds.proofs.LineLaws.{telling_start, telling_on, told-untold, told-all}
use Rattle.spurseconds.proofs.tell_all.Goals as goal

pub loop-next-init : goal.loop-next-init
loop-next-init g c = (sym c.buffer-word.ensures, telling_start _)

pub loop-next-preserved : goal.loop-next-preserved
loop-next-preserved g c = (search rules, telling_on _ _ _ c.loop-next.invariant.1 c.loop-next-test.true _ c.in_ok-tell.ensures)

pub returns-in_err-tell : goal.returns-in_err-tell
returns-in_err-tell g c = let p = err_from_is_err_and c.from_residual.result c.from_residual.ensures.1 in
    rw (p.1, p.2) (told-untold _ _ _ c.loop-next.invariant.1 c.loop-next-test.true _ c.in_err-tell.ensures)

pub returns : goal.returns
returns g c = told-all _ _ c.loop-next.invariant.1 c.loop-next-test.false
