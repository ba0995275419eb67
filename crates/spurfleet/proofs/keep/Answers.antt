-- `spurfleet::keep` meets its contract. Assumes nothing.
use mathlib.Core.Path.{sym, ap}
use Rattle.spurfleet.specs.Words.{is_figure, with_figure}
use Rattle.spurfleet.proofs.keep.Goals as goal

pub returns-in-Some : goal.returns-in-Some
returns-in-Some c = let a = c.args in
    let e = c.in-Some.is in
    (sym (ap is_figure e), sym (ap (with_figure a.numbers.now a.at) e))
