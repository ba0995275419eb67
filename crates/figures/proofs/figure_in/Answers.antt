-- `figures::figure_in` meets its contract. Assumes nothing.
use mathlib.Core.Path.{◌∙◌}
use Rattle.figures.proofs.FigureLaws.{long-word, no_figure, digits_all, figure_is}
use Rattle.figures.proofs.figure_in.Goals as goal

pub returns-then-too_long : goal.returns-then-too_long
returns-then-too_long c = long-word c.args.word.now c.if-too_long.true

pub value_in-requires : goal.value_in-requires
value_in-requires c = let word = c.args.word.now in
    (digits_all word c.number_in.ensures c.in_ok-number_in.was, c.if-too_long.false)

pub returns : goal.returns
returns c = let word = c.args.word.now in
    figure_is word c.number_in.ensures c.in_ok-number_in.was c.if-too_long.false c.value_in.ensures

pub returns-in_err-number_in : goal.returns-in_err-number_in
returns-in_err-number_in c = c.from_residual.ensures ∙ no_figure c.args.word.now c.number_in.ensures c.in_err-number_in.was
