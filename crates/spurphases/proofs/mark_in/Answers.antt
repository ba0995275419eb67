-- `spurphases::mark_in` meets its contract. Assumes nothing.
use mathlib.Core.Path.{sym, ◌∙◌}
use lib.Seq.{length-take-le}
use Rattle.spurphases.proofs.Wording.{no_mark, mark-found}
use Rattle.spurphases.proofs.mark_in.Goals as goal

pub returns-then-at-word : goal.returns-then-at-word
returns-then-at-word c = no_mark c.args.word.now c.slash_in-at.result c.slash_in-at.ensures.0 c.if-at-word.true

pub slice_bounds-number_in-end : goal.slice_bounds-number_in-end
slice_bounds-number_in-end c = sym (length-take-le _ _ c.slash_in-at.ensures.1)

pub returns : goal.returns
returns c = c.mark_of.ensures ∙ mark-found c.args.word.now c.slash_in-at.result _ _ c.slash_in-at.ensures.0 c.number_in-slot.ensures c.number_in-number.ensures
