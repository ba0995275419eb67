-- `figures::add_digits` meets its contract: the speller leaves the digits at the end of the glyphs, which are put at once. Assumes nothing.
use mathlib.Core.Path.{ap, ◌∙◌}
use Rattle.text.specs.Pages.{grown}
use Rattle.figures.specs.Times.{base_of}
use Rattle.figures.proofs.TimeLaws.{spelled_is}
use Rattle.figures.proofs.add_digits.Goals as goal

pub returns : goal.returns
returns g c = let a = c.args in
    c.put.ensures ∙ ap (grown g.row.N a.page.now) (spelled_is c.spell.new.glyphs (base_of a.base) a.width a.n c.spell.auto.glyphs c.min-first.ensures c.base_of.ensures.0 c.spell.ensures)
