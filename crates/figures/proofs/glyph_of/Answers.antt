-- `figures::glyph_of` meets its contract. Assumes nothing.
use mathlib.Core.Path.{sym}
use Rattle.figures.proofs.DigitLaws.{glyph_low, glyph_high}
use Rattle.figures.proofs.glyph_of.Goals as goal

pub returns-then-d-lt10 : goal.returns-then-d-lt10
returns-then-d-lt10 c = sym (glyph_low _ c.if-d-lt10.true)

pub returns-else-d-lt10 : goal.returns-else-d-lt10
returns-else-d-lt10 c = sym (glyph_high _ c.if-d-lt10.false)
