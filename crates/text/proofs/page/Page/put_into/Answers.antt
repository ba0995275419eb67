-- `text::Page::put_into` meets its contract. Assumes nothing.
use mathlib.Core.Path.{refl, sym, ◌∙◌}
use Rattle.text.proofs.PageLaws.{text_here, text_lost}
use Rattle.text.proofs.page.Page.put_into.Goals as goal

pub returns-then-self : goal.returns-then-self
returns-then-self g c = rw (sym c.self.view_is ∙ text_here c.self.inside.place c.self.inside.bytes c.if-self.true) c.put_word.ensures

pub returns-else-self : goal.returns-else-self
returns-else-self g c = rw (sym c.self.view_is ∙ text_lost c.self.inside.place c.self.inside.bytes c.if-self.false) (refl, refl)
