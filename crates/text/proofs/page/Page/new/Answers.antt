-- `text::Page::new` meets its contract. Assumes nothing.
use mathlib.Core.Path.{refl}
use Rattle.text.specs.Pages.{text_on}
use Rattle.text.proofs.page.Page.new.Goals as goal

pub returns : goal.returns
unfolding text_on
returns g c = rw c.front.ensures refl
