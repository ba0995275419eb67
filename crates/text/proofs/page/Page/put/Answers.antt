-- `text::Page::put` meets its contract. Assumes nothing.
use mathlib.Core.Path.{◌≡◌, ◌∙◌}
use lib.ListN.{length}
use native.Mathlib.Omega.{arith}
use Rattle.std.proofs.Common.{rules}
use Rattle.text.proofs.PageLaws.{text_put, moved_within}
use Rattle.text.proofs.page.Page.put.Goals as goal

pub invariant_of-self : goal.invariant_of-self
invariant_of-self g c = let k : length c.self.inside.bytes ≡ g.row.N = search rules in
    rw c.put_word-self-inside.ensures.0 (omega (arith, moved_within (length c.self.inside.bytes)))

pub returns : goal.returns
returns g c = let k : length c.self.inside.bytes ≡ g.row.N = search rules in
    rw (c.put_word-self-inside.ensures.0, c.put_word-self-inside.ensures.1)
    (text_put c.self.inside.bytes c.args.word.now c.self.inside.place (omega arith) ∙ rw (k, c.self.view_is))
