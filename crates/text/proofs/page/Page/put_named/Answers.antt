-- `text::Page::put_named` meets its contract. Assumes nothing.
use mathlib.Core.Path.{◌≡◌, ◌∙◌}
use mathlib.Core.List.{◌++◌}
use lib.ListN.{length}
use native.Mathlib.Omega.{arith}
use Rattle.std.proofs.Common.{rules}
use Rattle.text.specs.Decimal.{decimal_of}
use Rattle.text.proofs.PageLaws.{text_put, moved_within}
use Rattle.text.proofs.page.Page.put_named.Goals as goal

pub invariant_of-self : goal.invariant_of-self
invariant_of-self g c = let k : length c.self.inside.bytes ≡ g.row.N = search rules in
    rw c.put_named-self-inside.ensures.0 (omega (arith, moved_within (length c.self.inside.bytes)))

pub returns : goal.returns
returns g c = let k : length c.self.inside.bytes ≡ g.row.N = search rules in
    rw (c.put_named-self-inside.ensures.0, c.put_named-self-inside.ensures.1)
    (text_put c.self.inside.bytes (c.args.name.now ++ decimal_of c.args.n) c.self.inside.place (omega arith) ∙ rw (k, c.self.view_is))
