-- `phaselines::add_diff` meets its contract: nothing for the first mark, the difference for another. Assumes nothing.
use Prim.Native.Nat.{ℕ}
use mathlib.Core.Path.{sym, ap, ◌∙◌}
use Rattle.text.specs.Pages.{grown}
use Rattle.text.proofs.PageLaws.{grown_nil}
use Rattle.phaselines.specs.Lines.{diff_part}
use Rattle.phaselines.proofs.LineLaws.{diff_later}
use Rattle.phaselines.proofs.add_diff.Goals as goal

pub returns-then-first : goal.returns-then-first
returns-then-first g c = let a = c.args in
    sym (ap (λ (k : ℕ). grown g.row.N a.page.now (diff_part k a.diff)) c.if-first.true ∙ grown_nil g.row.N a.page.now)

pub returns : goal.returns
returns g c = let a = c.args in c.put_named.ensures ∙ sym (ap (grown g.row.N a.page.now) (diff_later a.k a.diff c.if-first.false))
