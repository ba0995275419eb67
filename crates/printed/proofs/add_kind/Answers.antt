-- `printed::add_kind` meets its contract, kind by kind. Assumes nothing.
use mathlib.Core.Path.{sym, ap, ◌∙◌}
use native.Mathlib.Omega.{arith}
use Rattle.text.specs.Pages.{grown}
use Rattle.text.proofs.PageLaws.{grown_nil}
use Rattle.printed.proofs.LineLaws.{letter_a, letter_b, letter_c, letter_none}
use Rattle.printed.proofs.add_kind.Goals as goal

pub returns-in-1 : goal.returns-in-1
returns-in-1 g c = c.put.ensures ∙ ap (grown g.row.N c.args.page.now) (sym (letter_a c.args.kind c.in-1.is))

pub returns-in-2 : goal.returns-in-2
returns-in-2 g c = c.put-in-2.ensures ∙ ap (grown g.row.N c.args.page.now) (sym (letter_b c.args.kind (λ e. omega arith) c.in-2.is))

pub returns-in-3 : goal.returns-in-3
returns-in-3 g c = c.put-in-3.ensures ∙ ap (grown g.row.N c.args.page.now) (sym (letter_c c.args.kind (λ e. omega arith) (λ e. omega arith) c.in-3.is))

pub returns-in_default : goal.returns-in_default
returns-in_default g c = sym (ap (grown g.row.N c.args.page.now) (letter_none c.args.kind (λ e. omega arith) (λ e. omega arith) (λ e. omega arith)) ∙ grown_nil g.row.N c.args.page.now)
