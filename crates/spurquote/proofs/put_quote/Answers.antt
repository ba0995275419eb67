-- `spurquote::put_quote` meets its contract: the line of the answer, whichever it is. Assumes nothing.
use mathlib.Core.Path.{ap, ◌∙◌}
use mathlib.Core.List.{List}
use Prim.Native.Nat.{ℕ}
use Rattle.text.specs.Pages.{grown}
use Rattle.printed.specs.Lines.{refused_line}
use Rattle.spurquote.proofs.Printing.{worst_told, refusal_told}
use Rattle.spurquote.proofs.put_quote.Goals as goal

pub returns-in-Ok : goal.returns-in-Ok
returns-in-Ok g c = let a = c.args in
    let told = worst_told a.slot a.limit _ _ c.narrowed.ensures c.narrowed-2.ensures c.in-Ok.worst c.in-Ok.ensures.0 in
    c.put_worst.ensures ∙ ap (λ (line : List ℕ). grown g.row.N a.page.now line) told

pub returns-in-Err : goal.returns-in-Err
returns-in-Err g c = let a = c.args in
    let told = refusal_told a.slot a.limit _ _ c.narrowed.ensures c.narrowed-2.ensures c.in-Err.refusal c.in-Err.ensures.0 in
    c.add_refused.ensures ∙ ap (λ (line : List ℕ). grown g.row.N a.page.now line) (ap refused_line c.number.ensures ∙ told)
