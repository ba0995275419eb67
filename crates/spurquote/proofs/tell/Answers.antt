-- `spurquote::tell` meets its contract: the page has room for the line, and is put at once. Assumes nothing.
use mathlib.Core.Path.{sym, ◌∙◌}
use Rattle.std.proofs.Common.{rules}
use Rattle.text.specs.Places.{front}
use Rattle.text.proofs.PageLaws.{page_made}
use Rattle.spurquote.specs.Pages.{quote_line}
use Rattle.spurquote.proofs.Printing.{line-most, prints, prints_none}
use Rattle.spurquote.proofs.tell.Goals as goal

pub returns-in_err-slot : goal.returns-in_err-slot
returns-in_err-slot c = prints_none _ _ _ (sym c.asked_for.ensures ∙ c.in_err-slot.was) (search rules)

pub returns : goal.returns
returns c =
    let slot = c.in_ok-slot.slot in
    let limit = c.in_ok-slot.limit in
    let put = page_made 256 (quote_line slot limit) c.new-page.ensures c.put_quote.ensures c.args.buffer.now front (line-most slot limit) (rw c.front.ensures at c.put_into.ensures) in
    prints _ slot limit _ _ _ (sym c.asked_for.ensures ∙ c.in_ok-slot.was) c.requires put
