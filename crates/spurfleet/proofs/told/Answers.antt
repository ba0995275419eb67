-- `spurfleet::told` meets its contract. Assumes nothing.
use mathlib.Core.Path.{sym}
use lib.Seq.{length-take-le}
use Rattle.spurfleet.specs.Words.{amiss, many}
use Rattle.spurfleet.proofs.Wording.{told_line}
use borrow.Author.Rules.{rules}
use Rattle.spurfleet.proofs.told.Goals as goal

pub returns-then-count-gt-MOST : goal.returns-then-count-gt-MOST
returns-then-count-gt-MOST g c = many c.if-count-gt-MOST.true

pub returns-then-not-take_words : goal.returns-then-not-take_words
returns-then-not-take_words g c = let given = c.take_words.ensures in amiss given.words c.if-count-gt-MOST.false given.size (given.amiss c.if-not-take_words.true)

pub slice_bounds-summarize-end : goal.slice_bounds-summarize-end
slice_bounds-summarize-end g c = sym (length-take-le _ c.take_words.new.numbers (search rules))

pub returns : goal.returns
returns g c = told_line c.args.count c.args.line.now _ c.take_words.new.numbers _ _ _ _ c.requires c.if-count-gt-MOST.false c.take_words.ensures c.if-not-take_words.false c.summarize-summary.ensures c.front.ensures c.put_summary-end.ensures
