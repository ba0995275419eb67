-- `spurquote::say` meets its contract: what it prints stands on the page. Assumes nothing.
use mathlib.Core.Path.{sym}
use lib.Seq.{length-take-le}
use Rattle.spurquote.proofs.Printing.{line-within}
use Rattle.spurquote.proofs.say.Goals as goal

pub slice_bounds-text-end : goal.slice_bounds-text-end
slice_bounds-text-end c = line-within _ c.tell.new.buffer _ c.in-Some.ensures

pub slice_bounds-print-end : goal.slice_bounds-print-end
slice_bounds-print-end c = sym (length-take-le _ c.tell.new.buffer (line-within _ c.tell.new.buffer _ c.in-Some.ensures))
