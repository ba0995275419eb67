-- `spurfleet::main` meets its contract. Assumes nothing.
use mathlib.Core.Path.{refl, sym}
use lib.Seq.{length-take-le}
use Rattle.spurfleet.proofs.Wording.{line-within}
use Rattle.spurfleet.proofs.main.Goals as goal

pub slice_bounds-line-end : goal.slice_bounds-line-end
slice_bounds-line-end c = line-within _ _ _ _ c.in-Ok.ensures refl

pub slice_bounds-print-end : goal.slice_bounds-print-end
slice_bounds-print-end c = sym (length-take-le _ c.told.new.line (line-within _ _ _ _ c.in-Ok.ensures refl))
