-- `spurseconds::tell_all` meets its contract: after each turn the words so far are printed. Assumes nothing.
use mathlib.Core.Path.{◌≡◌}
use lib.ListN.{length}
use Rattle.spurseconds.proofs.LineLaws.{Telling}
use Rattle.spurseconds.proofs.tell_all.Given as goal

abbrev pub invariant-loop-next : goal.invariant-loop-next
invariant-loop-next g l = (length l.word ≡ 4096) × Telling l.words l.next
