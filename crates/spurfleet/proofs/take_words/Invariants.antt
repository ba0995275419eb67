-- `spurfleet::take_words` meets its contract: after each turn the words so far are taken in. Assumes nothing.
use mathlib.Core.Path.{◌≡◌}
use lib.ListN.{length}
use Rattle.spurfleet.proofs.Wording.{Taking}
use Rattle.spurfleet.proofs.take_words.Given as goal

abbrev pub invariant-loop-next : goal.invariant-loop-next
invariant-loop-next g l = (length l.word ≡ 4096) × (length l.numbers ≡ length l.initial.numbers) × Taking l.count l.next l.numbers l.good
