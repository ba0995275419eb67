-- `figures::value_in` meets its contract: the value so far, with the digits that are left behind it, is the word's. Assumes nothing.
use lib.ListN.{drop}
use Rattle.figures.proofs.FigureLaws.{Left}
use Rattle.figures.proofs.value_in.Given as goal

abbrev pub invariant-loop-byte : goal.invariant-loop-byte
invariant-loop-byte l = Left l.word l.value l.byte-index (drop l.byte-index l.word)
