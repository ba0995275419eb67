-- `text::number_in` meets its contract: what was read so far, with the bytes that are left, says what the word says.
-- Assumes nothing.
use Prim.Native.Nat.{◌≤◌, ◌^◌}
use lib.ListN.{drop}
use Rattle.text.proofs.NumberLaws.{Left}
use Rattle.text.proofs.number_in.Given as goal

abbrev pub invariant-loop-byte : goal.invariant-loop-byte
invariant-loop-byte l = (l.value ≤ 2 ^ 32) × Left l.word l.value (drop l.byte-index l.word)
