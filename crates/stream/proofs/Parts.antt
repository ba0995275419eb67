-- Bytes that complete a torn record have room. Assumes nothing.
use Rattle.std.proofs.Common.{◌≡◌, ℕ, ◌+◌, ◌≤◌, List, length, arith}
use Rattle.std.proofs.Math.Seq.{paste}
use Rattle.stream.specs.Parts.{filled_of}

-- where the part has room in the array, the bytes stand there
pub filled_in : (array : List ℕ) (at : ℕ) (part next : List ℕ) → length array ≡ 16 → at + length part ≤ 16 → next ≡ filled_of array at part → next ≡ paste array at part (length part)
unfolding filled_of
filled_in array at part next sixteen room e = grind arith
