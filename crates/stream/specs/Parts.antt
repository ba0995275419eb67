-- Bytes that complete a torn record.
use Rattle.std.specs.Prelude.{ℕ, ◌+◌, List, cond, leb, length}
use Rattle.std.proofs.Math.Seq.{paste}

-- the bytes of a part in an array, from a place on; the array as it is where it has no room for them there
unfoldable pub filled_of : List ℕ → ℕ → List ℕ → List ℕ
filled_of array at part = cond (leb (at + length part) (length array)) (paste array at part (length part)) array
