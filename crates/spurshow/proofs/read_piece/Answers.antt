-- `spurshow::read_piece` meets its contract. Assumes nothing.
use Prim.Native.Nat.{ℕ, ◌≤◌}
use mathlib.Core.Path.{sym}
use mathlib.Core.List.{List, ◌++◌}
use native.Mathlib.Omega.{arith}
use lib.ListN.{length, length-append}
use lib.Seq.{length-take-le}
use Rattle.io.specs.Counts.{IsPrefixLen}
use Rattle.spurshow.proofs.read_piece.Goals as goal

-- what counts bytes at the start of a list counts them with more behind it
with-more : (n : ℕ) (xs more : List ℕ) → n ≤ length xs → IsPrefixLen n (xs ++ more)
with-more n xs more within =
    let sum = length-append xs more in
    let still : n ≤ length (xs ++ more) = omega arith in
    (still, sym (length-take-le n (xs ++ more) still))

pub slice_bounds-read_full-end-2 : goal.slice_bounds-read_full-end-2
slice_bounds-read_full-end-2 c = sym (length-take-le c.args.most c.args.buffer.now c.requires)

pub returns : goal.returns
returns c = with-more c.read_full.result c.read_full.new.buf _ c.read_full.ensures.0
