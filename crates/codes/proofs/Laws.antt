-- Laws of START codes: a line by its digit of AD, a block's length by its lines, and what the encoder adds. Assumes nothing.
use Prim.Native.Nat.{ℕ, zero, suc, ◌+◌, ◌%◌, ◌/◌, ◌<◌, ◌^◌}
use mathlib.Core.Path.{◌≡◌}
use mathlib.Core.Bool.{true, false}
use native.Mathlib.Omega.{arith}
use borrow.Author.Tests.{eq-eqb, ne_eqb}
use Rattle.basics.specs.Lines.{bit, active}
use Rattle.basics.specs.Answers.{accepted, refused}
use Rattle.basics.proofs.Bits.{bit-active, bit_inactive}
use Rattle.codes.specs.declared.Unit.{Unit}
use Rattle.codes.specs.declared.Unit.TheVariants.{Byte, Halfword, Word, Two, Four, Eight, Sixteen}
use Rattle.std.specs.Prelude.{Some, None}
use Rattle.codes.specs.declared.Operation.{Operation}
use Rattle.codes.specs.declared.Code.{Code}
use Rattle.codes.specs.Units.{bytes_in, byte_unit, mark_of}
use Rattle.codes.specs.Start.{block_of, encode_of, no_code}

-- what holds at 0, 1, 2 and 3 holds below 4
pub below4 : (P : ℕ → Type 0) → P 0 → P 1 → P 2 → P 3 → (q : ℕ) → q < 4 → P q
below4 P a b c d zero h = a
below4 P a b c d (suc zero) h = b
below4 P a b c d (suc (suc zero)) h = c
below4 P a b c d (suc (suc (suc zero))) h = d
below4 P a b c d (suc (suc (suc (suc q)))) h = absurd (omega arith)

-- line k by the number's digit: the form in which a remainder gives it
pub line_on : (k ad : ℕ) → ad / 2 ^ k % 2 ≡ 1 → active k ad ≡ true
unfolding bit
line_on k ad h = bit-active k ad h

pub line_off : (k ad : ℕ) → ad / 2 ^ k % 2 ≡ 0 → active k ad ≡ false
unfolding bit
line_off k ad h = bit_inactive k ad h

-- a block's length by its lines, from AD2 upwards
module _ (ad : ℕ) where
  pub is_two : active 2 ad ≡ false → block_of ad ≡ Some Two
  unfolding block_of
  is_two h = rw h

  pub is_four : active 2 ad ≡ true → active 3 ad ≡ false → block_of ad ≡ Some Four
  unfolding block_of
  is_four h i = rw (h, i)

  pub is_eight : active 2 ad ≡ true → active 3 ad ≡ true → active 4 ad ≡ false → block_of ad ≡ Some Eight
  unfolding block_of
  is_eight h i j = rw (h, i, j)

  pub is_sixteen : active 2 ad ≡ true → active 3 ad ≡ true → active 4 ad ≡ true → active 5 ad ≡ false → block_of ad ≡ Some Sixteen
  unfolding block_of
  is_sixteen h i j k = rw (h, i, j, k)

  pub no_length : active 2 ad ≡ true → active 3 ad ≡ true → active 4 ad ≡ true → active 5 ad ≡ true → block_of ad ≡ None
  unfolding block_of
  no_length h i j k = rw (h, i, j, k)

-- a unit has bytes, so that an address is divided by some
pub some_bytes : (u : Unit) → 0 < bytes_in u
some_bytes Byte = omega arith
some_bytes Halfword = omega arith
some_bytes Word = omega arith
some_bytes Two = omega arith
some_bytes Four = omega arith
some_bytes Eight = omega arith
some_bytes Sixteen = omega arith

-- an aligned address has room for its unit's mark
pub mark-fits : (u : Unit) (a : ℕ) → a < 2 ^ 32 → a % bytes_in u ≡ 0 → a + mark_of u < 2 ^ 32
mark-fits Byte a h e = omega arith
mark-fits Halfword a h e = omega arith
mark-fits Word a h e = omega arith
mark-fits Two a h e = omega arith
mark-fits Four a h e = omega arith
mark-fits Eight a h e = omega arith
mark-fits Sixteen a h e = omega arith

-- the code of an operation whose address is aligned
abbrev pub code_of : Operation → Code
code_of op = record { tm1 = op.write; tm0 = byte_unit op.unit; ad = op.address + mark_of op.unit }

pub aligned : (op : Operation) → op.address % bytes_in op.unit ≡ 0 → encode_of op ≡ accepted (code_of op)
unfolding encode_of
aligned op h = rw (eq-eqb (op.address % bytes_in op.unit) 0 h)

pub unaligned : (op : Operation) → (op.address % bytes_in op.unit ≡ 0 → ⊥) → encode_of op ≡ refused 4 no_code
unfolding encode_of
unaligned op h = rw (ne_eqb (op.address % bytes_in op.unit) 0 h)
