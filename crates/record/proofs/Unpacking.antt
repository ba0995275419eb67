-- Laws of unpacking: its three answers. Assumes nothing.
use Prim.Native.Nat.{ℕ}
use mathlib.Core.Path.{◌≡◌, sym}
use mathlib.Core.List.{List}
use mathlib.Core.Bool.{true, false}
use borrow.Author.Tests.{eq-eqb, ne_eqb}
use lib.ListN.{length, take, drop}
use Rattle.basics.specs.Answers.{accepted, refused}
use Rattle.record.specs.Layout.{record_in, spare_in}
use Rattle.record.specs.Packing.{too_few, blank, parsed, unpack_of}

module _ (bs : List ℕ) where
  pub parsed_is : spare_in bs ≡ 0 → accepted (record_in bs) ≡ parsed bs
  unfolding parsed
  parsed_is e = sym (rw (eq-eqb (spare_in bs) 0 e))

  pub parsed-spare : (spare_in bs ≡ 0 → ⊥) → refused 3 blank ≡ parsed bs
  unfolding parsed
  parsed-spare e = sym (rw (ne_eqb (spare_in bs) 0 e))

module _ (buf : List ℕ) (at : ℕ) where
  pub few : too_few (length buf) at ≡ true → refused 6 blank ≡ unpack_of buf at
  unfolding unpack_of
  few e = sym (rw e)

  pub enough : too_few (length buf) at ≡ false → unpack_of buf at ≡ parsed (take 16 (drop at buf))
  unfolding unpack_of
  enough e = rw e
