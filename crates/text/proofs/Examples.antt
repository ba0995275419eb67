-- Numbers and words as a reader would write them. Assumes nothing.
use mathlib.Core.Path.{◌≡◌, refl}
use mathlib.Core.List.{[]}
use Rattle.text.specs.Words.{word}
use Rattle.text.specs.Decimal.{spelled, decimal_of}
use Rattle.text.specs.Numbers.{capped, is_number, number_of}
use Rattle.std.specs.Prelude.{Some, None}

tens_written : decimal_of 1020 ≡ word "1020"
unfolding decimal_of spelled
tens_written = refl

largest_written : decimal_of 18446744073709551615 ≡ word "18446744073709551615"
unfolding decimal_of spelled
largest_written = refl

zeros_read : number_of (word "016") ≡ Some 16
unfolding number_of is_number capped
zeros_read = refl

larger_read : number_of (word "99999999999999999999999") ≡ Some 4294967296
unfolding number_of is_number capped
larger_read = refl

other-read : number_of (word "12:") ≡ None
unfolding number_of is_number
other-read = refl

empty-read : number_of [] ≡ None
unfolding number_of is_number
empty-read = refl
