-- Figures as a reader would write them, by computing on the definitions. Assumes nothing.
use Prim.Native.Nat.{◌^◌}
use mathlib.Core.Path.{◌≡◌, refl}
use mathlib.Core.List.{[]}
use Rattle.io.specs.Digits.{last_digits}
use Rattle.std.specs.Prelude.{Some, None}
use Rattle.text.specs.Decimal.{spelled, decimal_of}
use Rattle.text.specs.Numbers.{is_number}
use Rattle.text.specs.Words.{word}
use Rattle.figures.specs.Figures.{figure_of}
use Rattle.figures.specs.Times.{seconds_of, nanoseconds_of}

short_time : seconds_of 2361 ≡ word "0.0002361"
unfolding seconds_of decimal_of spelled
short_time = refl

boot_time : seconds_of 123617 ≡ word "0.0123617"
unfolding seconds_of decimal_of spelled
boot_time = refl

no_time : seconds_of 0 ≡ word "0.0000000"
unfolding seconds_of decimal_of spelled
no_time = refl

long-time : seconds_of (2 ^ 61) ≡ word "230584300921.3693952"
unfolding seconds_of decimal_of spelled
long-time = refl

boot_nanoseconds : nanoseconds_of 123617 ≡ word "12361700"
unfolding nanoseconds_of decimal_of spelled
boot_nanoseconds = refl

no_nanoseconds : nanoseconds_of 0 ≡ word "0"
unfolding nanoseconds_of
no_nanoseconds = refl

hex_digits : last_digits 16 8 48879 ≡ word "0000beef"
hex_digits = refl

binary_digits : last_digits 2 4 26 ≡ word "1010"
binary_digits = refl

largest_read : figure_of (word "9999999999999999999") ≡ Some 9999999999999999999
unfolding figure_of is_number
largest_read = refl

zeros_read : figure_of (word "007") ≡ Some 7
unfolding figure_of is_number
zeros_read = refl

longer_read : figure_of (word "10000000000000000000") ≡ None
unfolding figure_of is_number
longer_read = refl

empty-read : figure_of [] ≡ None
unfolding figure_of is_number
empty-read = refl
