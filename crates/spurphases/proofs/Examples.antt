-- Marks as a reader would write them. Assumes nothing.
use mathlib.Core.Path.{◌≡◌, refl}
use Rattle.text.specs.Words.{word}
use Rattle.text.specs.Numbers.{capped, is_number, number_of}
use Rattle.std.specs.Prelude.{Some, None}
use Rattle.spurphases.specs.Words.{mark_in}

mark-read : mark_in (word "3/4") ≡ Some (record { slot = 3; number = 4 })
unfolding mark_in number_of is_number capped
mark-read = refl

zeros_read : mark_in (word "012/00") ≡ Some (record { slot = 12; number = 0 })
unfolding mark_in number_of is_number capped
zeros_read = refl

-- a slot and a number that no rack has are still a mark, which is refused
large_read : mark_in (word "259/99999999999") ≡ Some (record { slot = 255; number = 255 })
unfolding mark_in number_of is_number capped
large_read = refl

slot-alone : mark_in (word "3") ≡ None
unfolding mark_in number_of is_number capped
slot-alone = refl

slash_last : mark_in (word "3/") ≡ None
unfolding mark_in number_of is_number capped
slash_last = refl

slash_first : mark_in (word "/4") ≡ None
unfolding mark_in number_of is_number capped
slash_first = refl

two_slashes : mark_in (word "3/4/5") ≡ None
unfolding mark_in number_of is_number capped
two_slashes = refl
