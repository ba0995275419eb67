-- Words and lines as a reader would write them. Assumes nothing.
use mathlib.Core.List.{[]}
use mathlib.Core.Path.{◌≡◌, refl}
use Rattle.std.specs.Prelude.{Some, None}
use Rattle.text.specs.Decimal.{spelled, decimal_of}
use Rattle.text.specs.Words.{word}
use Rattle.text.specs.Numbers.{capped, is_number, number_of}
use Rattle.printed.specs.Lines.{refused_line}
use Rattle.figures.specs.Times.{seconds_of}
use Rattle.quote.specs.Quotes.{worst_of, quote_of}
use Rattle.spurquote.specs.Words.{asked_of}
use Rattle.spurquote.specs.Pages.{worst_line, answer_line, quote_line}

-- ---- words
words-read : asked_of 3 (word "03") (word "16") ≡ Some (3, 16)
unfolding asked_of number_of is_number capped
words-read = refl

limit-missing : asked_of 2 (word "3") [] ≡ None
unfolding asked_of
limit-missing = refl

-- a slot and a limit that no rack has are still two numbers, which are refused
large_read : asked_of 3 (word "99999999999") (word "0") ≡ Some (4294967296, 0)
unfolding asked_of number_of is_number capped
large_read = refl

-- ---- lines
slot0_printed : quote_line 0 16 ≡ word "slot 0 limit 16 others 480 cycles 1970657 seconds 0.1970657\n"
unfolding answer_line worst_line quote_of worst_of seconds_of decimal_of spelled
slot0_printed = refl

slot15_printed : quote_line 15 1 ≡ word "slot 15 limit 1 others 16 cycles 65553 seconds 0.0065553\n"
unfolding answer_line worst_line quote_of worst_of seconds_of decimal_of spelled
slot15_printed = refl

slot-refused : quote_line 4294967296 0 ≡ word "refused 2\n"
unfolding answer_line quote_of refused_line decimal_of spelled
slot-refused = refl

limit-refused : quote_line 3 17 ≡ word "refused 3\n"
unfolding answer_line quote_of refused_line decimal_of spelled
limit-refused = refl
