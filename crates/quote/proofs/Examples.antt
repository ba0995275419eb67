-- Worst waits as a laboratory would look them up. Assumes nothing.
use mathlib.Core.Path.{◌≡◌, refl}
use Rattle.basics.specs.Answers.{accepted, refused}
use Rattle.quote.specs.Quotes.{worst_of, no_worst, quote_of}

slot0_limit16 : quote_of 0 16 ≡ accepted (record { others = 480; cycles = 1970657 })
unfolding quote_of worst_of
slot0_limit16 = refl

slot15_limit1 : quote_of 15 1 ≡ accepted (record { others = 16; cycles = 65553 })
unfolding quote_of worst_of
slot15_limit1 = refl

-- both are unlawful: 2 comes first
slot16_limit17 : quote_of 16 17 ≡ refused 2 no_worst
unfolding quote_of
slot16_limit17 = refl

limit0 : quote_of 3 0 ≡ refused 3 no_worst
unfolding quote_of
limit0 = refl

limit17 : quote_of 3 17 ≡ refused 3 no_worst
unfolding quote_of
limit17 = refl
