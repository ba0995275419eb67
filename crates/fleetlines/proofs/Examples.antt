-- Lines as they are printed, by computing on the definitions. Assumes nothing.
use mathlib.Core.List.{[], ◌∷◌}
use mathlib.Core.Path.{◌≡◌, refl}
use Rattle.text.specs.Decimal.{spelled, decimal_of}
use Rattle.text.specs.Words.{word}
use Rattle.fleet.specs.Figures.{half_within, summary_of}
use Rattle.fleetlines.specs.Lines.{figures_text, rest_text, summary_line, fleet_page}

none_printed : fleet_page [] ≡ word "count 0\n"
unfolding summary_line rest_text figures_text summary_of half_within decimal_of spelled
none_printed = refl

-- of four the lower of the two in the middle
even_printed : fleet_page (9 ∷ 2 ∷ 40 ∷ 7 ∷ []) ≡ word "count 4 least 2 median 7 greatest 40 mean 14 remainder 2\n"
unfolding summary_line rest_text figures_text summary_of half_within decimal_of spelled
even_printed = refl

odd_printed : fleet_page (123617 ∷ 2361 ∷ 5000 ∷ []) ≡ word "count 3 least 2361 median 5000 greatest 123617 mean 43659 remainder 1\n"
unfolding summary_line rest_text figures_text summary_of half_within decimal_of spelled
odd_printed = refl
