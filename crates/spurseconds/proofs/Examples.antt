-- Lines as `spurseconds` prints them, by computing on the definitions. Assumes nothing.
use mathlib.Core.Path.{◌≡◌, refl}
use mathlib.Core.List.{[]}
use Rattle.text.specs.Decimal.{spelled, decimal_of}
use Rattle.text.specs.Numbers.{is_number}
use Rattle.text.specs.Words.{word}
use Rattle.figures.specs.Figures.{figure_of}
use Rattle.figures.specs.Times.{seconds_of}
use Rattle.spurseconds.specs.Lines.{time_line, seconds_line}

boot_line : seconds_line (word "123617") ≡ word "0.0123617\n"
unfolding seconds_line figure_of is_number time_line seconds_of decimal_of spelled
boot_line = refl

other-line : seconds_line (word "-1") ≡ []
unfolding seconds_line figure_of is_number
other-line = refl
