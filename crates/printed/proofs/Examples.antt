-- Lines as document 01 has them, by computing on the definitions. Assumes nothing.
use mathlib.Core.Path.{◌≡◌, refl}
use mathlib.Core.Bool.{false}
use mathlib.Core.List.{[]}
use Rattle.rules.specs.declared.Verdict.TheVariants.{Conforming, Breach, TooMany, Torn}
use Rattle.text.specs.Decimal.{spelled, decimal_of}
use Rattle.text.specs.Words.{word}
use Rattle.printed.specs.Lines.{totals_line, refused_line, kind_letter, breach_line, verdict_line, lines_of, page_of}

-- what the judging program prints in "Checked examples"
example_printed : lines_of (record { verdict = Conforming; tally = record { records = 4; span = 5; starts = 1; acks = 1; aborted = 0 }; opened = false }) ≡ word "records 4 span 5 starts 1 acks 1 aborted 0 open 0\nconforming\n"
unfolding totals_line decimal_of spelled
example_printed = refl

breach_printed : verdict_line (Breach (record { rule = 8; kind = 3; place = 2783; span = 14679 })) ≡ word "breach rule 8c record 2783 span 14679\n"
unfolding breach_line kind_letter decimal_of spelled
breach_printed = refl

other_printed : verdict_line (Breach (record { rule = 12; kind = 0; place = 3; span = 259 })) ≡ word "breach rule 12 record 3 span 259\n"
unfolding breach_line kind_letter decimal_of spelled
other_printed = refl

past_printed : verdict_line TooMany ≡ word "refused 8\n"
unfolding refused_line decimal_of spelled
past_printed = refl

torn_printed : verdict_line Torn ≡ word "refused 1\n"
unfolding refused_line decimal_of spelled
torn_printed = refl

limit_printed : page_of 17 [] ≡ word "refused 3\n"
unfolding refused_line decimal_of spelled
limit_printed = refl
