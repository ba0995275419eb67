-- The lines as a reader would write them, by computing on the definitions. Assumes nothing.
use mathlib.Core.Path.{◌≡◌, refl}
use mathlib.Core.Bool.{false}
use mathlib.Core.List.{[]}
use Rattle.rules.specs.declared.Verdict.TheVariants.{Conforming, Breach}
use Rattle.text.specs.Decimal.{spelled, decimal_of}
use Rattle.text.specs.Words.{word}
use Rattle.printed.specs.Lines.{totals_line, breach_line, kind_letter, refused_line}
use Rattle.witness.specs.declared.Reason.{Reason}
use Rattle.whylines.specs.Lines.{why_line, reason_lines, why_page}

-- a START two cycles after the wave's last one
soon : Reason
soon =
    record {
      ending = record { verdict = Breach (record { rule = 8; kind = 3; place = 2783; span = 14679 }); tally = record { records = 2783; span = 14678; starts = 584; acks = 584; aborted = 0 }; opened = false };
      figures = record { found = 2; bound = 3 };
    }

soon_printed : reason_lines soon ≡ word "records 2783 span 14678 starts 584 acks 584 aborted 0 open 0\nbreach rule 8c record 2783 span 14679\nfound 2 bound 3\n"
unfolding soon totals_line breach_line kind_letter why_line decimal_of spelled
soon_printed = refl

-- no third line without a breach
fine : Reason
fine = record { ending = record { verdict = Conforming; tally = record { records = 4; span = 5; starts = 1; acks = 1; aborted = 0 }; opened = false }; figures = record { found = 0; bound = 0 } }

fine_printed : reason_lines fine ≡ word "records 4 span 5 starts 1 acks 1 aborted 0 open 0\nconforming\n"
unfolding fine totals_line why_line decimal_of spelled
fine_printed = refl

limit_printed : why_page 17 [] ≡ word "refused 3\n"
unfolding refused_line decimal_of spelled
limit_printed = refl
