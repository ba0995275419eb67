-- Lines of boot phases as a reader would write them, by computing on the definitions. Assumes nothing.
use mathlib.Core.Path.{◌≡◌, refl}
use mathlib.Core.List.{[], ◌∷◌}
use lib.ListN.{replicate}
use Rattle.text.specs.Decimal.{spelled, decimal_of}
use Rattle.text.specs.Words.{word}
use Rattle.printed.specs.Lines.{refused_line}
use Rattle.marks.specs.declared.Report.{Report}
use Rattle.marks.specs.declared.Why.TheVariants.{Complete, Absent}
use Rattle.marks.specs.State.{no_marks, begin_refusal}
use Rattle.phaselines.specs.Lines.{mark_line, records_line, absent_line, why_line, report_lines, phases_page}

-- two marks found: the first has no difference
two : Report
two = record { why = Complete; found = 2; spans = 120 ∷ 150 ∷ replicate 30 0; diffs = 0 ∷ 30 ∷ replicate 30 0; records = 57 }

two_printed : report_lines two ≡ word "mark 0 span 120\nmark 1 span 150 diff 30\nrecords 57\ncomplete\n"
unfolding two mark_line records_line decimal_of spelled
two_printed = refl

absent_printed : why_line (Absent 1) ≡ word "refused 10 place 1\n"
unfolding absent_line decimal_of spelled
absent_printed = refl

-- no marks, and a limit that is none: the marks are refused "first of all"
none_printed : phases_page 17 no_marks [] ≡ word "refused 9\n"
unfolding begin_refusal refused_line decimal_of spelled
none_printed = refl
