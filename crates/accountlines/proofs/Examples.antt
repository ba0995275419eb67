-- Lines of an account as a reader would write them, by computing on the definitions. Assumes nothing.
use mathlib.Core.Path.{◌≡◌, refl}
use mathlib.Core.Bool.{true}
use mathlib.Core.List.{[]}
use lib.ListN.{replicate, set}
use Rattle.rules.specs.declared.Verdict.TheVariants.{Conforming}
use Rattle.text.specs.Decimal.{spelled, decimal_of}
use Rattle.text.specs.Words.{word}
use Rattle.printed.specs.Lines.{totals_line, refused_line}
use Rattle.entries.specs.Entries.{zero_entry}
use Rattle.usage.specs.declared.Closing.{Closing}
use Rattle.accountlines.specs.Lines.{slot_line, closing_lines, accounts_page}

-- slots 0 and 10 used the bus: two STARTs each, seven busy cycles and one
two : Closing
two =
    record {
      ending = record { verdict = Conforming; tally = record { records = 10; span = 13; starts = 4; acks = 2; aborted = 1 }; opened = true };
      entries = set (set (replicate 16 zero_entry) 0 (record { starts = 2; busy = 1 })) 10 (record { starts = 2; busy = 7 });
    }

two_printed : closing_lines two ≡ word "records 10 span 13 starts 4 acks 2 aborted 1 open 1\nconforming\nslot 0 starts 2 busy 1\nslot 1 starts 0 busy 0\nslot 2 starts 0 busy 0\nslot 3 starts 0 busy 0\nslot 4 starts 0 busy 0\nslot 5 starts 0 busy 0\nslot 6 starts 0 busy 0\nslot 7 starts 0 busy 0\nslot 8 starts 0 busy 0\nslot 9 starts 0 busy 0\nslot 10 starts 2 busy 7\nslot 11 starts 0 busy 0\nslot 12 starts 0 busy 0\nslot 13 starts 0 busy 0\nslot 14 starts 0 busy 0\nslot 15 starts 0 busy 0\n"
unfolding two totals_line slot_line decimal_of spelled
two_printed = refl

limit_printed : accounts_page 17 [] ≡ word "refused 3\n"
unfolding refused_line decimal_of spelled
limit_printed = refl
