-- What the program prints that says why, from the bytes that it read.
use Rattle.std.specs.Prelude.{ℕ, List, Result}
use Rattle.basics.specs.Numbers.{lawful_limit}
use Rattle.feeding.specs.State.{goes}
use Rattle.witness.specs.declared.Witness.{Witness}
use Rattle.witness.specs.State.{fresh_witness, noted_of}
use Rattle.whylines.specs.Lines.{why_page}
use Rattle.reading.specs.declared.CantRead.{CantRead}
use Rattle.reading.specs.Reads.{Feeder, Standing, ReadOut as ReadOutOf}
use Rattle.reading.specs.Pages.{Prints as PrintsOf}

-- what is read is fed to the judge that keeps the record that broke a rule, and no more of it counts once the judging has ended
abbrev pub explaining : Feeder Witness
explaining = record { fed = λ w piece. (noted_of w piece).value; going = λ w. goes w.stream.stop }

-- the program reads no more: all that its reads brought, in order, has been fed to a fresh judge
abbrev pub ReadOut : ℕ → Standing Witness → Type 0
ReadOut limit i = ReadOutOf explaining (fresh_witness limit) i

-- THE PROMISE of the program, for any number as its hold limit: the text that it prints is that of the whole input (`why_page`), what it did not
-- read of it included; and after a read that failed it prints none
abbrev pub Prints : ℕ → List ℕ → Result ℕ CantRead → Type 0
Prints limit text said = PrintsOf explaining (fresh_witness limit) (lawful_limit limit) (why_page limit) text said
