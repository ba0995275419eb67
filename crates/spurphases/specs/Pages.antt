-- What the program of boot phases prints, from the bytes that it read.
use Rattle.std.specs.Prelude.{ℕ, List, eqb, Result}
use Rattle.marks.specs.declared.Marks.{Marks}
use Rattle.marks.specs.declared.Phases.{Phases}
use Rattle.marks.specs.State.{under_way, begin_refusal, fresh_phases, phased_of}
use Rattle.phaselines.specs.Lines.{phases_page}
use Rattle.reading.specs.declared.CantRead.{CantRead}
use Rattle.reading.specs.Reads.{Feeder, Standing, ReadOut as ReadOutOf}
use Rattle.reading.specs.Pages.{Prints as PrintsOf}

-- what is read is fed to the search, and no more of it counts once that is over: "It stops at the ACK of the last mark"
abbrev pub searching : Feeder Phases
searching = record { fed = λ p piece. (phased_of p piece).value; going = under_way }

-- the program reads no more: all that its reads brought, in order, has been fed to a fresh search
abbrev pub ReadOut : ℕ → Marks → Standing Phases → Type 0
ReadOut limit marks i = ReadOutOf searching (fresh_phases limit marks) i

-- THE PROMISE of the program, for any number as its hold limit and any marks: the text that it prints is that of the whole input (`phases_page`), what it
-- did not read of it included; and after a read that failed it prints none
abbrev pub Prints : ℕ → Marks → List ℕ → Result ℕ CantRead → Type 0
Prints limit marks text said = PrintsOf searching (fresh_phases limit marks) (eqb (begin_refusal limit marks) 0) (phases_page limit marks) text said
