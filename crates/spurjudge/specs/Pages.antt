-- What the judging program prints, from the bytes that it read.
use Rattle.std.specs.Prelude.{ℕ, List, Result}
use Rattle.basics.specs.Numbers.{lawful_limit}
use Rattle.feeding.specs.declared.Stream.{Stream}
use Rattle.feeding.specs.State.{goes, fresh_stream, fed_of}
use Rattle.printed.specs.Lines.{page_of}
use Rattle.reading.specs.declared.CantRead.{CantRead}
use Rattle.reading.specs.Reads.{Feeder, Standing, ReadOut as ReadOutOf}
use Rattle.reading.specs.Pages.{Prints as PrintsOf}

-- what is read is fed to the judge, and no more of it counts once the judging has ended
abbrev pub judging : Feeder Stream
judging = record { fed = λ s piece. (fed_of s piece).value; going = λ s. goes s.stop }

-- the program reads no more: all that its reads brought, in order, has been fed to a fresh judge
abbrev pub ReadOut : ℕ → Standing Stream → Type 0
ReadOut limit i = ReadOutOf judging (fresh_stream limit) i

-- THE PROMISE of the program, for any number as its hold limit: the text that it prints is that of the whole input (`page_of`), what it did not read
-- of it included; and after a read that failed it prints none
abbrev pub Prints : ℕ → List ℕ → Result ℕ CantRead → Type 0
Prints limit text said = PrintsOf judging (fresh_stream limit) (lawful_limit limit) (page_of limit) text said
