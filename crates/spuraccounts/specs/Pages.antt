-- What the program of accounts prints, from the bytes that it read.
use Rattle.std.specs.Prelude.{ℕ, List, Result}
use Rattle.basics.specs.Numbers.{lawful_limit}
use Rattle.feeding.specs.State.{goes}
use Rattle.usage.specs.declared.Ledger.{Ledger}
use Rattle.usage.specs.Pieces.{fresh_ledger, posted_of}
use Rattle.accountlines.specs.Lines.{accounts_page}
use Rattle.reading.specs.declared.CantRead.{CantRead}
use Rattle.reading.specs.Reads.{Feeder, Standing, ReadOut as ReadOutOf}
use Rattle.reading.specs.Pages.{Prints as PrintsOf}

-- what is read is fed to the judge that keeps an account, and no more of it counts once the judging has ended
abbrev pub accounting : Feeder Ledger
accounting = record { fed = λ l piece. (posted_of l piece).value; going = λ l. goes l.stream.stop }

-- the program reads no more: all that its reads brought, in order, has been fed to a fresh judge with an account of nothing
abbrev pub ReadOut : ℕ → Standing Ledger → Type 0
ReadOut limit i = ReadOutOf accounting (fresh_ledger limit) i

-- THE PROMISE of the program, for any number as its hold limit: the text that it prints is that of the whole input (`accounts_page`), what it did not
-- read of it included; and after a read that failed it prints none
abbrev pub Prints : ℕ → List ℕ → Result ℕ CantRead → Type 0
Prints limit text said = PrintsOf accounting (fresh_ledger limit) (lawful_limit limit) (accounts_page limit) text said
