-- What a program prints, from the bytes that it read.
use Rattle.std.specs.Prelude.{ℕ, ◌≤◌, Bool, true, false, List, [], ◌++◌, ◌≡◌, length, take, Result, Ok, Err}
use Rattle.basics.specs.declared.refusal.Refusal.{Refusal}
use Rattle.basics.specs.Answers.{refusal_number}
use Rattle.printed.specs.Lines.{refused_line}
use Rattle.reading.specs.declared.CantRead.{CantRead}
use Rattle.reading.specs.Reads.{Feeder, Standing, ReadOut, Piecewise}

-- what the input may have behind the bytes that were read: nothing, the last read being its end; or anything, where no more of it counts
pub data Behind {S : Type 0} (p : Feeder S) (i : Standing S) : List ℕ → Type 0 where
  nothing : Behind p i []
  anything : (rest : List ℕ) → p.going i.state ≡ false → Behind p i rest

-- THE PROMISE of a program whose words are lawful or not, and whose text for all the bytes of an input is `page`: the text that it prints is that of
-- the whole input, what it did not read of it included; and after a read that failed it prints none. Unlawful words have one text, whatever the input
pub data Prints {S : Type 0} (p : Feeder S) (begun : S) (lawful : Bool) (page : List ℕ → List ℕ) (text : List ℕ) : Result ℕ CantRead → Type 0 where
  unlawful : (n : ℕ) → n ≤ length text → lawful ≡ false → ((bytes : List ℕ) → take n text ≡ page bytes) → Prints p begun lawful page text (Ok n)
  told : (n : ℕ) (i : Standing S) → n ≤ length text → lawful ≡ true → (out : ReadOut p begun i) → i.failed ≡ false
      → ((rest : List ℕ) → Behind p i rest → take n text ≡ page (out.bytes ++ rest)) → Prints p begun lawful page text (Ok n)
  unread : (why : CantRead) (i : Standing S) → lawful ≡ true → ReadOut p begun i → i.failed ≡ true → Prints p begun lawful page text (Err why)

-- what a program has to know of its text: the one of a state is that of all the bytes that were fed, and where no more counts, what is behind them
-- changes nothing
pub record Telling {S : Type 0} (p : Feeder S) (begun : S) (page : List ℕ → List ℕ) (say : S → List ℕ) : Type 0 where
  pub says : (bytes : List ℕ) → say (p.fed begun bytes) ≡ page bytes
  pub rest : (bytes rest : List ℕ) → p.going (p.fed begun bytes) ≡ false → page (bytes ++ rest) ≡ page bytes

-- what a program has to know of what it begins with: for lawful words it is the state that they say, and for any other the text is the refusal's line,
-- whatever the input; and the page has room for that line, and for the text of whatever is read
pub record Making {S : Type 0} (p : Feeder S) (begun : Result S Refusal) (fresh : S) (lawful : Bool) (page : List ℕ → List ℕ) (say : S → List ℕ) (room : ℕ) : Type 0 where
  pub begins : (s : S) → begun ≡ Ok s → (lawful ≡ true) × (s ≡ fresh)
  pub refuses : (r : Refusal) → begun ≡ Err r → (lawful ≡ false) × ((bytes : List ℕ) → refused_line (refusal_number r) ≡ page bytes)
  pub pieces : lawful ≡ true → Piecewise p fresh
  pub tells : lawful ≡ true → Telling p fresh page say
  pub line_fits : 29 ≤ room
  pub text_fits : lawful ≡ true → (i : Standing S) → ReadOut p fresh i → length (say i.state) ≤ room
