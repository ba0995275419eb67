-- What becomes of the transfer in a cycle. Document 01: "A transfer open before ages by 1. A finish gives ACK and idles it; success with more than
-- one word owed is noted as short. At age 256 without a finish the watchdog gives ACK with timeout, and a strobe then is neither taken nor
-- noted. Otherwise a strobe takes one owed word if more than one is owed, else it is noted as extra. An event with nothing open before is
-- noted as stray and drives no line." Document 02, wish 5, changes what a strobe does that takes an owed word: "The age returns to 0 with each
-- strobe that takes an owed word .. and a strobe in the 256th cycle is taken before the timer fires. A finish still wins over both. Strobes
-- that are extra restart nothing."
use Rattle.std.specs.Prelude.{ℕ, ◌+◌, ◌-◌, Bool, true, false, cond, List, get_or, eqb, ltb, Option, Some, None}
use Rattle.codes.specs.declared.Status.{Status}
use Rattle.codes.specs.declared.Status.TheVariants.{Success, Error, Timeout, Again}
use Rattle.cycle.specs.declared.Progress.{Progress}
use Rattle.cycle.specs.declared.Transfer.{Transfer}
use Rattle.cycle.specs.declared.Transfer.TheVariants.{Idle, Open}
use Rattle.cycle.specs.declared.Event.{Event}
use Rattle.cycle.specs.declared.Event.TheVariants.{Nothing, Strobe, Finish}
use Rattle.cycle.specs.declared.Note.{Note}
use Rattle.cycle.specs.declared.Note.TheVariants.{Clear, Short, Extra, Stray}
use Rattle.basics.specs.Numbers.{watchdog}
use Rattle.cycle.specs.Arbitration.{attends}

-- "A transfer open before ages by 1"
abbrev pub age_of : ℕ → ℕ
age_of age = age + 1

-- "At age 256", where age is the one before the cycle
abbrev pub expires : ℕ → Bool
expires age = eqb (age_of age) watchdog

-- "makes an attention cycle; the transfer stays idle. Any other START opens a transfer at age 0."
unfoldable pub opened : Option ℕ → ℕ → List ℕ → Transfer
opened None wants words = Idle
opened (Some s) wants words = cond (attends s wants words) Idle (Open (get_or words s 0) 0)

-- START with ACK is an attention cycle
unfoldable pub attention : Option ℕ → ℕ → List ℕ → Bool
attention None wants words = false
attention (Some s) wants words = attends s wants words

-- "An event with nothing open before is noted as stray"
abbrev pub stray_of : Event → Note
stray_of Nothing = Clear
stray_of Strobe = Stray
stray_of (Finish s) = Stray

-- "success with more than one word owed is noted as short"
unfoldable pub short_of : Status → ℕ → Note
short_of Success owed = cond (ltb 1 owed) Short Clear
short_of Error owed = Clear
short_of Timeout owed = Clear
short_of Again owed = Clear

-- "A finish gives ACK and idles it"
abbrev pub finished : Status → ℕ → Progress
finished s owed = record { transfer = Idle; ack = true; status = Some s; note = short_of s owed }

-- "the watchdog gives ACK with timeout"
abbrev pub timed_out : Progress
timed_out = record { transfer = Idle; ack = true; status = Some Timeout; note = Clear }

-- it goes on, a cycle older
abbrev pub aged : ℕ → ℕ → Note → Progress
aged owed age note = record { transfer = Open owed (age_of age); ack = false; status = None; note = note }

-- without a finish, and with no word taken: "At age 256 .. the watchdog gives ACK with timeout", with no note; else it goes on
unfoldable pub watched : ℕ → ℕ → Note → Progress
watched owed age note = cond (expires age) timed_out (aged owed age note)

-- "a strobe takes one owed word", and "The age returns to 0"
abbrev pub taken : ℕ → Progress
taken owed = record { transfer = Open (owed - 1) 0; ack = false; status = None; note = Clear }

-- "a strobe takes one owed word if more than one is owed", at whatever age, "else it is noted as extra"
unfoldable pub struck : ℕ → ℕ → Progress
struck owed age = cond (ltb 1 owed) (taken owed) (watched owed age Extra)

-- a transfer open before
unfoldable pub going_on : Event → ℕ → ℕ → Progress
going_on (Finish s) owed age = finished s owed
going_on Strobe owed age = struck owed age
going_on Nothing owed age = watched owed age Clear

-- the transfer t before, the event e and the starter s of the cycle
unfoldable pub progress_of : Transfer → Event → Option ℕ → ℕ → List ℕ → Progress
progress_of Idle e s wants words =
    record { transfer = opened s wants words; ack = attention s wants words; status = None; note = stray_of e }
progress_of (Open owed age) e s wants words = going_on e owed age
