-- Document 01: "A refusal returns its number, hands back any state unchanged, gives 0 for every other value and writes nothing."
use Rattle.std.specs.Prelude.{ℕ, Result, Ok, Err}
use Rattle.basics.specs.declared.refusal.Refusal.{Refusal}
use Rattle.basics.specs.declared.refusal.Refusal.TheVariants.{Length, Place, Value, Code, Bounds, Room, Incoherent, TooMany, Marks}

-- what a call answers, in document 01's terms: its refusal's number, 0 where it is accepted, and the value, all zeros where it is refused
pub record Answer (A : Type 0) : Type 0 where
  pub number : ℕ
  pub value : A

abbrev pub accepted : {A : Type 0} → A → Answer A
accepted v = record { number = 0; value = v }

-- the refusal of a number, where the value is all zeros
abbrev pub refused : {A : Type 0} → ℕ → A → Answer A
refused n zeros = record { number = n; value = zeros }

-- document 01's number of each refusal, and document 02's of marks
abbrev pub refusal_number : Refusal → ℕ
refusal_number Length = 1
refusal_number Place = 2
refusal_number Value = 3
refusal_number Code = 4
refusal_number Bounds = 5
refusal_number Room = 6
refusal_number Incoherent = 7
refusal_number TooMany = 8
refusal_number Marks = 9

-- the answer that a `Result` is, where `back` is what a refusal gives or hands back
abbrev pub answered : {A : Type 0} → A → Result A Refusal → Answer A
answered back (Ok v) = accepted v
answered back (Err r) = refused (refusal_number r) back

-- its number alone, 0 where the call is accepted
abbrev pub call_number : {A : Type 0} → Result A Refusal → ℕ
call_number (Ok v) = 0
call_number (Err r) = refusal_number r
