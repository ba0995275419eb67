-- A `Result` is found again from its answer in document 01's terms, so that the answer fixes it. Assumes nothing.
use Prim.Native.Nat.{ℕ, ◌<◌}
use mathlib.Core.Path.{◌≡◌, refl, sym, ap, ◌∙◌}
use mathlib.Core.Bool.{cond}
use native.Mathlib.Omega.{arith}
use lib.Dec.{eqb}
use Rattle.std.specs.Prelude.{Result, Ok, Err}
use Rattle.basics.specs.Answers.{Answer, refusal_number, answered, call_number}
use Rattle.basics.specs.declared.refusal.Refusal.{Refusal}
use Rattle.basics.specs.declared.refusal.Refusal.TheVariants.{Length, Place, Value, Code, Bounds, Room, Incoherent, TooMany, Marks}

-- the refusal that has a number; what stands for no other refusal stands for 9
abbrev pub refusal_by : ℕ → Refusal
refusal_by n =
    cond (eqb n 1) Length
    (cond (eqb n 2) Place
    (cond (eqb n 3) Value
    (cond (eqb n 4) Code
    (cond (eqb n 5) Bounds (cond (eqb n 6) Room (cond (eqb n 7) Incoherent (cond (eqb n 8) TooMany Marks)))))))

pub refusal_again : (r : Refusal) → refusal_by (refusal_number r) ≡ r
refusal_again Length = refl
refusal_again Place = refl
refusal_again Value = refl
refusal_again Code = refl
refusal_again Bounds = refl
refusal_again Room = refl
refusal_again Incoherent = refl
refusal_again TooMany = refl
refusal_again Marks = refl

-- a refusal's number is none of an accepted call
pub some_number : (r : Refusal) → 0 < refusal_number r
some_number Length = omega arith
some_number Place = omega arith
some_number Value = omega arith
some_number Code = omega arith
some_number Bounds = omega arith
some_number Room = omega arith
some_number Incoherent = omega arith
some_number TooMany = omega arith
some_number Marks = omega arith

-- no two refusals have one number
pub one_refusal : (r s : Refusal) → refusal_number r ≡ refusal_number s → r ≡ s
one_refusal r s e = sym (refusal_again r) ∙ ap refusal_by e ∙ refusal_again s

-- the result that an answer stands for
abbrev pub result_of : {A : Type 0} → Answer A → Result A Refusal
result_of a = cond (eqb a.number 0) (Ok a.value) (Err (refusal_by a.number))

pub result_again : {A : Type 0} (back : A) (r : Result A Refusal) → result_of (answered back r) ≡ r
result_again back (Ok v) = refl
result_again back (Err Length) = refl
result_again back (Err Place) = refl
result_again back (Err Value) = refl
result_again back (Err Code) = refl
result_again back (Err Bounds) = refl
result_again back (Err Room) = refl
result_again back (Err Incoherent) = refl
result_again back (Err TooMany) = refl
result_again back (Err Marks) = refl

-- so a contract that equates the answer fixes the result, whatever a refusal gives or hands back
pub one_result : {A : Type 0} (back : A) (r s : Result A Refusal) → answered back r ≡ answered back s → r ≡ s
one_result back r s e = sym (result_again back r) ∙ ap result_of e ∙ result_again back s

-- of a call that gives no value its number says all
abbrev pub number_result : ℕ → Result (Unit {0}) Refusal
number_result n = cond (eqb n 0) (Ok tt) (Err (refusal_by n))

pub numbered_again : (r : Result (Unit {0}) Refusal) → number_result (call_number r) ≡ r
numbered_again (Ok tt) = refl
numbered_again (Err Length) = refl
numbered_again (Err Place) = refl
numbered_again (Err Value) = refl
numbered_again (Err Code) = refl
numbered_again (Err Bounds) = refl
numbered_again (Err Room) = refl
numbered_again (Err Incoherent) = refl
numbered_again (Err TooMany) = refl
numbered_again (Err Marks) = refl

pub one_call : (r s : Result (Unit {0}) Refusal) → call_number r ≡ call_number s → r ≡ s
one_call r s e = sym (numbered_again r) ∙ ap number_result e ∙ numbered_again s
