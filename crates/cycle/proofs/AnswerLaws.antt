-- Document 01's number and values fix what a call answers: nothing is lost. Assumes nothing.
use mathlib.Core.Path.{◌≡◌, sym, ap, ◌∙◌}
use Rattle.std.specs.Prelude.{Result, Err}
use Rattle.basics.specs.declared.refusal.Refusal.{Refusal}
use Rattle.basics.specs.Answers.{Answer}
use Rattle.basics.proofs.Refusals.{result_of, result_again, one_result}
use Rattle.cycle.specs.declared.Bus.{Bus}
use Rattle.cycle.specs.declared.Moved.{Moved}
use Rattle.cycle.specs.State.{fresh}
use Rattle.cycle.specs.Bounds.{fresh_answer}
use Rattle.cycle.specs.Cycle.{unmoved, answer_of}

-- the step's result is found again from its number and values
case_back : (b : Bus) (r : Result Moved Refusal) → result_of (answer_of b r) ≡ r
case_back b r = result_again (unmoved b) r

-- two answers of the step with the same number and values are the same, whatever the states that were handed in
pub answer_only : (b c : Bus) (r s : Result Moved Refusal) → answer_of b r ≡ answer_of c s → r ≡ s
answer_only b c r s e = sym (case_back b r) ∙ ap result_of e ∙ case_back c s

-- and where both are refusals, so are the states that they hand back
pub handed_only : (b c : Bus) (r s : Refusal) → answer_of b (Err r) ≡ answer_of c (Err s) → b ≡ c
handed_only b c r s e = ap (λ (a : Answer Moved). a.value.bus) e

-- and two answers of the constructor
pub fresh-only : (r s : Result Bus Refusal) → fresh_answer r ≡ fresh_answer s → r ≡ s
fresh-only r s e = one_result (fresh 0) r s e
