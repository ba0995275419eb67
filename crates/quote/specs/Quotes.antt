-- What `worst_wait` answers: the two numbers of demand 3 for a slot and a hold limit (cycle/specs/Waits), in which the theorem itself is said.
use Rattle.std.specs.Prelude.{ℕ, cond, ltb, Result}
use Rattle.basics.specs.Numbers.{slot_count, lawful_limit}
use Rattle.basics.specs.Answers.{Answer, accepted, refused, answered}
use Rattle.basics.specs.declared.refusal.Refusal.{Refusal}
use Rattle.cycle.specs.Waits.{others_most, cycles_most}
use Rattle.quote.specs.declared.Worst.{Worst}

unfoldable pub worst_of : ℕ → ℕ → Worst
worst_of slot limit = record { others = others_most limit slot; cycles = cycles_most limit slot }

-- "gives 0 for every other value"
abbrev pub no_worst : Worst
no_worst = record { others = 0; cycles = 0 }

-- "2. slot over 15"; then "3. hold limit not 1 to 16"
unfoldable pub quote_of : ℕ → ℕ → Answer Worst
quote_of slot limit = cond (ltb slot slot_count) (cond (lawful_limit limit) (accepted (worst_of slot limit)) (refused 3 no_worst)) (refused 2 no_worst)

-- document 01's number and values for each case of the answer
abbrev pub quote_answer : Result Worst Refusal → Answer Worst
quote_answer result = answered no_worst result
