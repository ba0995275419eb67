-- Document 01: "A refusal returns its number, .. gives 0 for every other value and writes nothing."
use Rattle.std.specs.Prelude.{ℕ, Result}
use Rattle.basics.specs.Answers.{Answer, answered}
use Rattle.basics.specs.declared.refusal.Refusal.{Refusal}

-- a read answers its number and the value read; a write or an evict its number alone (`call_number`)
abbrev pub answer_of : Result ℕ Refusal → Answer ℕ
answer_of = answered 0
