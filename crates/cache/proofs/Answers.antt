-- An answer says its case: document 01's number and value fix it. Assumes nothing.
use Prim.Native.Nat.{ℕ}
use mathlib.Core.Path.{◌≡◌}
use Rattle.std.specs.Prelude.{Result}
use Rattle.basics.specs.Answers.{call_number}
use Rattle.basics.specs.declared.refusal.Refusal.{Refusal}
use Rattle.basics.proofs.Refusals.{result_of, result_again, number_result, numbered_again}
use Rattle.cache.specs.Answers.{answer_of}

pub reading_back_lem : (r : Result ℕ Refusal) → result_of (answer_of r) ≡ r
reading_back_lem = result_again 0

pub change_back_lem : (r : Result (Unit {0}) Refusal) → number_result (call_number r) ≡ r
change_back_lem = numbered_again
