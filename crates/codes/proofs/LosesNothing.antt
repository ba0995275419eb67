-- The answers in document 01's numbers lose nothing: each answer of the decoder and the encoder is found again from its number and value. Assumes nothing.
use mathlib.Core.Path.{◌≡◌}
use Rattle.std.specs.Prelude.{Result}
use Rattle.basics.specs.declared.refusal.Refusal.{Refusal}
use Rattle.basics.proofs.Refusals.{one_result}
use Rattle.codes.specs.declared.Meaning.{Meaning}
use Rattle.codes.specs.declared.Code.{Code}
use Rattle.codes.specs.Start.{nothing_meant, no_code, decoded_answer, encoded_answer}

-- so the decoder's contract fixes its answer
pub decoded_one : (r s : Result Meaning Refusal) → decoded_answer r ≡ decoded_answer s → r ≡ s
decoded_one = one_result nothing_meant

pub encoded_one : (r s : Result Code Refusal) → encoded_answer r ≡ encoded_answer s → r ≡ s
encoded_one = one_result no_code
