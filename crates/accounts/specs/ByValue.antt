-- The calls with an account by value: its sixteen entries, with nothing for each that the caller's account lacks, and how many that one has. The promise is
-- `accounted_of` and `share_of` (usage/specs/Calls) of the caller's account; the proofs show that these are the same.
use Rattle.std.specs.Prelude.{ℕ, List, length}
use Rattle.basics.specs.Answers.{Answer}
use Rattle.entries.specs.declared.Entry.{Entry}
use Rattle.rules.specs.declared.Judge.{Judge}
use Rattle.rules.specs.declared.Tally.{Tally}
use Rattle.usage.specs.declared.Accounted.{Accounted}
use Rattle.usage.specs.Calls.{refusal_for, left_by, own_entry, share_refusal, answer_by}

unfoldable pub accounted_for : List ℕ → Judge → Tally → List Entry → ℕ → Accounted
accounted_for bytes j t es lent = left_by (refusal_for (length bytes) j t es lent) bytes j t es

unfoldable pub share_for : ℕ → Tally → List Entry → ℕ → Answer Entry
share_for slot t es lent =
    answer_by (share_refusal slot t (own_entry slot es) lent) (own_entry slot es)
