-- Document 01, "Checked examples": "The judging program reads standard input with hold limit 16. .. The first line holds the five totals and whether a
-- transfer is open (0 or 1). The second may be `breach rule J record I` (I from 0, totals of the records before it) or, with no breach and a torn end,
-- `refused 1`; at a whole record past 2^30, `refused 8`; both with the totals so far." What an input comes to, all of its bytes being given.
use Rattle.std.specs.Prelude.{ℕ, ◌*◌, ◌/◌, ◌%◌, min, cond, List, ◌≡◌, length, take, eqb, ltb}
use Rattle.rules.specs.declared.Outcome.{Outcome}
use Rattle.rules.specs.declared.Verdict.{Verdict}
use Rattle.rules.specs.declared.Verdict.TheVariants.{Conforming, Breach, OutOfBounds, TooMany, Torn}
use Rattle.rules.specs.Recording.{recording_in}
use Rattle.rules.specs.State.{is_open, fresh_judge, zero_tally}
use Rattle.rules.specs.Verdict.{most_records, outcome_of}
use Rattle.rules.specs.Exact.{Exact}
use Rattle.feeding.specs.declared.Ending.{Ending}

-- the whole records of the input
abbrev pub whole_in : List ℕ → ℕ
whole_in bytes = length bytes / 16

-- of them at most 2^30 are judged
unfoldable pub judged_in : List ℕ → ℕ
judged_in bytes = min (whole_in bytes) most_records

-- what the end of the input is, where no rule is broken: "at a whole record past 2^30, `refused 8`", else with "a torn end, `refused 1`"
unfoldable pub end_of : List ℕ → Verdict
end_of bytes = cond (ltb most_records (whole_in bytes)) TooMany (cond (eqb (length bytes % 16) 0) Conforming Torn)

-- the verdict on the input, from the one on the records that are judged: a breach among them wins over its end
abbrev pub input_verdict : List ℕ → Verdict → Verdict
input_verdict bytes Conforming = end_of bytes
input_verdict bytes (Breach b) = Breach b
input_verdict bytes OutOfBounds = OutOfBounds
input_verdict bytes TooMany = TooMany
input_verdict bytes Torn = Torn

-- WHAT THE INPUT COMES TO, said of the recording itself: the outcome of the records that are judged is exact (`Exact`: the first breach with its
-- lowest rule, the totals of the records before it, whether a transfer is open there), and the ending is that outcome's, with the input's end
pub record Answers (limit : ℕ) (bytes : List ℕ) (e : Ending) : Type 0 where
  pub outcome : Outcome
  pub exact : Exact limit (recording_in bytes) (judged_in bytes) outcome
  pub verdict : e.verdict ≡ input_verdict bytes outcome.verdict
  pub totals : e.tally ≡ outcome.tally
  pub opened : e.opened ≡ is_open outcome.judge.transfer

-- the same as a function: the judge's call on the bytes of the records that are judged, from a fresh judge and zero totals
abbrev pub ending_with : List ℕ → Outcome → Ending
ending_with bytes o = record { verdict = input_verdict bytes o.verdict; tally = o.tally; opened = is_open o.judge.transfer }

unfoldable pub ending_of : ℕ → List ℕ → Ending
ending_of limit bytes = ending_with bytes (outcome_of (take (judged_in bytes * 16) bytes) (fresh_judge limit) zero_tally)
