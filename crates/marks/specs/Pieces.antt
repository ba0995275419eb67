-- An input in pieces of any length: what `finish` reports is right of the whole input's recording.
use Rattle.std.specs.Prelude.{ℕ, zero, suc, ◌+◌, ◌≤◌, ◌<◌, false, List, [], ◌∷◌, ◌++◌, ◌≡◌, get_or}
use Rattle.basics.specs.Answers.{accepted}
use Rattle.rules.specs.Recording.{recording_in, cycle}
use Rattle.rules.specs.Exact.{joined}
use Rattle.rules.specs.Thirteen.{Keeps}
use Rattle.feeding.specs.Input.{judged_in}
use Rattle.marks.specs.declared.Marks.{Marks}
use Rattle.marks.specs.declared.Phases.{Phases}
use Rattle.marks.specs.declared.Report.{Report}
use Rattle.marks.specs.declared.Why.TheVariants.{Complete}
use Rattle.marks.specs.Marks.{MarkAt}
use Rattle.marks.specs.Report.{Right, diff_at}
use Rattle.marks.specs.State.{under_way, fresh_phases, begun_of, fed_phases, phased_of, report_of}

-- the state after one piece after another
abbrev pub fed_all : Phases → List (List ℕ) → Phases
fed_all p [] = p
fed_all p (piece ∷ pieces) = fed_all (fed_phases p piece) pieces

-- the report of an input, all of its bytes being given at once
unfoldable pub report_in : ℕ → Marks → List ℕ → Report
report_in limit m bytes = report_of (fed_phases (fresh_phases limit m) bytes)

-- the differences of marks 1 to n, added up
abbrev pub summed : List ℕ → ℕ → ℕ
summed spans zero = 0
summed spans (suc n) = summed spans n + diff_at spans (suc n)

-- THE PROMISE to whoever feeds an input in pieces, for each hold limit and all marks that are not refused
pub record Phasing (limit : ℕ) (m : Marks) : Type 0 where
  -- A fresh state is there, and is where the feeding begins.
  pub begins : begun_of limit m ≡ accepted (fresh_phases limit m)
  -- No piece is refused, and the call's answer is the next state.
  pub accepts : (pieces : List (List ℕ)) (piece : List ℕ)
      → let p = fed_all (fresh_phases limit m) pieces in phased_of p piece ≡ accepted (fed_phases p piece)
  -- Whatever the pieces are, the end reports what the whole input has,
  pub says : (pieces : List (List ℕ)) → report_of (fed_all (fresh_phases limit m) pieces) ≡ report_in limit m (joined pieces)
  -- which is right of the recording itself,
  pub right : (bytes : List ℕ) → Right limit m bytes (report_in limit m bytes)
  -- and is the only report that is.
  pub only : (bytes : List ℕ) (e f : Report) → Right limit m bytes e → Right limit m bytes f → e ≡ f
  -- Once it is over, at the last mark's ACK, a breach or a whole record past 2^30, further pieces change nothing:
  pub ended : (pieces more : List (List ℕ))
      → let p = fed_all (fresh_phases limit m) pieces in under_way p ≡ false → fed_all p more ≡ p
  -- nothing behind that is looked at.
  pub rest : (pieces : List (List ℕ)) (rest : List ℕ)
      → under_way (fed_all (fresh_phases limit m) pieces) ≡ false → report_in limit m (joined pieces ++ rest) ≡ report_in limit m (joined pieces)
  -- "its times equal those from the whole recording where all of it conforms": where every record keeps every rule and the recording has the last
  -- mark, the report is complete, and each mark's span is the cycle of its START.
  pub whole : (bytes : List ℕ) (last k i : ℕ)
      → ((j : ℕ) → j < judged_in bytes → Keeps limit (recording_in bytes) j)
      → suc last ≡ m.count → MarkAt (recording_in bytes).lines m last k i → i < judged_in bytes
      → ((report_in limit m bytes).why ≡ Complete) × ((p l j : ℕ) → MarkAt (recording_in bytes).lines m p l j → p ≤ last → get_or (report_in limit m bytes).spans p 0 ≡ cycle (recording_in bytes).lines l)
  -- No difference is cut off at 0: those of marks 1 to n, added to the first span, are the span at mark n, so that all of them together are the last
  -- span less the first.
  pub sums : (bytes : List ℕ) (n : ℕ) → n < (report_in limit m bytes).found
      → get_or (report_in limit m bytes).spans 0 0 + summed (report_in limit m bytes).spans n ≡ get_or (report_in limit m bytes).spans n 0
