-- What an input comes to, all of its bytes being given, with the figures of its breach.
use Rattle.std.specs.Prelude.{ℕ, ◌*◌, List, ◌≡◌, take}
use Rattle.rules.specs.declared.Broken.{Broken}
use Rattle.rules.specs.declared.Judge.{Judge}
use Rattle.rules.specs.declared.Verdict.{Verdict}
use Rattle.rules.specs.declared.Verdict.TheVariants.{Conforming, Breach, OutOfBounds, TooMany, Torn}
use Rattle.rules.specs.Names.{rule_in}
use Rattle.rules.specs.Recording.{recording_in, sixteen}
use Rattle.rules.specs.State.{fresh_judge, zero_tally}
use Rattle.rules.specs.Verdict.{outcome_of}
use Rattle.feeding.specs.Input.{judged_in, ending_of}
use Rattle.why.specs.Found.{Found}
use Rattle.witness.specs.declared.Reason.{Reason}
use Rattle.witness.specs.State.{figures_by}

-- the judge's state after the records that are judged: "A breach .. leaves the judge's state as it was before it"
unfoldable pub state_at : ℕ → List ℕ → Judge
state_at limit bytes = (outcome_of (take (judged_in bytes * 16) bytes) (fresh_judge limit) zero_tally).judge

-- the place of the record that broke a rule
abbrev pub place_in : Verdict → ℕ
place_in Conforming = 0
place_in (Breach b) = b.place
place_in OutOfBounds = 0
place_in TooMany = 0
place_in Torn = 0

-- WHAT AN INPUT COMES TO, AND WHY: its ending (feeding/specs/Input), and the figures of the record at the breach
unfoldable pub reason_of : ℕ → List ℕ → Reason
reason_of limit bytes =
    record {
      ending = ending_of limit bytes;
      figures = figures_by (ending_of limit bytes).verdict (state_at limit bytes) (sixteen bytes (place_in (ending_of limit bytes).verdict));
    }

-- the figures are right of the recording itself: at a breach they are those that its record has there (why/specs/Found)
abbrev pub Explained : ℕ → List ℕ → Reason → Type 0
Explained limit bytes r = (b : Broken) → r.ending.verdict ≡ Breach b → Found limit (recording_in bytes) b.place (rule_in b) r.figures
