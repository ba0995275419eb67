-- Document 01, "The judge" and "Numbers that are fixed": refusals 5, 8 and 1 in that order, and what a call of the judge answers.
use Rattle.std.specs.Prelude.{ℕ, ◌+◌, ◌/◌, ◌%◌, ◌^◌, Bool, true, false, cond, ◌&&◌, List, length, eqb, leb, None, Result}
use Rattle.basics.specs.Numbers.{lawful_limit}
use Rattle.basics.specs.Order.{unless}
use Rattle.basics.specs.Answers.{Answer, accepted, refused, answered}
use Rattle.basics.specs.declared.refusal.Refusal.{Refusal}
use Rattle.rules.specs.declared.Judge.{Judge}
use Rattle.rules.specs.declared.Tally.{Tally}
use Rattle.rules.specs.declared.Transfer.TheVariants.{Idle}
use Rattle.rules.specs.declared.Progress.{Progress}
use Rattle.rules.specs.declared.Broken.{Broken}
use Rattle.rules.specs.declared.Verdict.{Verdict}
use Rattle.rules.specs.declared.Verdict.TheVariants.{Conforming, Breach, OutOfBounds, TooMany, Torn}
use Rattle.rules.specs.declared.Judged.{Judged}
use Rattle.rules.specs.declared.Outcome.{Outcome}
use Rattle.rules.specs.Bounds.{judge_bounds, tally_bounds}
use Rattle.rules.specs.State.{fresh_judge}
use Rattle.rules.specs.Run.{from, run_of, records_in}

-- ---- a fresh judge
-- all zeros: what a refusal gives
abbrev pub no_judge : Judge
no_judge =
    record {
      limit = 0;
      seen = false;
      stamp = 0;
      transfer = Idle;
      wave = record { rqst = false; prior = false; owner = None; since = 0; arb = 0; turn = 0 };
    }

-- refusal 3: "hold limit not 1 to 16"
unfoldable pub fresh_of : ℕ → Answer Judge
fresh_of limit = cond (lawful_limit limit) (accepted (fresh_judge limit)) (refused 3 no_judge)

-- document 01's number and values for each answer of the constructor
abbrev pub fresh_answer : Result Judge Refusal → Answer Judge
fresh_answer = answered no_judge

-- ---- a call of the judge
-- "the tally's records and the whole ones now given pass 2^30 together"
abbrev pub most_records : ℕ
most_records = 2 ^ 30

-- the refusal of a call with so many bytes: 5, 8, 1, or 0 where it is accepted
unfoldable pub refusal_of : ℕ → Judge → Tally → ℕ
refusal_of size j t =
    unless (judge_bounds j && tally_bounds t) 5
    (unless (leb (t.records + size / 16) most_records) 8
    (unless (eqb (size % 16) 0) 1 0))

-- the verdict of a refusal's number
unfoldable pub refused_by : ℕ → Verdict
refused_by number = cond (eqb number 5) OutOfBounds (cond (eqb number 8) TooMany Torn)

-- "A breach names its rule and the tally's records", its kind and the span
abbrev pub broken_by : Progress → Broken
broken_by p = record { rule = p.rule; kind = p.kind; place = p.tally.records; span = p.span }

unfoldable pub verdict_of : Progress → Verdict
verdict_of p = cond (eqb p.rule 0) Conforming (Breach (broken_by p))

-- what a recording's records leave: the verdict, the state and the tally
abbrev pub outcome_in : Progress → Outcome
outcome_in p = record { verdict = verdict_of p; judge = p.judge; tally = p.tally }

-- the call: a refusal "hands back any state unchanged .. and writes nothing"; else all records are judged, up to the first breach
unfoldable pub outcome_of : List ℕ → Judge → Tally → Outcome
outcome_of bytes j t =
    cond (eqb (refusal_of (length bytes) j t) 0)
    (outcome_in (run_of (from j t) (records_in (length bytes / 16) bytes)))
    (record { verdict = refused_by (refusal_of (length bytes) j t); judge = j; tally = t })

-- the same for a caller who lends the tally: the answer, the tally at exit being `outcome_of .. .tally`
abbrev pub judged_of : Outcome → Judged
judged_of o = record { verdict = o.verdict; judge = o.judge }

-- ---- document 01's number and values for each verdict
-- whether a rule is broken, which, of which kind, at which record, and the span there; all zeros where none is and on a refusal
pub record Finding : Type 0 where
  pub breach : Bool
  pub rule : ℕ
  pub kind : ℕ
  pub place : ℕ
  pub span : ℕ

abbrev pub nothing : Finding
nothing = record { breach = false; rule = 0; kind = 0; place = 0; span = 0 }

abbrev pub finding_of : Broken → Finding
finding_of b = record { breach = true; rule = b.rule; kind = b.kind; place = b.place; span = b.span }

abbrev pub verdict_answer : Verdict → Answer Finding
verdict_answer Conforming = accepted nothing
verdict_answer (Breach b) = accepted (finding_of b)
verdict_answer OutOfBounds = refused 5 nothing
verdict_answer TooMany = refused 8 nothing
verdict_answer Torn = refused 1 nothing
