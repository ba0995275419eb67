-- A judge that is fed an input in pieces and keeps the record that broke a rule: its state, and what `fresh`, `feed` and `finish` answer.
use Rattle.std.specs.Prelude.{ℕ, ◌-◌, cond, List, ◌++◌, replicate}
use Rattle.basics.specs.Answers.{Answer, accepted, refused}
use Rattle.basics.specs.Numbers.{lawful_limit}
use Rattle.rules.specs.declared.Broken.{Broken}
use Rattle.rules.specs.declared.Judge.{Judge}
use Rattle.rules.specs.declared.Verdict.{Verdict}
use Rattle.rules.specs.declared.Verdict.TheVariants.{Conforming, Breach, OutOfBounds, TooMany, Torn}
use Rattle.rules.specs.Names.{rule_in}
use Rattle.rules.specs.State.{diff_of}
use Rattle.rules.specs.Run.{taken_in}
use Rattle.rules.specs.Recording.{sixteen}
use Rattle.feeding.specs.declared.Stop.{Stop}
use Rattle.feeding.specs.declared.Stop.TheVariants.{Going, AtBreach, PastMost}
use Rattle.feeding.specs.State.{goes, padded, torn_of, stream_bounds, fresh_stream, no_stream, feed_of, finish_of}
use Rattle.why.specs.declared.Figures.{Figures}
use Rattle.why.specs.Figures.{figures, figures_of}
use Rattle.witness.specs.declared.Witness.{Witness}
use Rattle.witness.specs.declared.Reason.{Reason}

-- ---- the figures
-- of a breach by the record that sixteen bytes hold, the judge's state before it being j
unfoldable pub broken_figures : Broken → Judge → List ℕ → Figures
broken_figures b j bytes = figures_of (rule_in b) j (taken_in bytes) (diff_of j (taken_in bytes).lines.stamp)

-- both 0 where no rule is broken
abbrev pub figures_by : Verdict → Judge → List ℕ → Figures
figures_by Conforming j bytes = figures 0 0
figures_by (Breach b) j bytes = broken_figures b j bytes
figures_by OutOfBounds j bytes = figures 0 0
figures_by TooMany j bytes = figures 0 0
figures_by Torn j bytes = figures 0 0

-- ---- the state
-- no record broke a rule
abbrev pub no_record : List ℕ
no_record = replicate 16 0

-- the sixteen bytes of the record that broke a rule, from bytes that begin with record n
abbrev pub caught_in : Stop → ℕ → List ℕ → List ℕ
caught_in Going n bytes = no_record
caught_in (AtBreach b) n bytes = padded (sixteen bytes (b.place - n))
caught_in PastMost n bytes = no_record

-- ---- the calls
-- an input from the start
abbrev pub fresh_witness : ℕ → Witness
fresh_witness limit = record { stream = fresh_stream limit; bytes = no_record }

-- all zeros: what a refusal gives
unfoldable pub no_witness : Witness
no_witness = record { stream = no_stream; bytes = no_record }

-- refusal 3: "hold limit not 1 to 16"
unfoldable pub begun_of : ℕ → Answer Witness
begun_of limit = cond (lawful_limit limit) (accepted (fresh_witness limit)) (refused 3 no_witness)

-- the judge is fed the piece; once the judging has ended, nothing changes any more
unfoldable pub note_of : Witness → List ℕ → Witness
note_of w piece =
    cond (goes w.stream.stop)
    (record {
      stream = feed_of w.stream piece;
      bytes = caught_in (feed_of w.stream piece).stop w.stream.tally.records (torn_of w.stream ++ piece);
    })
    w

-- refusal 5 hands the state back
unfoldable pub noted_of : Witness → List ℕ → Answer Witness
noted_of w piece = cond (stream_bounds w.stream) (accepted (note_of w piece)) (refused 5 w)

-- what the input comes to, if it ends here
unfoldable pub reason_in : Witness → Reason
reason_in w = record { ending = finish_of w.stream; figures = figures_by (finish_of w.stream).verdict w.stream.judge w.bytes }
