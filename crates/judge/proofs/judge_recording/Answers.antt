-- `judge::judge_recording` meets its contract: all that the proof knows of `judge_all` is its contract. Assumes nothing.
use mathlib.Core.Path.{ap}
use Rattle.rules.specs.declared.Outcome.{Outcome}
use Rattle.rules.specs.Verdict.{judged_of}
use Rattle.judge.proofs.judge_recording.Goals as goal

pub returns : goal.returns
returns c = let e = c.judge_all-end.ensures in
    (ap judged_of e.0, (ap (λ (o : Outcome). o.tally) e.0, e.1))
