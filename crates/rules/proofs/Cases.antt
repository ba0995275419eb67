-- Each of the thirteen rules can be broken, and can be kept by a near twin: by computing. Assumes nothing.
use mathlib.Core.Path.{refl}
use Rattle.basics.specs.Lines.{bit, active, active_below}
use Rattle.record.specs.Layout.{packed, fields_in, record_in, spare_in}
use Rattle.codes.specs.Parity.{parity_of}
use Rattle.codes.specs.Start.{block_of, unit_of}
use Rattle.codes.specs.Owed.{words_of}
use Rattle.rules.specs.State.{diff_of, judge_of}
use Rattle.rules.specs.Bounds.{judge_bounds, tally_bounds}
use Rattle.rules.specs.Run.{rule_of, step_of, next_of}
use Rattle.rules.specs.Verdict.{refusal_of, refused_by, verdict_of, outcome_of}
use Rattle.rules.specs.Cases.{EachRule, none, case}

pub each-rule : EachRule
unfolding bit active active_below packed fields_in record_in spare_in parity_of block_of unit_of words_of diff_of judge_of judge_bounds tally_bounds rule_of step_of next_of refusal_of refused_by verdict_of outcome_of
each-rule =
    record {
      shown =
          case refl refl (case refl refl (case refl refl (case refl refl (case refl refl (case refl refl
          (case refl refl (case refl refl (case refl refl (case refl refl (case refl refl (case refl refl
          (case refl refl (case refl refl (case refl refl (case refl refl (case refl refl (case refl refl
          (case refl refl (case refl refl (case refl refl (case refl refl (case refl refl (case refl refl
          (case refl refl (case refl refl (case refl refl (case refl refl (case refl refl (case refl refl
          (case refl refl (case refl refl (case refl refl (case refl refl (case refl refl (case refl refl
          (case refl refl none))))))))))))))))))))))))))))))))))));
      all = refl;
      p6 = refl;
      first = refl;
    }
