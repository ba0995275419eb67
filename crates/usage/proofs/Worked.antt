-- The worked cases: by computing. Assumes nothing.
use mathlib.Core.Path.{refl}
use Rattle.basics.specs.Lines.{bit, active, active_below}
use Rattle.record.specs.Layout.{packed, fields_in, record_in, spare_in}
use Rattle.codes.specs.Parity.{parity_of}
use Rattle.codes.specs.Start.{block_of, unit_of}
use Rattle.codes.specs.Owed.{words_of}
use Rattle.rules.specs.State.{diff_of, judge_of}
use Rattle.rules.specs.Bounds.{judge_bounds, tally_bounds}
use Rattle.rules.specs.Run.{rule_of, step_of, next_of}
use Rattle.rules.specs.Verdict.{refused_by, verdict_of}
use Rattle.usage.specs.Charge.{charged_to, busy_in, added_at, charged}
use Rattle.usage.specs.Calls.{refusal_for, account_refusal, accounted_of}
use Rattle.usage.specs.Cases.{cases, Shown, none, case}

pub worked : Shown cases
unfolding bit active active_below packed fields_in record_in spare_in parity_of block_of unit_of words_of diff_of judge_of judge_bounds tally_bounds rule_of step_of next_of refused_by verdict_of charged_to busy_in added_at charged refusal_for account_refusal accounted_of
worked =
    case refl (case refl (case refl (case refl (case refl (case refl (case refl (case refl (case refl (case refl (case refl (case refl (case refl (case refl (case refl (case refl (case refl (case refl (case refl (case refl (case refl (case refl none)))))))))))))))))))))
