-- The judging program's example, by computing on the definitions. Assumes nothing.
use mathlib.Core.Path.{refl}
use Rattle.basics.specs.Lines.{bit, active, active_below}
use Rattle.record.specs.Layout.{fields_in, record_in, spare_in}
use Rattle.codes.specs.Owed.{words_of}
use Rattle.codes.specs.Parity.{parity_of}
use Rattle.codes.specs.Start.{block_of, unit_of}
use Rattle.codes.specs.Modes.{mode_at}
use Rattle.rules.specs.Bounds.{judge_bounds, tally_bounds}
use Rattle.rules.specs.Run.{rule_of, step_of, next_of}
use Rattle.rules.specs.State.{diff_of, judge_of}
use Rattle.rules.specs.Verdict.{refusal_of, refused_by, verdict_of, outcome_of}
use Rattle.feeding.specs.Input.{judged_in, end_of, ending_of}
use Rattle.text.specs.Decimal.{spelled, decimal_of}
use Rattle.printed.specs.Lines.{totals_line}
use Rattle.examples.specs.Program.{ProgramPrints}

pub program_prints : ProgramPrints
unfolding bit active active_below fields_in record_in spare_in words_of parity_of block_of unit_of mode_at judge_bounds tally_bounds rule_of step_of next_of diff_of judge_of refusal_of refused_by verdict_of outcome_of judged_in end_of ending_of totals_line decimal_of spelled
program_prints = refl
