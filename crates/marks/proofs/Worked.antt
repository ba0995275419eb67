-- The worked cases: by computing. Assumes nothing.
use mathlib.Core.Path.{refl}
use Rattle.basics.specs.Lines.{bit, active, active_below}
use Rattle.record.specs.Layout.{packed, fields_in, record_in, spare_in}
use Rattle.codes.specs.Parity.{parity_of}
use Rattle.codes.specs.Start.{block_of, unit_of, decode_of}
use Rattle.codes.specs.Owed.{words_of}
use Rattle.rules.specs.State.{diff_of, judge_of}
use Rattle.rules.specs.Bounds.{judge_bounds, tally_bounds}
use Rattle.rules.specs.Run.{rule_of, step_of, next_of}
use Rattle.rules.specs.Verdict.{verdict_of}
use Rattle.feeding.specs.State.{padded, stream_bounds, taken_in, kept_of, gone_on, fresh_stream, feed_of, finish_of}
use Rattle.marks.specs.Marks.{writes_to, is_start_of}
use Rattle.marks.specs.State.{lawful_marks, seen_of, under_way, phases_bounds, saw_of, next_seen, rest_kept, fresh_phases, fed_phases, no_report, report_of}
use Rattle.marks.specs.Pieces.{report_in}
use Rattle.marks.specs.Cases.{Worked, none, case}

pub worked : Worked
unfolding bit active active_below packed fields_in record_in spare_in parity_of block_of unit_of decode_of words_of diff_of judge_of judge_bounds tally_bounds rule_of step_of next_of verdict_of padded stream_bounds taken_in kept_of gone_on fresh_stream feed_of finish_of writes_to is_start_of lawful_marks seen_of under_way phases_bounds saw_of next_seen rest_kept fresh_phases fed_phases no_report report_of report_in
worked =
    record {
      shown =
          case refl refl refl (case refl refl refl (case refl refl refl (case refl refl refl (case refl refl refl (case refl refl refl (
          case refl refl refl (case refl refl refl (case refl refl refl (case refl refl refl (case refl refl refl (case refl refl refl (
          case refl refl refl (case refl refl refl (case refl refl refl (case refl refl refl (case refl refl refl (case refl refl refl (
          case refl refl refl (case refl refl refl (case refl refl refl (case refl refl refl (case refl refl refl (case refl refl refl (none))))))))))))))))))))))));
      wrapped = refl;
    }
