-- Walking a recording record by record, and what a walk says of the recording itself: document 01, "The line record": "The stamp counts 100 ns bus
-- cycles. Cycles in which all 81 lines are inactive may be missing".
use Rattle.std.specs.Prelude.{ℕ, zero, suc, ◌+◌, ◌*◌, ◌^◌, Bool, cond, ◌&&◌, ◌==◌, nat_le, nat_lt}
use Rattle.basics.specs.Answers.{Answer, accepted, refused}
use Rattle.basics.specs.Order.{unless}
use Rattle.record.specs.declared.Record.{Record}
use Rattle.record.specs.Packing.{blank}
use Rattle.rules.specs.Rules.{difference}
use Rattle.rules.specs.Recording.{Lines, cycle}
use Rattle.rules.specs.Verdict.{most_records}
use Rattle.walk.specs.declared.Walk.{Walk}
use Rattle.walk.specs.declared.Walked.{Walked}

-- before the first record
abbrev pub fresh_walk : Walk
fresh_walk = record { place = 0; cycle = 0; last = blank }

-- ---- a step
-- the bounds for refusal 5: at most 2^30 records, each of them less than 2^32 cycles after the one before
unfoldable pub walk_bounds : Walk → Bool
walk_bounds w = nat_le w.place most_records && nat_le w.cycle (w.place * 2 ^ 32)

-- 5, a walk out of bounds; then 8, a record past 2^30
unfoldable pub step_refusal : Walk → ℕ
step_refusal w = unless (walk_bounds w) 5 (unless (nat_lt w.place most_records) 8 0)

-- "The stamp's difference to the last one, modulo 2^32"; the first record has none
unfoldable pub gap_before : Walk → ℕ → ℕ
gap_before w stamp = cond (w.place == 0) 0 (difference w.last.stamp stamp)

-- the walk behind one record more
unfoldable pub onward : Walk → Record → Walk
onward w r = record { place = w.place + 1; cycle = w.cycle + gap_before w r.stamp; last = r }

-- what a refusal hands back: the walk, and 0 for the gap
abbrev pub stayed : Walk → Walked
stayed w = record { walk = w; gap = 0 }

-- what a step answers
unfoldable pub step_of : Walk → Record → Answer Walked
step_of w r =
    cond (step_refusal w == 0)
    (accepted (record { walk = onward w r; gap = gap_before w r.stamp }))
    (refused (step_refusal w) (stayed w))

-- ---- a recording
-- the walk over the first n records of a recording, step by step
abbrev pub walked_to : Lines → ℕ → Walk
walked_to r zero = fresh_walk
walked_to r (suc n) = (step_of (walked_to r n) (r n)).value.walk

-- what it is to say: n records, and of the last one the cycle in which it stands in the recording, and its lines
abbrev pub walk_at : Lines → ℕ → Walk
walk_at r zero = fresh_walk
walk_at r (suc n) = record { place = suc n; cycle = cycle r n; last = r n }
