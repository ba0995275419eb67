-- `reading::taken` meets its contract. Assumes nothing.
use mir.Facts.{to_z-of_z}
use Rattle.reading.proofs.Reading.{none_taken, some_taken}
use Rattle.reading.proofs.taken.Goals as goal

pub returns-then-failed-clause-value : goal.returns-then-failed-clause-value
returns-then-failed-clause-value c = let a = c.args in none_taken (record { got = a.got; buffer = a.buffer.now }) _ (to_z-of_z c.ranges.got) c.if-failed.true

pub returns-clause-value : goal.returns-clause-value
returns-clause-value c = let a = c.args in
    some_taken (record { got = a.got; buffer = a.buffer.now }) c.count.result _ (to_z-of_z c.ranges.got) c.count.ensures.value c.if-failed.false
