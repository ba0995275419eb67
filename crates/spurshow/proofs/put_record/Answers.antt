-- `spurshow::put_record` meets its contract, form by form. Assumes nothing.
use Rattle.printed.proofs.AddingLaws.{adds_put, adds_then, adds_as, adds_none}
use Rattle.spurshow.proofs.Showing.{text_none, text_row, text_dump}
use Rattle.spurshow.proofs.put_record.Goals as goal

pub returns-then-walk-asked : goal.returns-then-walk-asked
returns-then-walk-asked c = let a = c.args in adds_as (text_none a.asked a.walk (record { lines = a.lines; spare = a.spare }) c.if-walk-asked.true) adds_none

pub returns-then-asked : goal.returns-then-asked
returns-then-asked c = let a = c.args in
    adds_as (text_dump a.asked a.walk (record { lines = a.lines; spare = a.spare }) _ c.step_on-walked.ensures c.if-walk-asked.false c.if-asked.true) (adds_then c.put_head-head.ensures (adds_put c.put_change.ensures))

pub returns : goal.returns
returns c = let a = c.args in
    adds_as (text_row a.asked a.walk (record { lines = a.lines; spare = a.spare }) _ c.step_on-walked.ensures c.if-walk-asked.false c.if-asked.false) (adds_put c.put_row.ensures)
