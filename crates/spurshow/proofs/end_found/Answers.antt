-- `spurshow::end_found` meets its contract. Assumes nothing.
use Rattle.spurshow.proofs.Showing.{end_none, end-shown, end-many, end_whole, end-torn}
use Rattle.spurshow.proofs.end_found.Goals as goal

pub returns-then-after-asked : goal.returns-then-after-asked
returns-then-after-asked c = let a = c.args in end_none a.asked a.earlier a.size a.after c.if-after-asked.true

pub returns-then-asked-after : goal.returns-then-asked-after
returns-then-asked-after c = let a = c.args in end-shown a.asked a.earlier a.size a.after c.if-after-asked.false c.if-asked-after.true

pub returns-then-earlier-size : goal.returns-then-earlier-size
returns-then-earlier-size c = let a = c.args in end-many a.asked a.earlier a.size a.after c.if-after-asked.false c.if-asked-after.false c.if-earlier-size.true

pub returns-then-size-eq0 : goal.returns-then-size-eq0
returns-then-size-eq0 c = let a = c.args in end_whole a.asked a.earlier a.size a.after c.if-after-asked.false c.if-asked-after.false c.if-earlier-size.false c.if-size-eq0.true

pub returns : goal.returns
returns c = let a = c.args in end-torn a.asked a.earlier a.size a.after c.if-after-asked.false c.if-asked-after.false c.if-earlier-size.false c.if-size-eq0.false
