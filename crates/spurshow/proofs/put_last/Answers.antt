-- `spurshow::put_last` meets its contract. Assumes nothing.
use Rattle.spurshow.proofs.Showing.{last_made, none_made}
use Rattle.spurshow.proofs.put_last.Goals as goal

pub returns-then-asked-walk : goal.returns-then-asked-walk
returns-then-asked-walk c = let a = c.args in
    let m = last_made a.asked a.walk a.text.now _ _ _ c.requires c.front-start.ensures c.if-asked-walk.true c.put_end.ensures in
    record { text_after = m.text; prefix_len = (m.within, m.size) }

pub returns : goal.returns
returns c = let a = c.args in
    let m = none_made a.asked a.walk a.text.now _ c.front-start.ensures c.if-asked-walk.false in
    record { text_after = m.text; prefix_len = (m.within, m.size) }
