-- `reading::told` meets its contract. Assumes nothing.
use Rattle.reading.specs.Pages.{unread}
use Rattle.reading.proofs.Printing.{holds_put, told-says}
use Rattle.reading.proofs.told.Goals as goal

pub returns-then-input : goal.returns-then-input
returns-then-input g c = λ begun lawful text is laws tells fits out. unread _ c.args.input is out c.if-input.true

pub returns : goal.returns
returns g c = λ begun lawful text is laws tells fits out.
    let m = g.M.Machine in
    let put = c.put_text.ensures in
    told-says m.feeder begun laws text m.says tells lawful is c.args.input _ _ c.if-input.false out (holds_put _ _ (m.says c.args.input.state) _ fits put.0 put.1)
