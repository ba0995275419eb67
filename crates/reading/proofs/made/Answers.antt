-- `reading::made` meets its contract. Assumes nothing.
use mathlib.Core.Path.{ap, ◌∙◌}
use native.Mathlib.Omega.{arith}
use Rattle.printed.specs.Lines.{refused_line}
use Rattle.printed.proofs.LineLaws.{refusal-most}
use Rattle.reading.proofs.Printing.{refused-says}
use Rattle.reading.proofs.made.Goals as goal

pub returns-in-Ok : goal.returns-in-Ok
returns-in-Ok g c = λ fresh lawful text making.
    let begun = making.begins _ c.in-Ok.is in
    let laws = making.pieces begun.0 in
    let out = c.read_all-input.ensures fresh begun.1 laws in
    c.told.ensures fresh lawful text begun.0 laws (making.tells begun.0) (making.text_fits begun.0 _ out) out

pub returns-in-Err : goal.returns-in-Err
returns-in-Err g c = λ fresh lawful text making.
    let refused = making.refuses _ c.in-Err.is in
    let put = rw c.front.ensures at c.put_refused.ensures in
    let most = refusal-most c.number.result in
    let fits = making.line_fits in
    refused-says g.M.Machine.feeder fresh lawful text _ _ _ _ refused.0 (λ bytes. ap refused_line c.number.ensures ∙ refused.1 bytes) (omega arith) put.0 put.1
