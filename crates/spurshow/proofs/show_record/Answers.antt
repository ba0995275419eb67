-- `spurshow::show_record` meets its contract. Assumes nothing.
use mathlib.Core.Path.{sym, ap, ◌∙◌}
use Rattle.rules.specs.Run.{Taken}
use Rattle.walk.specs.declared.Walked.{Walked}
use Rattle.walk.specs.Walks.{onward}
use Rattle.printed.proofs.AddingLaws.{adds_as}
use Rattle.spurshow.specs.Shown.{text_of}
use Rattle.spurshow.proofs.Showing.{taken-whole}
use Rattle.spurshow.proofs.show_record.Goals as goal

pub put_record-place-requires : goal.put_record-place-requires
put_record-place-requires c = let pre = c.requires in (pre.0, pre.1.0)

pub returns : goal.returns
returns c = let a = c.args in
    let pre = c.requires in
    let taken = taken-whole a.part.now _ _ pre.1.1 c.lines_in-lines.ensures c.spare_in-spare.ensures in
    (ap (λ (x : Walked). x.walk) c.step_on.ensures ∙ ap (λ (x : Taken). onward a.walk x.lines) taken, adds_as (ap (text_of a.asked a.walk) (sym taken)) c.put_record-place.ensures)
