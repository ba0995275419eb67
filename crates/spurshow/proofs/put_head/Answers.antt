-- `spurshow::put_head` meets its contract. Assumes nothing.
use mathlib.Core.Path.{ap}
use Rattle.printed.proofs.AddingLaws.{adds_put, adds_as, adds_none}
use Rattle.spurshow.specs.Shown.{head_of}
use Rattle.spurshow.proofs.put_head.Goals as goal

pub returns-then-first : goal.returns-then-first
returns-then-first c = adds_as (ap head_of c.if-first.true) (adds_put c.put_head.ensures)

pub returns : goal.returns
returns c = adds_as (ap head_of c.if-first.false) adds_none
