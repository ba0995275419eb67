-- `stream::take_in` meets its contract. Assumes nothing.
use mathlib.Core.Path.{sym, ◌∙◌}
use Rattle.feeding.proofs.GoOn.{feed_ended}
use Rattle.feeding.proofs.Bounds.{bounds_are}
use Rattle.stream.proofs.Calls.{took_whole, took_in}
use Rattle.stream.proofs.take_in.Goals as goal

pub returns-then-not-is_going : goal.returns-then-not-is_going
returns-then-not-is_going c = sym (feed_ended c.args.stream c.args.piece.now (sym c.is_going.ensures ∙ c.if-not-is_going.true))

pub go_on-requires : goal.go_on-requires
go_on-requires c = let h = bounds_are c.args.stream c.requires in (h.0, (h.1.0, h.1.1.0))

pub returns-then-stream-eq0 : goal.returns-then-stream-eq0
returns-then-stream-eq0 c = took_whole c.args.stream c.args.piece.now c.go_on.result (sym c.is_going.ensures ∙ c.if-not-is_going.false) c.if-stream-eq0.true c.go_on.ensures

pub complete-requires : goal.complete-requires
complete-requires c = bounds_are c.args.stream c.requires

pub returns : goal.returns
returns c = took_in c.args.stream c.args.piece.now c.complete.result (sym c.is_going.ensures ∙ c.if-not-is_going.false) c.complete.ensures
