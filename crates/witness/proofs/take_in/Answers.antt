-- `witness::take_in` meets its contract. Assumes nothing.
use mathlib.Core.Path.{sym, ◌∙◌}
use Rattle.feeding.proofs.Bounds.{bounds_are}
use Rattle.stream.proofs.Calls.{fed_or}
use Rattle.witness.proofs.Calls.{note_as, note_ended}
use Rattle.witness.proofs.take_in.Goals as goal

pub returns-then-not-is_going : goal.returns-then-not-is_going
returns-then-not-is_going c = let a = c.args in note_ended a.witness a.piece.now (sym c.is_going.ensures ∙ c.if-not-is_going.true)

pub caught-bytes-requires : goal.caught-bytes-requires
caught-bytes-requires c = (bounds_are c.args.witness.stream c.requires).1.1.1

pub returns : goal.returns
returns c = let a = c.args in
    let fed = fed_or a.witness.stream a.piece.now c.feed.result c.unwrap_or-next.result c.feed.ensures c.unwrap_or-next.ensures c.requires in
    note_as a.witness a.piece.now c.unwrap_or-next.result _ (sym c.is_going.ensures ∙ c.if-not-is_going.false) fed c.caught-bytes.ensures
