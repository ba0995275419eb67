-- `witness::caught` meets its contract. Assumes nothing.
use mathlib.Core.List.{◌++◌}
use Rattle.feeding.specs.State.{torn_of}
use Rattle.witness.proofs.Calls.{caught_as}
use Rattle.witness.proofs.caught.Goals as goal

pub returns-in-AtBreach : goal.returns-in-AtBreach
returns-in-AtBreach c = let a = c.args in
    caught_as a.stop _ a.before.tally.records c.saturating_sub-place.result (torn_of a.before ++ a.piece.now) _ c.in-AtBreach.is c.saturating_sub-place.ensures c.sixteen_at.ensures
