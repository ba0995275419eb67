-- `accounts::pieces::finish` meets its contract. Assumes nothing.
use Rattle.std.proofs.Common.{false, sym, ◌∙◌}
use Rattle.rules.specs.declared.Verdict.TheVariants.{OutOfBounds}
use Rattle.usage.proofs.Pieces.{closed_as}
use Rattle.accounts.proofs.Posting.{closes_in, closes_out}
use Rattle.accounts.proofs.pieces.finish.Goals as goal

pub returns-then-not-in_bounds : goal.returns-then-not-in_bounds
returns-then-not-in_bounds c = let l = c.args.ledger in
    closed_as l (record { ending = record { verdict = OutOfBounds; tally = c.zero.result; opened = false }; entries = c.none_used.result })
    (closes_out l c.zero.result c.none_used.result (sym c.in_bounds.ensures ∙ c.if-not-in_bounds.true) c.zero.ensures c.none_used.ensures)

pub returns : goal.returns
returns c = let l = c.args.ledger in
    closed_as l (record { ending = c.finish-ending.result; entries = l.entries })
    (closes_in l c.finish-ending.result (sym c.in_bounds.ensures ∙ c.if-not-in_bounds.false) c.finish-ending.ensures.0)
