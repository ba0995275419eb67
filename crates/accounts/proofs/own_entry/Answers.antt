-- `accounts::own_entry` meets its contract. Assumes nothing.
use Rattle.std.proofs.Common.{sym, ◌∙◌, arith, le-leb}
use borrow.Author.Tests.{lt-leb}
use Rattle.basics.proofs.Bools.{cond-true, cond-false}
use Rattle.usage.specs.Calls.{own_entry}
use Rattle.accounts.proofs.own_entry.Goals as goal

pub returns-then-slot-le15 : goal.returns-then-slot-le15
unfolding own_entry
returns-then-slot-le15 c = sym (cond-true _ _ (le-leb c.args.slot 15 (omega arith)))

pub returns : goal.returns
unfolding own_entry
returns c = c.zero.ensures ∙ sym (cond-false _ _ (lt-leb c.args.slot 15 (omega arith)))
