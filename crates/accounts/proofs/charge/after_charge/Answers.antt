-- `accounts::charge::after_charge` meets its contract. Assumes nothing.
use Rattle.std.proofs.Common.{sym}
use Rattle.basics.proofs.Bools.{cond-true, cond-false}
use Rattle.accounts.proofs.charge.after_charge.Goals as goal

pub returns-then-shown : goal.returns-then-shown
returns-then-shown c = sym (cond-true _ _ c.if-shown.true)

pub returns : goal.returns
returns c = sym (cond-false _ _ c.if-shown.false)
