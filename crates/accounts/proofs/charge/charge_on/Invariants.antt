-- `accounts::charge::charge_on` meets its contract. Assumes nothing.
use Rattle.accounts.proofs.Charging.{Charging}
use Rattle.accounts.proofs.charge.charge_on.Given as goal

abbrev pub invariant-loop-i : goal.invariant-loop-i
invariant-loop-i l = Charging l.bytes l.n l.initial.account l.initial.state l.account l.state l.i
