-- `accounts::charge::added` meets its contract. Assumes nothing.
use Rattle.accounts.proofs.charge.added.Goals as goal

pub returns : goal.returns
returns c = rw c.one_if.ensures.0
