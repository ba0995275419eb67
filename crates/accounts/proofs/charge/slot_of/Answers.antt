-- `accounts::charge::slot_of` meets its contract. Assumes nothing.
use Rattle.accounts.specs.Watch.{slot_by}
use Rattle.accounts.proofs.charge.slot_of.Goals as goal

pub returns : goal.returns
unfolding slot_by
returns c = simp c.pick.ensures
