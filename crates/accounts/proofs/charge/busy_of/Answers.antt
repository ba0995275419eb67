-- `accounts::charge::busy_of` meets its contract. Assumes nothing.
use Rattle.accounts.specs.Watch.{busy_by}
use Rattle.accounts.proofs.charge.busy_of.Goals as goal

pub returns : goal.returns
unfolding busy_by
returns c = simp (c.pick.ensures, c.pick-ended.ensures, c.one_if-attention.ensures.0)
