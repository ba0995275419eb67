-- `spurshow::ranged` meets its contract, number by number. Assumes nothing.
use Rattle.spurshow.proofs.ranged.Goals as goal

pub returns-in_default : goal.returns-in_default
returns-in_default c = rw (c.in_default.is-0, c.in_default.is-1)
