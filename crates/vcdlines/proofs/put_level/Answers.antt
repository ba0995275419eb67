-- `vcdlines::put_level` meets its contract. Assumes nothing.
use Rattle.vcdlines.proofs.put_level.Goals as goal

pub returns : goal.returns
returns g c = rw (← c.one_if.ensures.0) c.add_digits.ensures
