-- `judge::quick::after_ack` meets its contract. Assumes nothing.
use mathlib.Core.Path.{refl}
use Rattle.judge.proofs.Kept.{ack-leaves}
use Rattle.judge.proofs.quick.after_ack.Goals as goal

pub returns : goal.returns
returns c = let a = c.args in
    simp (c.unbroken.ensures, c.state_after-next.ensures, c.waited-wave.ensures)
    (refl, ack-leaves a.judge a.tally a.lines a.d c.requires)
