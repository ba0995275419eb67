-- `judge::quick::after_start` meets its contract. Assumes nothing.
use mathlib.Core.Path.{refl}
use Rattle.judge.proofs.Kept.{start-leaves}
use Rattle.judge.proofs.quick.after_start.Goals as goal

pub returns : goal.returns
returns c = let a = c.args in
    simp (c.unbroken.ensures, c.state_after-next.ensures, c.started-wave.ensures)
    (refl, start-leaves a.judge a.tally a.lines a.words a.d c.requires)
