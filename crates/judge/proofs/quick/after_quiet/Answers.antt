-- `judge::quick::after_quiet` meets its contract. Assumes nothing.
use mathlib.Core.Path.{refl}
use Rattle.judge.proofs.Kept.{quiet-leaves, quiet-young}
use Rattle.judge.proofs.quick.after_quiet.Goals as goal

pub aged-transfer-requires : goal.aged-transfer-requires
aged-transfer-requires c = (c.requires.plain.ready.judge.transfer, quiet-young c.args.judge c.args.tally c.args.lines c.args.d c.requires)

pub returns : goal.returns
returns c = let a = c.args in
    simp (c.unbroken.ensures, c.state_after-next.ensures, c.waited-wave.ensures, c.aged-transfer.ensures)
    (refl, quiet-leaves a.judge a.tally a.lines a.d c.requires)
