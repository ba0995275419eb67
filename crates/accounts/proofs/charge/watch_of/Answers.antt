-- `accounts::charge::watch_of` meets its contract. Assumes nothing.
use Rattle.std.proofs.Common.{◌∙◌}
use Rattle.accounts.proofs.Watched.{owners_slot}
use Rattle.accounts.proofs.charge.watch_of.Goals as goal

pub returns : goal.returns
returns c = simp (c.counts.ensures.busy, c.is_open.ensures, c.unwrap_or.ensures ∙ owners_slot c.args.judge.wave.owner, c.pick-last.ensures)
