-- `accounts::charge::watch_before` meets its contract. Assumes nothing.
use Rattle.std.proofs.Common.{ap, ◌∙◌}
use Rattle.accounts.specs.declared.charge.Shown.{Shown}
use Rattle.accounts.specs.Watch.{watch_of}
use Rattle.accounts.proofs.charge.watch_before.Goals as goal

pub returns : goal.returns
returns c = c.watch_of.ensures ∙ ap (λ (s : Shown). watch_of c.args.judge s.stamp) c.shown_in.ensures
