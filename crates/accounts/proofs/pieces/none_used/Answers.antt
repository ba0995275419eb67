-- `accounts::pieces::none_used` meets its contract. Assumes nothing.
use Rattle.entries.specs.declared.Entry.{Entry}
use Rattle.std.proofs.Common.{replicate, ap}
use Rattle.accounts.proofs.pieces.none_used.Goals as goal

pub returns : goal.returns
returns c = ap (λ (e : Entry). replicate 16 e) c.zero.ensures
