-- The new entries stand at the account's front, as far as it goes. Assumes nothing.
use native.Mathlib.Omega.{arith}
use Rattle.entries.proofs.Laws.{front-spread}
use Rattle.entries.proofs.spread.Goals as goal

pub returns : goal.returns
returns c = rw c.copy_from_slice.ensures.after (front-spread c.args.account.now c.args.entries c.min-room.result (omega arith))
