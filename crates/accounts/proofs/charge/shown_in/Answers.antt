-- `accounts::charge::shown_in` meets its contract. Assumes nothing.
use Rattle.std.proofs.Common.{arith}
use Rattle.accounts.proofs.Watched.{shown-bytes}
use Rattle.accounts.proofs.charge.shown_in.Goals as goal

pub overflow_mul-result : goal.overflow_mul-result
overflow_mul-result c = omega (arith, (c.type_inv.part 4).fits)

pub overflow_add-result : goal.overflow_add-result
overflow_add-result c = omega (arith, (c.type_inv.part 4).fits)

pub returns : goal.returns
returns c = let given = c.type_inv.part in
    shown-bytes c.args.part.now c.requires (λ k. (given k).fits) c.from_be_bytes-stamp.result c.from_be_bytes-stamp.ensures
