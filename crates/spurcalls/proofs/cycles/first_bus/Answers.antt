-- `spurcalls::cycles::first_bus` meets its contract. Assumes nothing.
use Rattle.std.specs.Prelude.{Ok}
use Rattle.basics.proofs.Refusals.{one_result}
use Rattle.cycle.specs.State.{fresh}
use Rattle.cycle.specs.Bounds as bounds
use Rattle.spurcalls.proofs.cycles.first_bus.Goals as goal

pub unwrap-requires : goal.unwrap-requires
unfolding bounds.fresh_of
unwrap-requires c = rw (one_result (fresh 0) c.fresh.result (Ok (fresh 16)) c.fresh.ensures)
