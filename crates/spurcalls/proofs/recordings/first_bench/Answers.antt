-- `spurcalls::recordings::first_bench` meets its contract. Assumes nothing.
use Rattle.std.specs.Prelude.{Ok}
use Rattle.basics.proofs.Refusals.{one_result}
use Rattle.rules.specs.State.{fresh_judge}
use Rattle.rules.specs.Verdict.{no_judge}
use Rattle.rules.specs.Verdict as verdict
use Rattle.spurcalls.proofs.recordings.first_bench.Goals as goal

pub unwrap-requires : goal.unwrap-requires
unfolding verdict.fresh_of
unwrap-requires c = rw (one_result no_judge c.fresh.result (Ok (fresh_judge 16)) c.fresh.ensures)
