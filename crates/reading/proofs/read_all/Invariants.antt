-- `reading::read_all` meets its contract: after each turn all that the reads brought has been fed. Assumes nothing.
use Prim.Native.Nat.{◌-◌}
use Rattle.reading.proofs.Reading.{Turning}
use Rattle.reading.proofs.read_all.Given as goal

abbrev pub invariant-loop-turn : goal.invariant-loop-turn
invariant-loop-turn g l = Turning g.M.Machine.feeder l.fn.begun (17179869200 - l.turn) l.input
