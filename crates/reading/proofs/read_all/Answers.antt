-- `reading::read_all` meets its contract: after each turn all that the reads brought has been fed. Assumes nothing.
use Prim.Native.Nat.{◌-◌}
use native.Mathlib.Omega.{arith}
use Rattle.reading.proofs.Reading.{turns-start, turns_on, turns-end, turns_stop}
use Rattle.reading.proofs.read_all.Goals as goal

pub loop-turn-init : goal.loop-turn-init
loop-turn-init g c = turns-start g.M.Machine.feeder c.args.begun _ (omega arith)

pub loop-turn-preserved : goal.loop-turn-preserved
loop-turn-preserved g c = let got = c.read_more-input.ensures in
    turns_on g.M.Machine.feeder _ (17179869200 - c.loop-turn.turn) _ c.loop-turn.input _ _ c.loop-turn.invariant c.if-not-input.false got.1 (omega arith)

pub returns-then-not-input : goal.returns-then-not-input
returns-then-not-input g c = λ fresh e laws. turns_stop g.M.Machine.feeder _ fresh e _ c.loop-turn.input c.loop-turn.invariant c.if-not-input.true

pub returns : goal.returns
returns g c = λ fresh e laws. turns-end g.M.Machine.feeder _ fresh e laws _ c.loop-turn.input c.loop-turn.invariant (omega arith)
