-- The bounds for refusal 5, as tests and as facts. Assumes nothing.
use Prim.Native.Nat.{◌≤◌, ◌<◌}
use mathlib.Core.Bool.{true}
use mathlib.Core.Path.{◌≡◌}
use lib.Dec.{ltb, leb}
use borrow.Author.Tests.{ltb-true, leb-true, lt-ltb, le-leb}
use Rattle.basics.proofs.Bools.{and_both, both_and}
use Rattle.rules.specs.Bounds.{judge_bounds, tally_bounds, SoundJudge, SoundTally}
use Rattle.rules.specs.Verdict.{most_records}
use Rattle.rules.proofs.Laws.{judge-sound, sound-judge, tally-sound, sound-tally}
use Rattle.feeding.specs.declared.Stream.{Stream}
use Rattle.feeding.specs.State.{stream_bounds}

-- the bounds, as facts
pub bounds_are : (s : Stream) → stream_bounds s ≡ true → SoundJudge s.judge × (SoundTally s.tally × ((s.tally.records ≤ most_records) × (s.held < 16)))
unfolding stream_bounds
bounds_are s e =
    let a = and_both _ (ltb s.held 16) e in
    let b = and_both _ (leb s.tally.records most_records) a.0 in
    let c = and_both (judge_bounds s.judge) (tally_bounds s.tally) b.0 in
    (judge-sound s.judge c.0, (tally-sound s.tally c.1, (leb-true s.tally.records most_records b.1, ltb-true s.held 16 a.1)))

-- and back
pub are_bounds : (s : Stream) → SoundJudge s.judge → SoundTally s.tally → s.tally.records ≤ most_records → s.held < 16 → stream_bounds s ≡ true
unfolding stream_bounds
are_bounds s hj ht room few =
    both_and _ _ (both_and _ _ (both_and _ _ (sound-judge s.judge hj) (sound-tally s.tally ht)) (le-leb s.tally.records most_records room)) (lt-ltb s.held 16 few)
