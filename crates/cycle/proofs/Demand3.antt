-- DEMAND 3 holds, for every hold limit 1 to 16. Assumes nothing.
use Prim.Native.Nat.{ℕ, ◌≤◌}
use mathlib.Core.Path.{◌≡◌, refl, ◌∙◌}
use mathlib.Core.Bool.{true, false}
use mathlib.Core.List.{List, [], ◌∷◌}
use native.Mathlib.Omega.{arith}
use lib.ListN.{length}
use borrow.Author.Tests.{eq-eqb}
use Rattle.cycle.specs.declared.Bus.{Bus}
use Rattle.basics.specs.Answers.{accepted}
use Rattle.cycle.specs.State.{fresh}
use Rattle.cycle.specs.Bounds.{in_bounds, fresh_of}
use Rattle.cycle.specs.Cycle.{state_by, moved_by, cycle_by, cycle_of, step_of}
use Rattle.cycle.specs.Nodes.{step_table_of}
use Rattle.cycle.specs.Runs.{Input, cycle_in, next, after}
use Rattle.cycle.specs.Demand3.{Demand3}
use Rattle.cycle.proofs.Bounds.{Sound}
use Rattle.cycle.proofs.Nearer.{wait_most}
use Rattle.cycle.proofs.Sound.{sound-next, sound-after, sound-fresh, limit-lawful, bounds_lawful}
use Rattle.cycle.proofs.NextStart.{within}
use Rattle.cycle.proofs.Turns.{turns-formed}
use Rattle.cycle.proofs.WaveEnds.{remaining_most, over_of}
use Rattle.cycle.proofs.Alone.{alone}
use Rattle.cycle.proofs.Shares.{ahead_of, share-within, thirty_most}
use Rattle.cycle.proofs.OwnStart.{comes_of, pause_most_lem, turns-within}

-- a call on a state within the bounds, with a run's input and no reset, is a cycle
accepted-cycle : (b : Bus) (i : Input) → in_bounds b ≡ true → step_table_of b false i.event i.nodes ≡ accepted (cycle_in b i)
unfolding step_table_of step_of cycle_in
accepted-cycle b i e = rw (e, eq-eqb (length i.nodes) 16 i.sixteen, i.lawful)

-- the hold limit stays
limit-next : (b : Bus) (i : Input) → (next b i).limit ≡ b.limit
unfolding next cycle_in cycle_of cycle_by moved_by state_by
limit-next b i = refl

limit-after : (is : List Input) (b : Bus) → (after b is).limit ≡ b.limit
unfolding after
limit-after [] b = refl
limit-after (i ∷ is) b = limit-after is (next b i) ∙ limit-next b i

limit-fresh : (limit : ℕ) (past : List Input) → (after (fresh limit) past).limit ≡ limit
limit-fresh limit past = limit-after past (fresh limit)

module _ (limit : ℕ) (h : 1 ≤ limit) (k : limit ≤ 16) where
  abbrev run : List Input → Bus
  run past = after (fresh limit) past

  sound : (past : List Input) → Sound (run past)
  sound past = sound-after past (fresh limit) (sound-fresh limit h k)

  same : (past : List Input) → (run past).limit ≡ limit
  same past = limit-fresh limit past

  pub demand3 : Demand3 limit
  unfolding fresh_of
  demand3 =
      record {
        begins = rw (limit-lawful limit h k);
        cycles = λ past i. accepted-cycle (run past) i (bounds_lawful (run past) (sound past));
        bounded = λ past. bounds_lawful (run past) (sound past);
        turns = λ past i future z. turns-formed limit (run past) i future (sound past) (limit-next (run past) i ∙ same past) z;
        ends =
            λ past future long.
            over_of future (run past) (sound past) (omega (arith, wait_most (run past) (sound past), remaining_most limit (run past) (same past)));
        alone = λ past i s e. alone (run past) i s e;
        starts = λ past future n long. within future (run past) (sound past) n (omega (arith, wait_most (run past) (sound past)));
        starts_again =
            λ past i future s e n long.
            let c = sound-next (run past) i (sound past) in
            within future (next (run past) i) c n (omega (arith, wait_most (next (run past) i) c));
        starts_first =
            λ past i future z n long.
            let c = sound-next (run past) i (sound past) in
            within future (next (run past) i) c n (omega (arith, wait_most (next (run past) i) c));
        sharper =
            λ past future m small a.
            omega (arith, ahead_of m small future (run past) (sound past) a, share-within m limit (run past) small (sound past) (same past));
        share =
            λ past future m small a.
            omega (arith, ahead_of m small future (run past) (sound past) a, share-within m limit (run past) small (sound past) (same past), thirty_most limit m h small);
        own =
            λ past future m small a long.
            comes_of m small future (run past) (sound past) a
            (omega (arith, pause_most_lem m (run past) (sound past), turns-within m limit (run past) small (sound past) (same past)));
      }
