-- A cycle of a wave in which nobody starts brings the wave's next START nearer: the settling count falls, and an open transfer comes nearer
-- its end. Assumes nothing.
use Prim.Native.Nat.{ℕ, suc, ◌-◌, ◌<◌, ◌≤◌, max}
use mathlib.Core.Path.{◌≡◌, subst}
use native.Mathlib.Omega.{arith}
use Rattle.basics.specs.Numbers.{transfer_most}
use Rattle.cycle.specs.declared.Bus.{Bus}
use Rattle.cycle.specs.declared.Transfer.TheVariants.{Open}
use Rattle.cycle.specs.Arbitration.{waits}
use Rattle.cycle.specs.Cycle.{cycle_by, moved_by, state_by}
use Rattle.cycle.specs.Runs.{Input, wants_in, words_in}
use Rattle.cycle.proofs.RunLaws.{next_by}
use Rattle.cycle.proofs.Bounds.{Sound, TransferIn, left, left_most, progress_left}

-- the cycles that a wave's next START may still take
unfoldable pub wait : Bus → ℕ
wait b = max b.settling (left b.transfer)

pub wait_most : (b : Bus) → Sound b → wait b ≤ transfer_most
unfolding wait
wait_most b s = omega (arith, s.settled, left_most b.transfer s.aging)

-- a cycle of a wave in which nobody starts brings the next START nearer
pub nearer_settles : (b : Bus) (i : Input) → Sound b → 0 < b.settling → suc (wait (next_by b i (waits b (b.settling - 1)))) ≤ wait b
unfolding wait next_by cycle_by moved_by state_by
nearer_settles b i s l = let h = progress_left b.transfer i.event (wants_in i) (words_in i) s.aging in omega (arith, h)

left_open : (b : Bus) (w a : ℕ) → Sound b → b.transfer ≡ Open w a → 0 < left b.transfer
unfolding left
left_open b w a s t = rw t (let y = subst TransferIn t s.aging in omega (arith, y.0, y.2))

pub nearer_waits : (b : Bus) (i : Input) (w a : ℕ) → Sound b → b.settling ≡ 0 → b.transfer ≡ Open w a → suc (wait (next_by b i (waits b 0))) ≤ wait b
unfolding wait next_by cycle_by moved_by state_by
nearer_waits b i w a s l t =
    let h = progress_left b.transfer i.event (wants_in i) (words_in i) s.aging in omega (arith, h, left_open b w a s t)
