-- What bounds slot m's wait in demand 3, where the slowest run stands, and what one cycle of it makes of both. Assumes nothing.
use Rattle.std.specs.Prelude.{Option, Some}
use Prim.Native.Nat.{ℕ, zero, suc, ◌+◌, ◌-◌, ◌*◌, ◌<◌, ◌≤◌}
use mathlib.Core.Path.{◌≡◌, refl, sym, ap, ◌∙◌}
use mathlib.Core.Bool.{true, false, cond}
use native.Mathlib.Omega.{arith}
use borrow.Author.Tests.{eq-eqb, ne_eqb}
use Rattle.basics.specs.Numbers.{transfer_most}
use Rattle.basics.specs.Lines.{one}
use Rattle.basics.proofs.Bools.{not-true}
use Rattle.slots.specs.Set.{mem}
use Rattle.cycle.specs.declared.Bus.{Bus}
use Rattle.cycle.specs.declared.Transfer.{Transfer}
use Rattle.cycle.specs.declared.Transfer.TheVariants.{Idle, Open}
use Rattle.cycle.specs.Cycle.{starts_of}
use Rattle.cycle.specs.Waits.{pause_most}
use Rattle.cycle.specs.Runs.{is_slot}
use Rattle.cycle.proofs.WaveSets.{mem-zero}
use Rattle.cycle.proofs.Bounds.{Sound, left}
use Rattle.cycle.proofs.Nearer.{wait}
use Rattle.cycle.proofs.Shares.{parkable, turns_of, share_of, share, turns-empty}
use Rattle.cycle.proofs.OwnStart.{vacant, pause_of, pause, turns}

-- the cycles until m's own START, at most: what falls in the proof that it comes (cycle/proofs/OwnStart)
unfoldable pub due : ℕ → Bus → ℕ
due m b = pause m b + pause_most * turns m b

-- the START between waves that m may still see, where it isn't in the wave
abbrev pub late : ℕ → ℕ → ℕ
late m w = cond (mem m w) 0 (parkable m)

-- m is in the wave; or the wave is of others, slot 0 among them; or there is no wave, and slot 0 is parked. Where m itself is slot 0 nobody is
-- parked: what the last START has opened goes on.
pub data Stage (m : ℕ) (b : Bus) : Type 0 where
  joined : mem m b.wave ≡ true → Stage m b
  outside : (b.wave ≡ 0 → ⊥) → mem m b.wave ≡ false → (0 < m → mem 0 b.wave ≡ true) → Stage m b
  between : b.wave ≡ 0 → (m ≡ 0 → b.transfer ≡ Open 16 0) → (0 < m → (b.transfer ≡ Idle) × (b.owner ≡ Some 0)) → Stage m b

-- from b to b' in a cycle in which o starts, who isn't m: m is due a cycle sooner, and sees a START less if there was one
pub record Falls (m : ℕ) (b : Bus) (o : Option ℕ) (b' : Bus) : Type 0 where
  pub onward : Stage m b'
  pub nearer : suc (due m b') ≡ due m b
  pub fewer : share m b ≡ one (starts_of o) + share m b'
  pub another : is_slot m o ≡ false

-- a wave that goes on as it is
pub same-wave : {m : ℕ} {b b' : Bus} → (b.wave ≡ 0 → ⊥) → b'.wave ≡ b.wave → Stage m b → Stage m b'
same-wave {m = m} n e (joined h) = joined (ap (mem m) e ∙ h)
same-wave {m = m} n e (outside n' h f) = outside (λ z. n (sym e ∙ z)) (ap (mem m) e ∙ h) (λ p. ap (mem 0) e ∙ f p)
same-wave n e (between z f g) = absurd (n z)

-- ---- both numbers, in a wave and between waves
module _ (m : ℕ) (b : Bus) where
  pub due_wave : (b.wave ≡ 0 → ⊥) → due m b ≡ wait b + late m b.wave + pause_most * turns_of m b.limit b.wave b.turn
  unfolding due pause pause_of turns
  due_wave n = rw (ne_eqb b.wave 0 n)

  pub share_is : share m b ≡ turns_of m b.limit b.wave b.turn + late m b.wave
  unfolding share share_of
  share_is = refl

  pub due_empty : Sound b → b.wave ≡ 0 → due m b ≡ vacant m b.transfer + pause_most * (b.limit * (15 - m))
  unfolding due pause pause_of turns
  due_empty s z = rw (eq-eqb b.wave 0 z) (omega (arith, turns-empty m b.limit b.wave b.turn z (s.rest z)))

  pub share-empty : Sound b → b.wave ≡ 0 → share m b ≡ b.limit * (15 - m) + parkable m
  share-empty s z =
      let out : late m b.wave ≡ parkable m = rw (not-true (mem m b.wave) (mem-zero m b.wave z)) in
      omega (arith, share_is, out, turns-empty m b.limit b.wave b.turn z (s.rest z))

-- behind a START that opens a transfer of sixteen words the next one is as far as can be
pub wait_opened : (b : Bus) → b.settling ≤ 2 → b.transfer ≡ Open 16 0 → wait b ≡ transfer_most
unfolding wait left
wait_opened b h t = rw t (omega arith)

-- between waves too, and a cycle farther where a parked one comes first
pub vacant_between : (m : ℕ) (t : Transfer) → (m ≡ 0 → t ≡ Open 16 0) → (0 < m → t ≡ Idle) → vacant m t ≡ transfer_most + parkable m
unfolding vacant left
vacant_between zero t f g = rw (f refl) (omega arith)
vacant_between (suc k) t f g = rw (g (omega arith)) (omega arith)

-- ---- at the end
-- where m is due, it sees no more STARTs of others
pub spent : (m : ℕ) (b : Bus) → Sound b → Stage m b → due m b ≡ 0 → share m b ≡ 0
spent m b s (joined e) h = omega (arith, share_is m b, due_wave m b (λ z. mem-zero m b.wave z e))
spent m b s (outside n e f) h = omega (arith, share_is m b, due_wave m b n)
spent m b s (between z f g) h = absurd (omega (arith, due_empty m b s z, vacant_between m b.transfer f (λ p. (g p).0)))

-- while slot 15 is due later than within a pause, the wave of others goes on
pub going_on_lem : (b : Bus) → Sound b → Stage 15 b → pause_most < due 15 b → b.wave ≡ 0 → ⊥
going_on_lem b s (joined e) h z = mem-zero 15 b.wave z e
going_on_lem b s (outside n e f) h z = n z
going_on_lem b s (between z' f g) h z = omega (arith, due_empty 15 b s z, vacant_between 15 b.transfer f (λ p. (g p).0))
