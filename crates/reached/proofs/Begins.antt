-- How the runs begin: slot m, parked after an attention cycle, starts in the very cycle in which the other fifteen form a wave. Assumes nothing.
use Rattle.std.specs.Prelude.{Option, Some}
use Prim.Native.Nat.{ℕ, zero, suc, ◌+◌, ◌-◌, ◌*◌, ◌<◌, ◌≤◌}
use mathlib.Core.Path.{◌≡◌, refl, sym, ap, subst, ◌∙◌}
use mathlib.Core.Bool.{false}
use mathlib.Core.List.{List}
use native.Mathlib.Omega.{arith}
use native.Mathlib.Decide.{ℕ_discrete}
use lib.ListN.{replicate}
use lib.Pow
use Rattle.basics.specs.Numbers.{transfer_most}
use Rattle.basics.specs.Lines.{bit, active, active_below}
use Rattle.slots.specs.Set.{mem, including, without, top_below, card}
use Rattle.slots.proofs.MemberLaws.{without_is, mem_gone, mem-kept}
use Rattle.slots.proofs.SizeLaws.{card_less}
use Rattle.cycle.specs.declared.Bus.{Bus}
use Rattle.cycle.specs.declared.Arbitration.{Arbitration}
use Rattle.cycle.specs.declared.Transfer.TheVariants.{Idle}
use Rattle.cycle.specs.State.{fresh}
use Rattle.cycle.specs.Arbitration.{attends, formed, parked, forming, leaves, starting, serving, arbitration_of}
use Rattle.cycle.specs.Transfers.{opened, progress_of}
use Rattle.cycle.specs.Cycle.{state_by, reply_by, moved_by, cycle_by, cycle_of}
use Rattle.cycle.specs.Nodes.{joined_of, add_of, gathered, sets_of}
use Rattle.cycle.specs.Waits.{others_most, cycles_most}
use Rattle.cycle.specs.Runs.{Input, cycle_in, next, after, start_in}
use Rattle.cycle.proofs.RunLaws.{arb, next_by, shown_by}
use Rattle.cycle.proofs.Bounds.{Sound}
use Rattle.cycle.proofs.Nearer.{wait}
use Rattle.cycle.proofs.Sound.{sound-after, sound-fresh, sound-next}
use Rattle.cycle.proofs.Shares.{turns_of, share}
use Rattle.reached.proofs.Inputs.{everyone, all_in, alone_in}
use Rattle.reached.proofs.Slowest.{slow_in, opening, not-alone, parks_now}
use Rattle.reached.proofs.Due.{due, Stage, outside, due_wave, share_is, wait_opened}

-- a fact of every number below k, and of one of them
abbrev Below : ℕ → (ℕ → Type 0) → Type 0
Below zero P = Unit {0}
Below (suc k) P = P k × Below k P

below_at : (k : ℕ) (P : ℕ → Type 0) → Below k P → (m : ℕ) → m < k → P m
below_at zero P h m l = absurd (omega arith)
below_at (suc k) P h m l = elim (ℕ_discrete m k) [ yes q ↦ subst P (sym q) h.0 | no d ↦ below_at k P h.1 m (omega (arith, d)) ]

-- slot m asks alone, and in the third of these cycles makes an attention cycle
abbrev pub attention : (m : ℕ) → m < 16 → List Input
attention m l = replicate 3 (alone_in m l)

abbrev pub parked_at : ℕ → ℕ → Bus
parked_at limit m = record { wave = 0; settling = 0; turn = 0; owner = Some m; limit = limit; transfer = Idle }

-- behind it m is the owner, no wave is there and nothing is open: it will be parked if it asks again
pub attended : (limit m : ℕ) (l : m < 16) → after (fresh limit) (attention m l) ≡ parked_at limit m
unfolding alone_in after next cycle_in cycle_of cycle_by moved_by state_by reply_by arbitration_of forming formed serving starting leaves attends opened progress_of without including top_below active bit gathered add_of joined_of sets_of
attended limit m l = below_at 16 (λ m. (l : m < 16) → after (fresh limit) (attention m l) ≡ parked_at limit m) each m l l
  where
    each : Below 16 (λ m. (l : m < 16) → after (fresh limit) (attention m l) ≡ parked_at limit m)
    each =
        (λ l. refl, (λ l. refl, (λ l. refl, (λ l. refl, (λ l. refl, (λ l. refl, (λ l. refl, (λ l. refl, (λ l. refl, (λ l. refl, (λ l. refl, (λ l. refl, (λ l. refl, (λ l. refl, (λ l. refl, (λ l. refl, tt))))))))))))))))

-- o is who starts in the next cycle, and b the bus after it: m starts, all the others are in the wave, and its first START is as far as can be
pub record Begun (limit m : ℕ) (o : Option ℕ) (b : Bus) : Type 0 where
  pub sound : Sound b
  pub starts : o ≡ Some m
  pub wave : b.wave ≡ without m everyone
  pub turn : b.turn ≡ 0
  pub limited : b.limit ≡ limit
  pub far : wait b ≡ transfer_most

begins_by : (limit m : ℕ) → m < 16 → (c : Bus) → Sound c → c ≡ parked_at limit m → Begun limit m (start_in c (slow_in c)) (next c (slow_in c))
unfolding start_in next cycle_in cycle_of cycle_by moved_by state_by reply_by next_by shown_by arb parked
begins_by limit m l c s e =
    let z : c.wave ≡ 0 = ap (λ (b : Bus). b.wave) e in
    let t : c.transfer ≡ Idle = ap (λ (b : Bus). b.transfer) e in
    let p = parks_now c z m l t (ap (λ (b : Bus). b.owner) e) in
    let b = next_by c (slow_in c) (parked m everyone) in
    let s' : Sound b = subst (λ (a : Arbitration). Sound (next_by c (slow_in c) a)) p (sound-next c (slow_in c) s) in
    subst (λ (a : Arbitration). Begun limit m (shown_by c (slow_in c) a) (next_by c (slow_in c) a)) (sym p)
    (record {
      sound = s';
      starts = refl;
      wave = refl;
      turn = refl;
      limited = ap (λ (b : Bus). b.limit) e;
      far = wait_opened b s'.settled (opening c (parked m everyone) m l t refl (not-alone c (λ (q : c.wave ≡ 1). omega arith)));
    })

pub begins : (limit m : ℕ) → 1 ≤ limit → limit ≤ 16 → (l : m < 16)
    → let c = after (fresh limit) (attention m l) in Begun limit m (start_in c (slow_in c)) (next c (slow_in c))
begins limit m h k l =
    begins_by limit m l _ (sound-after (attention m l) (fresh limit) (sound-fresh limit h k)) (attended limit m l)

-- ---- what is to come from there
module _ {limit m : ℕ} (l : m < 16) {o : Option ℕ} {b : Bus} (r : Begun limit m o b) where
  pub members : b.wave ≡ 0 → ⊥
  members z = omega (arith, r.wave, without_is m everyone (all_in m l), lib.Pow.pow_mono {i = m} {j = 15} (omega arith))

  m_out : mem m b.wave ≡ false
  m_out = ap (mem m) r.wave ∙ mem_gone m everyone (all_in m l)

  pub fifteen : card b.wave ≡ 15
  unfolding active_below active bit
  fifteen = ap card r.wave ∙ omega (arith, card_less 16 everyone m l (all_in m l))

  pub stage : Stage m b
  stage = outside members m_out (λ p. ap (mem 0) r.wave ∙ mem-kept m 0 everyone (all_in m l) (λ (q : m ≡ 0). omega arith) ∙ all_in 0 (omega arith))

  -- these fifteen, and the 15 - m above m
  turns_begun : turns_of m b.limit b.wave b.turn ≡ (30 - m) * limit
  unfolding turns_of
  turns_begun =
      let e : card b.wave + (15 - m) ≡ 30 - m = omega (arith, fifteen) in
      rw (m_out, e, r.limited, r.turn) (omega arith)

  pub due_begun : due m b + 1 ≡ cycles_most limit m
  due_begun = rw (due_wave m b members, m_out) (omega (arith, r.far, turns_begun))

  pub share_begun : share m b ≡ others_most limit m
  share_begun = rw (share_is m b, m_out, turns_begun)
