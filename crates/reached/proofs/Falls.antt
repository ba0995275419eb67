-- In each cycle of the slowest run slot m's wait falls by one cycle, and by no more, until m starts. Assumes nothing.
use Rattle.std.specs.Prelude.{Some}
use Prim.Native.Nat.{ℕ, suc, ◌+◌, ◌-◌, ◌<◌, ◌≤◌}
use mathlib.Core.Path.{◌≡◌, refl, sym, ap, subst, ◌∙◌}
use mathlib.Core.Bool.{Bool, true, false, cond, true≢false}
use native.Mathlib.Omega.{arith}
use native.Mathlib.Decide.{ℕ_discrete, dec_lt}
use borrow.Author.Tests.{ne_eqb}
use Rattle.basics.specs.Numbers.{transfer_most}
use Rattle.basics.specs.Lines.{bit, active}
use Rattle.slots.specs.Set.{mem, without, top}
use Rattle.slots.proofs.MemberLaws.{mem-kept}
use Rattle.cycle.specs.declared.Bus.{Bus}
use Rattle.cycle.specs.declared.Arbitration.{Arbitration}
use Rattle.cycle.specs.declared.Transfer.TheVariants.{Idle, Open}
use Rattle.cycle.specs.Arbitration.{formed, parked, waits, stays, leaves}
use Rattle.cycle.specs.Cycle.{state_by, reply_by, moved_by, cycle_by, cycle_of}
use Rattle.cycle.specs.Runs.{cycle_in, next, start_in}
use Rattle.cycle.proofs.RunLaws.{arb, next_by, shown_by}
use Rattle.cycle.proofs.View.{retires}
use Rattle.cycle.proofs.WaveSets.{highest, mem-zero}
use Rattle.cycle.proofs.Bounds.{Sound, left}
use Rattle.cycle.proofs.Nearer.{wait}
use Rattle.cycle.proofs.Sound.{sound_by}
use Rattle.cycle.proofs.Shares.{parkable, turns_of, turns-empty, turns-stays, turns-leaves-last, kept}
use Rattle.reached.proofs.Inputs.{everyone, all_in}
use Rattle.reached.proofs.Slowest.{slow_in, closes, closing, not-alone, not_yet, opening, attending, elapses, wait_falls, waits_on, idle_at, again, lastly, parks_now, forms_now}
use Rattle.reached.proofs.Waves.{lowest, none_left, above-highest, turns-whole}
use Rattle.reached.proofs.Due.{due, late, Stage, joined, outside, between, Falls, same-wave, due_wave, share_is, due_empty, share-empty, wait_opened, vacant_between}

-- the cycle in which arbitration comes to a
abbrev FallsBy : ℕ → Bus → Arbitration → Type 0
FallsBy m b a = Falls m b (shown_by b (slow_in b) a) (next_by b (slow_in b) a)

-- ---- a wave with members
module _ (m : ℕ) (b : Bus) (s : Sound b) (n : b.wave ≡ 0 → ⊥) where
  abbrev lead : ℕ
  lead = top b.wave

  -- nobody starts
  waiting : 0 < wait b → Stage m b → FallsBy m b (waits b (b.settling - 1))
  unfolding next_by shown_by cycle_by moved_by state_by reply_by
  waiting h g =
      let b' = next_by b (slow_in b) (waits b (b.settling - 1)) in
      record {
        onward = same-wave n refl g;
        nearer = omega (arith, due_wave m b n, due_wave m b' n, wait_falls b s n h);
        fewer = omega (arith, share_is m b, share_is m b');
        another = refl;
      }

  -- the highest member isn't m before m is due
  top-other : m < 16 → wait b ≡ 0 → Stage m b → 0 < due m b → lead ≡ m → ⊥
  unfolding turns_of
  top-other l h (joined e) g q =
      let z = rw (due_wave m b n, h, e, above-highest m b.wave l s.slots q) at g in omega arith
  top-other l h (outside n' e f) g q =
      true≢false (sym (highest b.wave s.slots n).is_in ∙ ap (λ (k : ℕ). mem k b.wave) q ∙ e)
  top-other l h (between z f g') g q = n z

  module _ (h : wait b ≡ 0) (g : Stage m b) (d : lead ≡ m → ⊥) where
    opens : (a : Arbitration) → a.starter ≡ Some lead → closes b ≡ false → (next_by b (slow_in b) a).transfer ≡ Open 16 0
    opens a e c = opening b a lead (highest b.wave s.slots n).small (idle_at b s h) e c

    -- it starts, and the wave goes on
    starting_on : (b' : Bus) → (b'.wave ≡ 0 → ⊥) → b'.settling ≤ 2 → b'.transfer ≡ Open 16 0
        → mem m b'.wave ≡ mem m b.wave → suc (turns_of m b'.limit b'.wave b'.turn) ≡ turns_of m b.limit b.wave b.turn
        → Stage m b' → Falls m b (Some lead) b'
    starting_on b' n' l t e f g' =
        let same : late m b'.wave ≡ late m b.wave = ap (λ (c : Bool). cond c 0 (parkable m)) e in
        record {
          onward = g';
          nearer = omega (arith, due_wave m b n, due_wave m b' n', wait_opened b' l t, same);
          fewer = omega (arith, share_is m b, share_is m b', same);
          another = ne_eqb lead m d;
        }

    -- as it is
    repeating : b.turn + 1 < b.limit → FallsBy m b (stays b lead)
    unfolding next_by shown_by cycle_by moved_by state_by reply_by
    repeating u =
        starting_on (next_by b (slow_in b) (stays b lead)) n (omega arith) (opens (stays b lead) refl (not_yet b u))
        refl (turns-stays m b.limit b.wave s.slots n d b.turn u) (same-wave n refl g)

    module _ (u : b.limit ≤ b.turn + 1) where
      abbrev rest : ℕ
      rest = without lead b.wave

      abbrev then : Bus
      then = next_by b (slow_in b) (leaves b lead)

      sound_then : Sound then
      unfolding wait
      sound_then = sound_by b (slow_in b) _ s (retires n (omega arith) (idle_at b s h) refl)

      one_fewer : suc (turns_of m b.limit rest 0) ≡ turns_of m b.limit b.wave b.turn
      one_fewer = turns-leaves-last m b.limit b.wave s.slots n d b.turn (omega (arith, s.turns))

      leaves_open : (b.wave ≡ 1 → ⊥) → then.transfer ≡ Open 16 0
      unfolding leaves
      leaves_open c = opens (leaves b lead) refl (not-alone b c)

      leaves-idle : b.wave ≡ 1 → then.transfer ≡ Idle
      unfolding leaves
      leaves-idle e =
          attending b (leaves b lead) lead (highest b.wave s.slots n).small (idle_at b s h) refl (closing b e u)

      -- without the starter
      leaving : (rest ≡ 0 → ⊥) → FallsBy m b (leaves b lead)
      unfolding next_by shown_by cycle_by moved_by state_by reply_by leaves
      leaving r =
          starting_on then r sound_then.settled (leaves_open (λ q. r (none_left b.wave q))) (kept m b.wave s.slots n d) one_fewer (go g)
        where
          go : Stage m b → Stage m then
          go (joined e) = joined (kept m b.wave s.slots n d ∙ e)
          go (outside n' e f) =
              outside r (kept m b.wave s.slots n d ∙ e)
              (λ p. kept 0 b.wave s.slots n (λ q. r (none_left b.wave (lowest b.wave s.slots n q))) ∙ f p)
          go (between z f g') = absurd (n z)

      -- and the wave is over: slot 0 was the last, unless it is m
      zeroth : rest ≡ 0 → mem 0 b.wave ≡ true → lead ≡ 0
      zeroth z e =
          elim (ℕ_discrete lead 0) [ yes q ↦ q | no c ↦ absurd (mem-zero 0 rest z (kept 0 b.wave s.slots n c ∙ e)) ]

      emptying : rest ≡ 0 → FallsBy m b (leaves b lead)
      unfolding next_by shown_by cycle_by moved_by state_by reply_by leaves active bit
      emptying z = go g
        where
          go : Stage m b → FallsBy m b (leaves b lead)
          go (joined e) = absurd (mem-zero m rest z (kept m b.wave s.slots n d ∙ e))
          go (between z' f g') = absurd (n z')
          go (outside n' e f) =
              let opened : m ≡ 0 → then.transfer ≡ Open 16 0 = λ q. leaves_open (λ (w : b.wave ≡ 1). true≢false (sym (rw w refl) ∙ rw q at e)) in
              let idle : 0 < m → then.transfer ≡ Idle = λ p. leaves-idle (lowest b.wave s.slots n (zeroth z (f p))) in
              let out : late m b.wave ≡ parkable m = rw e in
              let left = turns-empty m b.limit rest 0 z refl in
              record {
                onward = between z opened (λ p. (idle p, ap Some (zeroth z (f p))));
                nearer = omega (arith, due_wave m b n, due_empty m then sound_then z, vacant_between m then.transfer opened idle, out, h, one_fewer, left);
                fewer = omega (arith, share_is m b, share-empty m then sound_then z, out, one_fewer, left);
                another = ne_eqb lead m d;
              }

-- ---- between waves
module _ (b : Bus) (s : Sound b) (z : b.wave ≡ 0) where
  -- slot 0 joins a wave of all
  joining : b.transfer ≡ Open 16 0 → FallsBy 0 b (formed b everyone)
  unfolding next_by shown_by cycle_by moved_by state_by reply_by formed wait left
  joining t =
      let b' = next_by b (slow_in b) (formed b everyone) in
      let whole = turns-whole 0 b.limit everyone (omega arith) (λ i g l. all_in i l) in
      let is_in = all_in 0 (omega arith) in
      let out : late 0 everyone ≡ 0 = rw is_in in
      let gone : left b'.transfer ≡ transfer_most - 1 = elapses b (formed b everyone) s refl ∙ rw t in
      record {
        onward = joined is_in;
        nearer = omega (arith, due_wave 0 b' (λ (q : everyone ≡ 0). omega arith), due_empty 0 b s z, vacant_between 0 b.transfer (λ q. t) (λ p. absurd (omega arith)), gone, whole, out);
        fewer = omega (arith, share_is 0 b', share-empty 0 b s z, whole, out);
        another = refl;
      }

  -- slot 0, parked, starts, and m joins a wave of all the others
  parking : (m : ℕ) → m < 16 → 0 < m → b.transfer ≡ Idle → FallsBy m b (parked 0 everyone)
  unfolding next_by shown_by cycle_by moved_by state_by reply_by parked without active bit
  parking m l p t =
      let a = parked 0 everyone in
      let b' = next_by b (slow_in b) a in
      let w = without 0 everyone in
      let others : (i : ℕ) → m ≤ i → i < 16 → mem i w ≡ true =
      λ i g k. mem-kept 0 i everyone (all_in 0 (omega arith)) (λ (q : 0 ≡ i). omega arith) ∙ all_in i k in
      let is_in = others m (omega arith) l in
      let whole = turns-whole m b.limit w l others in
      let out : late m w ≡ 0 = rw is_in in
      let far = wait_opened b' (omega arith) (opening b a 0 (omega arith) t refl (not-alone b (λ (q : b.wave ≡ 1). omega arith))) in
      record {
        onward = joined is_in;
        nearer = omega (arith, due_wave m b' (λ q. mem-zero m w q is_in), due_empty m b s z, vacant_between m b.transfer (λ q. absurd (omega arith)) (λ q. t), far, whole, out);
        fewer = omega (arith, share_is m b', share-empty m b s z, whole, out);
        another = ne_eqb 0 m (λ (q : 0 ≡ m). omega arith);
      }

-- ---- THE SLOWEST RUN LOSES NO CYCLE: each is one of the above
module _ (m : ℕ) (l : m < 16) (b : Bus) (s : Sound b) (g : Stage m b) where
  abbrev Step : Type 0
  Step = Falls m b (start_in b (slow_in b)) (next b (slow_in b))

  by : {a : Arbitration} → arb b (slow_in b) ≡ a → FallsBy m b a → Step
  unfolding start_in next cycle_in cycle_of next_by shown_by arb
  by e f = subst (FallsBy m b) (sym e) f

  empty : b.wave ≡ 0 → Step
  empty z = go g
    where
      go : Stage m b → Step
      go (joined e) = absurd (mem-zero m b.wave z e)
      go (outside n e f) = absurd (n z)
      go (between z' f k) =
          elim (ℕ_discrete m 0) [
            | yes q ↦ by (forms_now b z 16 0 (f q)) (subst (λ (k : ℕ). FallsBy k b (formed b everyone)) (sym q) (joining b s z (f q)))
            | no d ↦
                let p : 0 < m = omega arith in
                by (parks_now b z 0 (omega arith) (k p).0 (k p).1) (parking b s z m l p (k p).0)
          ]

  starts : (b.wave ≡ 0 → ⊥) → wait b ≡ 0 → 0 < due m b → Step
  starts n w h =
      let d = top-other m b s n l w g h in
      elim (dec_lt (b.turn + 1) b.limit) [
        | yes u ↦ by (again b s n w u) (repeating m b s n w g d u)
        | no v ↦
            let u : b.limit ≤ b.turn + 1 = omega arith in
            by (lastly b s n w u)
            (elim (ℕ_discrete (without (top b.wave) b.wave) 0) [
              | yes z ↦ emptying m b s n w g d u z
              | no r ↦ leaving m b s n w g d u r
            ])
      ]

  pub falls : 0 < due m b → Falls m b (start_in b (slow_in b)) (next b (slow_in b))
  falls h =
      elim (ℕ_discrete b.wave 0) [
        | yes z ↦ empty z
        | no n ↦ elim (dec_lt 0 (wait b)) [ yes p ↦ by (waits_on b s n (slow_in b) p) (waiting m b s n p g) | no q ↦ starts n (omega arith) h ]
      ]
