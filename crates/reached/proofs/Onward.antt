-- The slowest run, cycle after cycle. Assumes nothing.
use Rattle.std.specs.Prelude.{Option, Some, None}
use Prim.Native.Nat.{ℕ, zero, suc, ◌+◌, ◌-◌, ◌<◌, ◌≤◌}
use mathlib.Core.Path.{◌≡◌, refl, sym, subst, ◌∙◌}
use mathlib.Core.Bool.{false}
use mathlib.Core.List.{List, []}
use native.Mathlib.Omega.{arith}
use borrow.Author.Tests.{ne_eqb}
use Rattle.basics.specs.Lines.{one}
use Rattle.cycle.specs.declared.Bus.{Bus}
use Rattle.cycle.specs.declared.Arbitration.{Arbitration}
use Rattle.cycle.specs.Arbitration.{waits}
use Rattle.cycle.specs.Cycle.{starts_of, state_by, reply_by, moved_by, cycle_by, cycle_of}
use Rattle.cycle.specs.Waits.{pause_most}
use Rattle.cycle.specs.Runs.{cycle_in, next, start_in, and_then, starters, over_in, count, ahead, is_slot}
use Rattle.cycle.proofs.RunLaws.{arb, next_by, shown_by}
use Rattle.cycle.proofs.Bounds.{Sound}
use Rattle.cycle.proofs.Nearer.{wait}
use Rattle.cycle.proofs.Sound.{sound-next}
use Rattle.cycle.proofs.Shares.{share}
use Rattle.reached.proofs.Slowest.{slow_in, slow_run, waits_on, wait_falls}
use Rattle.reached.proofs.Due.{due, Stage, spent, going_on_lem}
use Rattle.reached.proofs.Falls.{falls}

-- a START of another is one ahead of m's own, and none of m's
module _ (m : ℕ) (l : List ℕ) where
  one-ahead : (o : Option ℕ) → is_slot m o ≡ false → ahead m (and_then o l) ≡ one (starts_of o) + ahead m l
  unfolding and_then ahead
  one-ahead None e = omega arith
  one-ahead (Some s) e = rw e (omega arith)

  none-own : (o : Option ℕ) → is_slot m o ≡ false → count m (and_then o l) ≡ count m l
  unfolding and_then count
  none-own None e = refl
  none-own (Some s) e = rw e

-- in as many cycles as m is due in, it doesn't start, and sees all the STARTs of others that it may
pub waits_out : (m : ℕ) → m < 16 → (n : ℕ) (b : Bus) → Sound b → Stage m b → n ≡ due m b
    → let l = starters b (slow_run n b) in (count m l ≡ 0) × (ahead m l ≡ share m b)
unfolding slow_run starters count ahead
waits_out m l zero b s g e = (refl, sym (spent m b s g (sym e)))
waits_out m l (suc n) b s g e =
    let i = slow_in b in
    let f = falls m l b s g (omega arith) in
    let r = waits_out m l n (next b i) (sound-next b i s) f.onward (omega (arith, f.nearer)) in
    (none-own m _ (start_in b i) f.another ∙ r.0, one-ahead m _ (start_in b i) f.another ∙ omega (arith, r.1, f.fewer))

-- the wave of others isn't over while slot 15 is due later than within a pause
pub lasts_on : (n : ℕ) (b : Bus) → Sound b → Stage 15 b → n + pause_most < due 15 b → over_in b (slow_run n b) ≡ false
unfolding slow_run over_in
lasts_on zero b s g h = ne_eqb b.wave 0 (going_on_lem b s g (omega arith))
lasts_on (suc n) b s g h =
    let i = slow_in b in
    let f = falls 15 (omega arith) b s g (omega arith) in
    rw (ne_eqb b.wave 0 (going_on_lem b s g (omega arith))) (lasts_on n (next b i) (sound-next b i s) f.onward (omega (arith, f.nearer)))

-- nobody starts for as long as the wave's next START may take
pub pauses_on : (n : ℕ) (b : Bus) → Sound b → (b.wave ≡ 0 → ⊥) → n ≤ wait b → starters b (slow_run n b) ≡ []
unfolding slow_run starters and_then start_in next cycle_in cycle_of cycle_by moved_by state_by reply_by next_by shown_by arb
pauses_on zero b s k h = refl
pauses_on (suc n) b s k h =
    let i = slow_in b in
    let e = waits_on b s k i (omega arith) in
    let s' = subst (λ (a : Arbitration). Sound (next_by b i a)) e (sound-next b i s) in
    subst (λ (a : Arbitration). and_then (shown_by b i a) (starters (next_by b i a) (slow_run n (next_by b i a))) ≡ []) (sym e)
    (pauses_on n (next_by b i (waits b (b.settling - 1))) s' k (omega (arith, wait_falls b s k (omega arith))))
