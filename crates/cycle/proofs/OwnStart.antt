-- A master that goes on asking does start: in every cycle the pause until the next START, or what others may still start, falls.
-- Assumes nothing.
use Prim.Native.Nat.{ℕ, suc, ◌+◌, ◌-◌, ◌*◌, ◌<◌, ◌≤◌, max}
use mathlib.Core.Path.{◌≡◌, refl, ap, ◌∙◌}
use mathlib.Core.Bool.{Bool, true, false, cond}
use mathlib.Core.List.{List, [], ◌∷◌}
use native.Mathlib.Omega.{arith}
use lib.ListN.{length}
use lib.Dec.{eqb}
use borrow.Author.Tests.{eq-eqb, ne_eqb, eqb-true, eqb-false}
use Rattle.basics.specs.Numbers.{transfer_most}
use Rattle.slots.specs.Set.{mem, top}
use Rattle.slots.proofs.MemberLaws.{mem-kept}
use Rattle.cycle.specs.declared.Bus.{Bus}
use Rattle.cycle.specs.declared.Arbitration.{Arbitration}
use Rattle.cycle.specs.declared.Transfer.{Transfer}
use Rattle.cycle.specs.declared.Transfer.TheVariants.{Idle, Open}
use Rattle.cycle.specs.Arbitration.{settled_at, formed, parked, waits, stays, leaves}
use Rattle.cycle.specs.Cycle.{cycle_of, cycle_by, moved_by, state_by, reply_by}
use Rattle.cycle.specs.Runs.{Input, wants_in, words_in, cycle_in, next, start_in, and_then, starters, count, Still, is_slot, Asks}
use Rattle.cycle.specs.Waits.{pause_most, turns_most}
use Rattle.cycle.proofs.RunLaws.{arb, next_by, shown_by, wants_small, count-own, count-other}
use Rattle.cycle.proofs.View.{Case, forms, parks, settles, holds_off, repeats, retires, view}
use Rattle.cycle.proofs.WaveSets.{mem-zero}
use Rattle.cycle.proofs.Bounds.{Sound, left, left_most, progress_left}
use Rattle.cycle.proofs.Nearer.{wait, wait_most, nearer_settles, nearer_waits}
use Rattle.cycle.proofs.Sound.{sound_by}
use Rattle.cycle.proofs.Shares.{asks_on, parkable, turns_of, turns-empty, turns-joined, turns-parked, turns-stays, turns-leaves, turns-most, kept}

-- with no wave, the cycles until the next START: with nothing open a parked one may come first
unfoldable pub vacant : ℕ → Transfer → ℕ
vacant m Idle = 2 + (transfer_most - 1) * parkable m
vacant m (Open w a) = max 2 (left (Open w a))

-- the cycles until the next START
unfoldable pub pause_of : ℕ → ℕ → Transfer → ℕ → ℕ
pause_of m w t n = cond (eqb w 0) (vacant m t) (n + cond (mem m w) 0 (parkable m))

unfoldable pub pause : ℕ → Bus → ℕ
pause m b = pause_of m b.wave b.transfer (wait b)

unfoldable pub turns : ℕ → Bus → ℕ
turns m b = turns_of m b.limit b.wave b.turn

vacant_most : (m : ℕ) (t : Transfer) → left t ≤ transfer_most → vacant m t ≤ transfer_most + parkable m
unfolding vacant
vacant_most m Idle h = omega arith
vacant_most m (Open w a) h = omega (arith, h)

pub pause_most_lem : (m : ℕ) (b : Bus) → Sound b → pause m b ≤ transfer_most + parkable m
unfolding pause pause_of
pause_most_lem m b s = go (eqb b.wave 0) (mem m b.wave)
  where
    go : (c d : Bool) → cond c (vacant m b.transfer) (wait b + cond d 0 (parkable m)) ≤ transfer_most + parkable m
    go true d = vacant_most m b.transfer (left_most b.transfer s.aging)
    go false true = omega (arith, wait_most b s)
    go false false = omega (arith, wait_most b s)

pause_empty : (m : ℕ) (b : Bus) → b.wave ≡ 0 → pause m b ≡ vacant m b.transfer
unfolding pause pause_of
pause_empty m b z = rw (eq-eqb b.wave 0 z)

pause_wave : (m : ℕ) (b : Bus) → (b.wave ≡ 0 → ⊥) → pause m b ≡ wait b + cond (mem m b.wave) 0 (parkable m)
unfolding pause pause_of
pause_wave m b n = rw (ne_eqb b.wave 0 n)

-- after a START m is in the wave, and no parked one can come before it; or it is not
pause_start : (m : ℕ) (b : Bus) (w : ℕ) → Sound b → mem m b.wave ≡ mem m w → pause m b ≤ transfer_most + cond (mem m w) 0 (parkable m)
pause_start m b w s q = go (mem m w) q
  where
    go : (c : Bool) → mem m b.wave ≡ c → pause m b ≤ transfer_most + cond c 0 (parkable m)
    go true e = rw (pause_wave m b (λ z. mem-zero m b.wave z e), e) (omega (arith, wait_most b s))
    go false e = pause_most_lem m b s

pause_in : (m : ℕ) (b : Bus) → mem m b.wave ≡ true → pause m b ≡ wait b
pause_in m b e = pause_wave m b (λ z. mem-zero m b.wave z e) ∙ rw e (omega arith)

-- a wave forms: what is open comes nearer its end
vacant_least : (m : ℕ) (t : Transfer) → max 2 (left t) ≤ vacant m t
unfolding vacant left
vacant_least m Idle = omega arith
vacant_least m (Open w a) = omega arith

vacant_idle : (m : ℕ) (t : Transfer) → t ≡ Idle → vacant m t ≡ 2 + (transfer_most - 1) * parkable m
unfolding vacant
vacant_idle m t e = rw e

once : (w : ℕ) → settled_at 1 w ≤ 1
once w = go (eqb w 0)
  where
    go : (c : Bool) → cond c 0 1 ≤ 1
    go true = omega arith
    go false = omega arith

formed_nearer : (m : ℕ) (b : Bus) (i : Input) → Sound b → suc (wait (next_by b i (formed b (wants_in i)))) ≤ vacant m b.transfer
unfolding wait next_by cycle_by moved_by state_by formed
formed_nearer m b i s =
    let h = progress_left b.transfer i.event (wants_in i) (words_in i) s.aging in
    omega (arith, h, once (wants_in i), vacant_least m b.transfer)

count-slot : (m s : ℕ) (l : List ℕ) (X : Type 0) → ((s ≡ m → ⊥) → X → 0 < count m l) → Still (eqb s m) X → 0 < count m (s ∷ l)
count-slot m s l X f a = go (eqb s m) refl a
  where
    go : (c : Bool) → eqb s m ≡ c → Still c X → 0 < count m (s ∷ l)
    go true e x = omega (arith, count-own s m l (eqb-true s m e))
    go false e x = omega (arith, count-other s m l (eqb-false s m e), f (eqb-false s m e) x)

module _ (m : ℕ) (small : m < 16) where
  abbrev pub Comes : List Input → Bus → Type 0
  Comes is b = Asks m b is → pause m b + pause_most * turns m b < length is → 0 < count m (starters b is)

  comes_by : (b : Bus) (i : Input) (is : List Input) (r : Arbitration) → Sound b → Case b i r → ((b' : Bus) → Sound b' → Comes is b')
      → mem m (wants_in i) ≡ true → pause m b + pause_most * turns m b < suc (length is) → Still (is_slot m (shown_by b i r)) (Asks m (next_by b i r) is)
      → 0 < count m (and_then (shown_by b i r) (starters (next_by b i r) is))
  unfolding and_then next_by shown_by cycle_by moved_by state_by reply_by formed parked leaves turns
  comes_by b i is r s (forms z e) f w h =
      rw e (λ a.
      let b' = next_by b i (formed b (wants_in i)) in
      let s' = sound_by b i (formed b (wants_in i)) s (forms z refl) in
      f b' s' a
      (omega (arith, pause_empty m b z, pause_in m b' w, formed_nearer m b i s, turns-empty m b.limit b.wave b.turn z (s.rest z), turns-joined m b.limit (wants_in i) (wants_small i) w)))
  comes_by b i is r s (parks o z t q e) f w h =
      rw e (λ a. count-slot m o _ _ (λ d x.
      let b' = next_by b i (parked o (wants_in i)) in
      let s' = sound_by b i (parked o (wants_in i)) s (parks o z t q refl) in
      f b' s' x
      (omega (arith, pause_empty m b z, vacant_idle m b.transfer t, pause_in m b' (mem-kept o m (wants_in i) q d ∙ w), wait_most b' s', turns-empty m b.limit b.wave b.turn z (s.rest z), turns-parked m o b.limit (wants_in i) (omega (arith, s.turns)) (wants_small i) w q d))) a)
  comes_by b i is r s (settles n l e) f w h =
      rw e (λ a.
      let b' = next_by b i (waits b (b.settling - 1)) in
      f b' (sound_by b i _ s (settles n l refl)) a (omega (arith, pause_wave m b n, pause_wave m b' n, nearer_settles b i s l)))
  comes_by b i is r s (holds_off n l x y t e) f w h =
      rw e (λ a.
      let b' = next_by b i (waits b 0) in
      f b' (sound_by b i _ s (holds_off n l x y t refl)) a (omega (arith, pause_wave m b n, pause_wave m b' n, nearer_waits b i x y s l t)))
  comes_by b i is r s (repeats n l t u e) f w h =
      rw e (λ a. count-slot m (top b.wave) _ _ (λ d x.
      let b' = next_by b i (stays b (top b.wave)) in
      let s' = sound_by b i (stays b (top b.wave)) s (repeats n l t u refl) in
      f b' s' x (omega (arith, pause_wave m b n, pause_start m b' b.wave s' refl, turns-stays m b.limit b.wave s.slots n d b.turn u))) a)
  comes_by b i is r s (retires n l t e) f w h =
      rw e (λ a. count-slot m (top b.wave) _ _ (λ d x.
      let b' = next_by b i (leaves b (top b.wave)) in
      let s' = sound_by b i (leaves b (top b.wave)) s (retires n l t refl) in
      f b' s' x (omega (arith, pause_wave m b n, pause_start m b' b.wave s' (kept m b.wave s.slots n d), turns-leaves m b.limit b.wave s.slots n d b.turn s.turns))) a)

  pub comes_of : (is : List Input) (b : Bus) → Sound b → Comes is b
  unfolding starters next start_in cycle_in cycle_of next_by shown_by arb
  comes_of [] b s a h = absurd (omega arith)
  comes_of (i ∷ is) b s a h =
      let on = asks_on m b i is small a in
      comes_by b i is (arb b i) s (view b i) (λ b' s' a' h'. comes_of is b' s' a' h') on.0 h on.1

-- the STARTs of others that m may still see in waves, from any state within the bounds
pub turns-within : (m limit : ℕ) (b : Bus) → m < 16 → Sound b → b.limit ≡ limit → turns m b ≤ turns_most limit m
unfolding turns
turns-within m limit b small s e =
    omega (arith, turns-most m limit b.wave b.turn small s.slots, ap (λ (n : ℕ). turns_of m n b.wave b.turn) e)
