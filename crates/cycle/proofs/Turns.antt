-- A wave's members get one turn each, the highest first, and nobody else starts before the wave is over. Assumes nothing.
use Prim.Native.Nat.{ℕ, suc, ◌+◌, ◌-◌, ◌^◌, ◌<◌, ◌≤◌}
use mathlib.Core.Path.{◌≡◌, refl, sym, ap, ◌∙◌, subst}
use mathlib.Core.Bool.{Bool, true, false, cond, true≢false}
use mathlib.Core.List.{List, [], ◌∷◌}
use native.Mathlib.Omega.{arith}
use native.Mathlib.Decide.{ℕ_discrete, dec_lt}
use lib.Dec.{eqb}
use borrow.Author.Tests.{eq-eqb, eqb-true, eqb-false}
use Rattle.basics.proofs.Bools.{choice}
use Rattle.slots.specs.Set.{mem, without, top}
use Rattle.slots.proofs.MemberLaws.{without-le, mem_gone, mem-kept}
use Rattle.cycle.specs.declared.Bus.{Bus}
use Rattle.cycle.specs.declared.Arbitration.{Arbitration}
use Rattle.cycle.specs.Arbitration.{formed, parked, waits, stays, leaves}
use Rattle.cycle.specs.Cycle.{cycle_of, cycle_by, moved_by, state_by, reply_by}
use Rattle.cycle.specs.Runs.{Input, cycle_in, next, start_in, and_then, over_in, served, count, turn_goes_on, one_turn, Falling, Turns}
use Rattle.cycle.proofs.RunLaws.{arb, next_by, shown_by, count-own, count-other}
use Rattle.cycle.proofs.View.{Case, forms, parks, settles, holds_off, repeats, retires, view}
use Rattle.cycle.proofs.WaveSets.{highest, above-top, mem-zero}
use Rattle.cycle.proofs.Bounds.{Sound}
use Rattle.cycle.proofs.Sound.{sound_by, sound-next, next_is}

-- the STARTs of a wave w whose highest member has had t of its turn already
data Run (limit : ℕ) (over : Bool) : ℕ → ℕ → List ℕ → Type 0 where
  ends : {w t : ℕ} → (over ≡ true → w ≡ 0) → Run limit over w t []
  again : {w t : ℕ} {l : List ℕ} → (w ≡ 0 → ⊥) → t + 1 < limit → Run limit over w (t + 1) l → Run limit over w t (top w ∷ l)
  lastly : {w t : ℕ} {l : List ℕ} → (w ≡ 0 → ⊥) → t < limit → Run limit over (without (top w) w) 0 l → Run limit over w t (top w ∷ l)

run_by : (b : Bus) (i : Input) (is : List Input) (r : Arbitration) → Sound b → Case b i r → (b.wave ≡ 0 → ⊥)
    → ((b' : Bus) → Sound b' → Run b'.limit (over_in b' is) b'.wave b'.turn (served b' is))
    → Run b.limit (over_in (next_by b i r) is) b.wave b.turn (and_then (shown_by b i r) (served (next_by b i r) is))
unfolding leaves and_then next_by shown_by cycle_by moved_by state_by reply_by
run_by b i is r s (forms z e) n f = absurd (n z)
run_by b i is r s (parks o z t m e) n f = absurd (n z)
run_by b i is r s (settles n' l e) n f = rw e (f (next_by b i (waits b (b.settling - 1))) (sound_by b i _ s (settles n' l refl)))
run_by b i is r s (holds_off n' l w a t e) n f = rw e (f (next_by b i (waits b 0)) (sound_by b i _ s (holds_off n' l w a t refl)))
run_by b i is r s (repeats n' l t u e) n f =
    rw e (again n u (f (next_by b i (stays b (top b.wave))) (sound_by b i _ s (repeats n' l t u refl))))
run_by b i is r s (retires n' l t e) n f =
    rw e (lastly n s.turns (f (next_by b i (leaves b (top b.wave))) (sound_by b i _ s (retires n' l t refl))))

run_of : (is : List Input) (b : Bus) → Sound b → Run b.limit (over_in b is) b.wave b.turn (served b is)
unfolding over_in served next start_in cycle_in cycle_of next_by shown_by arb
run_of [] b s = ends (λ e. eqb-true _ _ e)
run_of (i ∷ is) b s = go (eqb b.wave 0) refl (λ b' s'. run_of is b' s')
  where
    go : (c : Bool) → eqb b.wave 0 ≡ c → ((b' : Bus) → Sound b' → Run b'.limit (over_in b' is) b'.wave b'.turn (served b' is))
        → Run b.limit (cond c true (over_in (next b i) is)) b.wave b.turn (cond c [] (and_then (start_in b i) (served (next b i) is)))
    go true e f = ends (λ q. eqb-true _ _ e)
    go false e f = run_by b i is (arb b i) s (view b i) (eqb-false _ _ e) f

differ : (s m w : ℕ) → mem s w ≡ true → mem m w ≡ false → s ≡ m → ⊥
differ s m w i o e = true≢false (sym i ∙ ap (λ (n : ℕ). mem n w) e ∙ o)

-- nobody outside the wave starts
outside : {limit : ℕ} {over : Bool} {w t : ℕ} {l : List ℕ} (m : ℕ) → w < 2 ^ 16 → mem m w ≡ false → Run limit over w t l → count m l ≡ 0
unfolding count
outside m h o (ends f) = refl
outside m h o (again {w = w} {l = l} n u r) =
    count-other (top w) m l (differ (top w) m w (highest w h n).is_in o) ∙ outside m h o r
outside m h o (lastly {w = w} {l = l} n u r) =
    let d = differ (top w) m w (highest w h n).is_in o in
    count-other (top w) m l d
    ∙ outside m (omega (arith, without-le (top w) w)) (mem-kept (top w) m w (highest w h n).is_in d ∙ o) r

gone : {limit : ℕ} {over : Bool} {l : List ℕ} (m w : ℕ) → (w ≡ 0 → ⊥) → w < 2 ^ 16 → top w ≡ m → Run limit over (without (top w) w) 0 l → count m l ≡ 0
gone m w n h e r =
    outside m (omega (arith, without-le (top w) w)) (ap (λ (x : ℕ). mem x (without (top w) w)) (sym e) ∙ mem_gone (top w) w (highest w h n).is_in) r

-- a turn is of the limit at most
most_of : {limit : ℕ} {over : Bool} {w t : ℕ} {l : List ℕ} (m : ℕ) → w < 2 ^ 16 → t ≤ limit → Run limit over w t l
    → ((top w ≡ m) → count m l + t ≤ limit) × (count m l ≤ limit)
unfolding count
most_of m h k (ends f) = (λ e. omega arith, omega arith)
most_of m h k (again {w = w} {t = t} {l = l} n u r) =
    let ih = most_of m h (omega arith) r in
    elim (ℕ_discrete (top w) m) [ yes e ↦ (λ q. omega (arith, count-own (top w) m l e, ih.0 e), omega (arith, count-own (top w) m l e, ih.0 e)) | no d ↦ (λ q. absurd (d q), omega (arith, count-other (top w) m l d, ih.1)) ]
most_of m h k (lastly {w = w} {t = t} {l = l} n u r) =
    let h' : without (top w) w < 2 ^ 16 = omega (arith, without-le (top w) w) in
    let ih = most_of m h' (omega arith) r in
    elim (ℕ_discrete (top w) m) [ yes e ↦ (λ q. omega (arith, count-own (top w) m l e, gone m w n h e r), omega (arith, count-own (top w) m l e, gone m w n h e r)) | no d ↦ (λ q. absurd (d q), omega (arith, count-other (top w) m l d, ih.1)) ]

-- once the wave is over, each member has started
least_of_lem : {limit : ℕ} {over : Bool} {w t : ℕ} {l : List ℕ} (m : ℕ) → w < 2 ^ 16 → over ≡ true → mem m w ≡ true → Run limit over w t l → 1 ≤ count m l
least_of_lem m h o i (ends {w = w} f) = absurd (mem-zero m w (f o) i)
least_of_lem m h o i (again {w = w} {l = l} n u r) =
    let ih = least_of_lem m h o i r in
    elim (ℕ_discrete (top w) m) [ yes e ↦ omega (arith, count-own (top w) m l e) | no d ↦ omega (arith, count-other (top w) m l d, ih) ]
least_of_lem m h o i (lastly {w = w} {l = l} n u r) =
    let f : (top w ≡ m → ⊥) → 1 ≤ count m l = λ d. least_of_lem m (omega (arith, without-le (top w) w)) o (mem-kept (top w) m w (highest w h n).is_in d ∙ i) r in
    elim (ℕ_discrete (top w) m) [ yes e ↦ omega (arith, count-own (top w) m l e) | no d ↦ omega (arith, count-other (top w) m l d, f d) ]

falls : {limit : ℕ} {over : Bool} {w t : ℕ} {l : List ℕ} → w < 2 ^ 16 → Run limit over w t l → Falling l
falls h (ends f) = tt
falls h (again {w = w} n u r) = (λ m g. outside m h (above-top m w h g) r, falls h r)
falls h (lastly {w = w} n u r) =
    let h' : without (top w) w < 2 ^ 16 = omega (arith, without-le (top w) w) in
    (λ m g. outside m h' (mem-kept (top w) m w (highest w h n).is_in (λ e. omega arith) ∙ above-top m w h g) r, falls h' r)

-- each slot's STARTs are then one turn
turn-goes_on : (m : ℕ) (l : List ℕ) → ((k : ℕ) → m < k → count k l ≡ 0) → Falling l → turn_goes_on m l ≡ true
unfolding turn_goes_on
turn-goes_on m [] none f = refl
turn-goes_on m (s ∷ l) none f =
    choice (λ (c : Bool). c ≡ true) (eqb s m)
    (λ (e : eqb s m ≡ true). let q : s ≡ m = eqb-true s m e in turn-goes_on m l (λ k g. sym (count-other s k l (λ (d : s ≡ k). omega arith)) ∙ none k g) f.1)
    (λ (e : eqb s m ≡ false). eq-eqb (count m l) 0 (f.0 m (less (eqb-false s m e))))
  where
    less : (s ≡ m → ⊥) → s < m
    less d = elim (dec_lt s m) [ yes g ↦ g | no g ↦ absurd (above (omega arith)) ]
      where
        above : m < s → ⊥
        above g = let z : suc (count s l) ≡ 0 = sym (count-own s s l refl) ∙ none s g in omega arith

one-turn : (m : ℕ) (l : List ℕ) → Falling l → one_turn m l ≡ true
unfolding one_turn
one-turn m [] f = refl
one-turn m (s ∷ l) f =
    choice (λ (c : Bool). c ≡ true) (eqb s m)
    (λ (e : eqb s m ≡ true). let q : s ≡ m = eqb-true s m e in turn-goes_on m l (λ k g. f.0 k (omega arith)) f.1)
    (λ (e : eqb s m ≡ false). one-turn m l f.1)

turns_of_lem : (is : List Input) (b : Bus) → Sound b → b.turn ≡ 0 → Turns b.limit b.wave (over_in b is) (served b is)
turns_of_lem is b s z =
    let r = run_of is b s in
    let f = falls s.slots r in
    record {
      outsiders = λ m o. outside m s.slots o r;
      together = λ m. one-turn m (served b is) f;
      most = λ m. (most_of m s.slots (omega (arith, s.turns)) r).1;
      least = λ e m i. least_of_lem m s.slots e i r;
      highest_first = f;
    }

-- a wave forms with no START of its turns made
formed-turn : (b : Bus) (i : Input) (r : Arbitration) → Case b i r → b.wave ≡ 0 → (next_by b i r).turn ≡ 0
unfolding next_by cycle_by moved_by state_by formed parked
formed-turn b i r (forms z e) z' = rw e
formed-turn b i r (parks o z t m e) z' = rw e
formed-turn b i r (settles n l e) z' = absurd (n z')
formed-turn b i r (holds_off n l w a t e) z' = absurd (n z')
formed-turn b i r (repeats n l t u e) z' = absurd (n z')
formed-turn b i r (retires n l t e) z' = absurd (n z')

-- where the wave was empty, the members of the wave that cycle i forms get one turn each
pub turns-formed : (limit : ℕ) (b : Bus) (i : Input) (future : List Input) → Sound b → (next b i).limit ≡ limit → b.wave ≡ 0
    → let c = next b i in Turns limit c.wave (over_in c future) (served c future)
turns-formed limit b i future s e z =
    let c = next b i in
    let none : c.turn ≡ 0 = ap (λ (x : Bus). x.turn) (next_is b i) ∙ formed-turn b i (arb b i) (view b i) z in
    subst (λ (n : ℕ). Turns n c.wave (over_in c future) (served c future)) e (turns_of_lem future c (sound-next b i s) none)
