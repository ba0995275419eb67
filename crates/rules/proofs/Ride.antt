-- The wave that the judge keeps is the one that the recording has, and rules 8 to 11 are exact. Assumes nothing.
use Prim.Native.Nat.{ℕ, zero, suc, ◌+◌, ◌≤◌, ◌<◌}
use mathlib.Core.Bool.{Bool, true, false, not, cond, ◌&&◌, ◌||◌, false≢true, and-false, and-true}
use mathlib.Core.Path.{◌≡◌, refl, sym, ap, subst, ◌∙◌}
use mathlib.Core.Logic.{◌↔◌}
use native.Mathlib.Omega.{arith}
use lib.Dec.{ltb, leb, eqb}
use borrow.Author.Tests.{ltb-true, ltb-false, lt-ltb, le-ltb, leb-true, le-leb, eqb-true, eq-eqb, eqb-false, not-true}
use Rattle.std.specs.Prelude.{Option, Some, None}
use Rattle.basics.specs.Lines.{one}
use Rattle.basics.proofs.Bools.{choice, cond-true, cond-false, and_both, by-test, not-true as refuted, implied, implying}
use Rattle.rules.specs.declared.Wave.{Wave}
use Rattle.basics.specs.Order.{implies}
use Rattle.rules.specs.Rules.{rule8a, rule8b, rule8c, rule9, rule10, rule11}
use Rattle.rules.specs.State.{is_owned, asked_of, twice_of, capped, wave_of, fresh_wave}
use Rattle.rules.specs.Recording.{Lines, gap, cycle, count, NoReset, Asked, Began, LastStart, start_with, Owned, LastOwned}
use Rattle.rules.specs.Thirteen.{Rule8a, Rule8b, Rule8c, Rule9, Rule10, Rule11}
use Rattle.rules.proofs.Places.{below, same_place, more, less, alone, count_none, clash, and_pair, not_off, or_split, or_left, or_right, itself, not_iff, leb_iff, both_imply_iff}

-- each record up to i stands later than the one before it (rule 2)
abbrev pub Forward : Lines → ℕ → Type 0
Forward r i = (m : ℕ) → 1 ≤ m → m ≤ i → 1 ≤ gap r m

pub later : (r : Lines) (i k : ℕ) → Forward r i → k < i → cycle r k < cycle r i
later r zero k f lt = absurd (omega arith)
later r (suc i) k f lt =
    let g = f (suc i) (omega arith) (omega arith) in
    below k i lt (λ h. let z = later r i k (λ m a b. f m a (omega arith)) h in let y : cycle r k < cycle r i + gap r (suc i) = omega arith in y) (λ e. subst (λ x. cycle r x < cycle r i + gap r (suc i)) (sym e) (omega arith))

-- ---- RQST before record i, as tests
-- the record before i has RQST, and no RESET
abbrev last : Lines → ℕ → Bool
last r zero = false
last r (suc n) = (r n).rqst && not (r n).reset

-- RQST one cycle before record i
abbrev asked : Lines → ℕ → Bool
asked r i = eqb (gap r i) 1 && last r i

-- RQST one cycle before the record before i
abbrev prior : Lines → ℕ → Bool
prior r zero = false
prior r (suc n) = not (r n).reset && asked r n

-- RQST two cycles before record i
abbrev twice : Lines → ℕ → Bool
twice r i = eqb (gap r i) 1 && prior r i || eqb (gap r i) 2 && last r i

-- the record before i, with RQST, is as many cycles before it as the gap says
asks-last : (r : Lines) (n c : ℕ) → last r (suc n) ≡ true → gap r (suc n) ≡ c → Asked r (suc n) c
asks-last r n c e g =
    let q = and_both (r n).rqst (not (r n).reset) e in (
      n,
      record {
        earlier = omega arith;
        active = q.0;
        unbroken = alone (λ m. (r m).reset ≡ false) n (not-true (r n).reset q.1);
        ago = omega arith;
      },
    )

asked-says : (r : Lines) (i : ℕ) → asked r i ≡ true → Asked r i 1
asked-says r zero e = absurd (false≢true e)
asked-says r (suc n) e = let p = and_both (eqb (gap r (suc n)) 1) (last r (suc n)) e in asks-last r n 1 p.1 (eqb-true (gap r (suc n)) 1 p.0)

asked-exact : (r : Lines) (i : ℕ) → Forward r i → (asked r i ≡ true) ↔ Asked r i 1
asked-exact r zero f = (asked-says r zero, λ a. absurd (let z = a.1.earlier in omega arith))
asked-exact r (suc n) f = (
  asked-says r (suc n),
  λ a. let k = a.0 in let o = a.1 in
      let g = f (suc n) (omega arith) (omega arith) in
      let ago = o.ago in
      below k n o.earlier
      (λ lt. absurd (let z = later r n k (λ m x y. f m x (omega arith)) lt in omega arith))
      (λ e.
      let c : cycle r k ≡ cycle r n = ap (cycle r) e in
      and_pair (eq-eqb (gap r (suc n)) 1 (omega arith)) (and_pair (subst (λ m. (r m).rqst ≡ true) e o.active) (not_off (o.unbroken n (omega arith) (omega arith))))),
)

twice_says : (r : Lines) (i : ℕ) → twice r i ≡ true → Asked r i 2
twice_says r zero e = absurd (false≢true e)
twice_says r (suc n) e =
    or_split (eqb (gap r (suc n)) 1 && prior r (suc n)) (eqb (gap r (suc n)) 2 && last r (suc n)) e
    (λ x. let p = and_both (eqb (gap r (suc n)) 1) (prior r (suc n)) x in
    let q = and_both (not (r n).reset) (asked r n) p.1 in
    let o = asked-says r n q.1 in
    let k = o.0 in
    let g = eqb-true (gap r (suc n)) 1 p.0 in (
      k,
      record {
        earlier = (let z = o.1.earlier in omega arith);
        active = o.1.active;
        unbroken = more (λ m. (r m).reset ≡ false) k n o.1.unbroken (not-true (r n).reset q.0);
        ago = (let z = o.1.ago in omega arith);
      },
    ))
    (λ x. let p = and_both (eqb (gap r (suc n)) 2) (last r (suc n)) x in asks-last r n 2 p.1 (eqb-true (gap r (suc n)) 2 p.0))

twice_exact : (r : Lines) (i : ℕ) → Forward r i → (twice r i ≡ true) ↔ Asked r i 2
twice_exact r zero f = (twice_says r zero, λ a. absurd (let z = a.1.earlier in omega arith))
twice_exact r (suc n) f = (
  twice_says r (suc n),
  λ a. let k = a.0 in let o = a.1 in
      let g = f (suc n) (omega arith) (omega arith) in
      let ago = o.ago in
      let nr = o.unbroken n (let z = o.earlier in omega arith) (omega arith) in
      below k n o.earlier
      (λ lt.
      let z = later r n k (λ m x y. f m x (omega arith)) lt in
      or_left (eqb (gap r (suc n)) 2 && last r (suc n)) (and_pair (eq-eqb (gap r (suc n)) 1 (omega arith)) (and_pair (not_off nr)
      ((asked-exact r n (λ m a b. f m a (omega arith))).1 (k, record { earlier = lt; active = o.active; unbroken = less (λ m. (r m).reset ≡ false) k n o.unbroken; ago = omega arith })))))
      (λ e.
      let c : cycle r k ≡ cycle r n = ap (cycle r) e in
      or_right (eqb (gap r (suc n)) 1 && prior r (suc n)) (and_pair (eq-eqb (gap r (suc n)) 2 (omega arith)) (and_pair (subst (λ m. (r m).rqst ≡ true) e o.active) (not_off nr)))),
)

-- ---- the wave
-- its last START: none so far, or x cycles before the record before i
pub data Latest (r : Lines) (i b s a : ℕ) : Type 0 where
  unstarted : ((n : ℕ) → b < n → n < i → (r n).start ≡ false) → s ≡ 3 → a ≡ 15 → Latest r i b s a
  started : (m x : ℕ) → LastStart r i b m → cycle r m + x + gap r i ≡ cycle r i → s ≡ capped x → a ≡ (r m).arb → Latest r i b s a

-- a wave that began at record b lasts until the record before i
record Lasting (r : Lines) (i b : ℕ) : Type 0 where
  earlier : b < i
  active : (m : ℕ) → b ≤ m → m < i → (r m).rqst ≡ true
  unbroken : NoReset r b i
  each : (m : ℕ) → b < m → m < i → gap r m ≡ 1
  first : asked r b ≡ false

lasting_on : (r : Lines) (i b : ℕ) → Lasting r i b → (r i).rqst ≡ true → (r i).reset ≡ false → gap r i ≡ 1 → Lasting r (suc i) b
lasting_on r i b h q nr g =
    record {
      earlier = omega (arith, h.earlier);
      active = more (λ m. (r m).rqst ≡ true) b i h.active q;
      unbroken = more (λ m. (r m).reset ≡ false) b i h.unbroken nr;
      each = more (λ m. gap r m ≡ 1) (suc b) i h.each g;
      first = h.first;
    }

-- the judge's numbers are those of the wave that began at record b
record RunBy (r : Lines) (i b s a t : ℕ) : Type 0 where
  lasts : Lasting r i b
  latest : Latest r i b s a
  turn : t ≡ count (start_with r b a) i
  least : (n : ℕ) → b < n → n < i → (r n).start ≡ true → a ≤ (r n).arb

-- there is no wave, or one
data Riding (r : Lines) (i s a t : ℕ) : Type 0 where
  off : last r i ≡ false → s ≡ 3 → a ≡ 15 → t ≡ 0 → Riding r i s a t
  on : last r i ≡ true → (b : ℕ) → RunBy r i b s a t → Riding r i s a t

same_ride : (r : Lines) (i : ℕ) {s a t s' a' t' : ℕ} → s ≡ s' → a ≡ a' → t ≡ t' → Riding r i s' a' t' → Riding r i s a t
same_ride r i {s} {a} {t} {s'} {a'} {t'} es ea et h = subst (λ x. Riding r i x a t) (sym es) (subst (λ x. Riding r i s' x t) (sym ea) (subst (λ x. Riding r i s' a' x) (sym et) h))

capped-more : (x d : ℕ) → capped (capped x + d) ≡ capped (x + d)
capped-more x d =
    by-test (ltb x 3) (λ e. ap (λ k. capped (k + d)) (cond-true x 3 e)) (λ e.
    let le = ltb-false x 3 e in
    ap (λ k. capped (k + d)) (cond-false x 3 e) ∙ cond-false (3 + d) 3 (le-ltb (3 + d) 3 (omega arith)) ∙ sym (cond-false (x + d) 3 (le-ltb (x + d) 3 (omega arith))))

pub capped_three : (s d : ℕ) → s ≡ 3 → capped (s + d) ≡ 3
capped_three s d e = cond-false (s + d) 3 (le-ltb (s + d) 3 (omega arith))

-- no START of the wave has an ARB below the least
none_lower : (r : Lines) (i b a x : ℕ) → ((n : ℕ) → b < n → n < i → (r n).start ≡ true → a ≤ (r n).arb) → x < a → count (start_with r b x) i ≡ 0
none_lower r i b a x least lt = count_none (start_with r b x) i (λ m h. refuted (start_with r b x m) (λ e.
    let p = and_both (ltb b m && (r m).start) (eqb (r m).arb x) e in
    let q = and_both (ltb b m) (r m).start p.0 in
    let z = least m (ltb-true b m q.0) h q.1 in
    let y = eqb-true (r m).arb x p.1 in
    omega arith))

-- the wave begins
ride_begins : (r : Lines) (i : ℕ) → (r i).rqst ≡ true → (r i).reset ≡ false → last r i ≡ false → Riding r (suc i) 3 15 0
ride_begins r i q nr idle =
    on (and_pair q (not_off nr)) i record {
      lasts = record {
        earlier = omega arith;
        active = alone (λ m. (r m).rqst ≡ true) i q;
        unbroken = alone (λ m. (r m).reset ≡ false) i nr;
        each = λ m gt lt. absurd (omega arith);
        first = rw idle (and-false (eqb (gap r i) 1));
      };
      latest = unstarted (λ n gt lt. absurd (omega arith)) refl refl;
      turn = sym (count_none (start_with r i 15) (suc i) (λ m lt. rw (le-ltb i m (let z : m ≤ i = omega arith in z))));
      least = λ n gt lt _. absurd (omega arith);
    }

-- it goes on without START
ride_on : (r : Lines) (i b s a t : ℕ) → RunBy r i b s a t → (r i).rqst ≡ true → (r i).reset ≡ false → gap r i ≡ 1 → (r i).start ≡ false → Riding r (suc i) (capped (s + gap r i)) a t
ride_on r i b s a t h q nr g ns =
    on (and_pair q (not_off nr)) b record {
      lasts = lasting_on r i b h.lasts q nr g;
      latest = still h.latest;
      turn = h.turn ∙ (let z : one (start_with r b a i) ≡ 0 = ap one quiet in let y : count (start_with r b a) i ≡ count (start_with r b a) i + one (start_with r b a i) = omega arith in y);
      least = more (λ n. (r n).start ≡ true → a ≤ (r n).arb) (suc b) i h.least (λ e. clash e ns);
    }
  where
    quiet : start_with r b a i ≡ false
    quiet = rw (ns, and-false (ltb b i))

    still : Latest r i b s a → Latest r (suc i) b (capped (s + gap r i)) a
    still (unstarted f es ea) = unstarted (more (λ n. (r n).start ≡ false) (suc b) i f ns) (capped_three s (gap r i) es) ea
    still (started m x l c es ea) =
        started m (x + gap r i)
        (record { turn = record { after = l.turn.after; earlier = omega (arith, l.turn.earlier); starts = l.turn.starts }; none = more (λ n. (r n).start ≡ false) (suc m) i l.none ns })
        (omega arith) (ap (λ k. capped (k + gap r i)) es ∙ capped-more x (gap r i)) ea

-- a START of the wave
ride_turn : (r : Lines) (i b s a t : ℕ) → RunBy r i b s a t → (r i).rqst ≡ true → (r i).reset ≡ false → gap r i ≡ 1 → (r i).start ≡ true → (r i).arb ≤ a → Riding r (suc i) 0 (r i).arb (cond (eqb (r i).arb a) (t + 1) 1)
ride_turn r i b s a t h q nr g st le =
    on (and_pair q (not_off nr)) b record {
      lasts = lasting_on r i b h.lasts q nr g;
      latest = started i 0 (record { turn = record { after = h.lasts.earlier; earlier = omega arith; starts = st }; none = λ n gt lt. absurd (omega arith) }) (omega arith) refl refl;
      turn = by-test (eqb (r i).arb a) (λ e. cond-true (t + 1) 1 e ∙ again e) (λ e. cond-false (t + 1) 1 e ∙ lower e);
      least = more (λ n. (r n).start ≡ true → (r i).arb ≤ (r n).arb) (suc b) i (λ n gt lt e. let z = h.least n gt lt e in let y : (r i).arb ≤ (r n).arb = omega arith in y) (λ e. omega arith);
    }
  where
    this : one (start_with r b (r i).arb i) ≡ 1
    this = ap one (and_pair (and_pair (lt-ltb b i h.lasts.earlier) st) (eq-eqb (r i).arb (r i).arb refl))

    again : eqb (r i).arb a ≡ true → t + 1 ≡ count (start_with r b (r i).arb) i + one (start_with r b (r i).arb i)
    again e =
        let z = h.turn ∙ ap (λ x. count (start_with r b x) i) (sym (eqb-true (r i).arb a e)) in
        let y = this in omega arith

    lower : eqb (r i).arb a ≡ false → 1 ≡ count (start_with r b (r i).arb) i + one (start_with r b (r i).arb i)
    lower e =
        let ne = eqb-false (r i).arb a e in
        let lt : (r i).arb < a = omega arith in
        let z = none_lower r i b a (r i).arb h.least lt in
        let y = this in omega arith

-- ---- the owner that the judge keeps
-- nobody, there being no START of a wave since the reset; or the slot that the last one's ARB shows
abbrev pub OwnedBy : Lines → ℕ → Option ℕ → Type 0
OwnedBy r i None = (m : ℕ) → Owned r i m → ⊥
OwnedBy r i (Some slot) = (m : ℕ) × LastOwned r i m × (slot ≡ (r m).arb)

owned-exact : (r : Lines) (i : ℕ) (o : Option ℕ) → OwnedBy r i o → (is_owned o ≡ true) ↔ ((m : ℕ) × Owned r i m)
owned-exact r i None h = (λ e. absurd (false≢true e), λ p. absurd (h p.0 p.1))
owned-exact r i (Some slot) (m, l, same) = (λ _. (m, l.owned), λ _. refl)

-- ---- the judge's wave before record i
pub record WaveIs (r : Lines) (i : ℕ) (w : Wave) : Type 0 where
  rqst : w.rqst ≡ last r i
  prior : w.prior ≡ prior r i
  pub owner : OwnedBy r i w.owner
  ride : Riding r i w.since w.arb w.turn

asked_is : (r : Lines) (i : ℕ) (w : Wave) → WaveIs r i w → asked_of w (gap r i) ≡ asked r i
asked_is r i w h = ap (λ x. eqb (gap r i) 1 && x) h.rqst

twice_is : (r : Lines) (i : ℕ) (w : Wave) → WaveIs r i w → twice_of w (gap r i) ≡ twice r i
twice_is r i w h = ap (λ x. eqb (gap r i) 1 && x || eqb (gap r i) 2 && w.rqst) h.prior ∙ ap (λ x. eqb (gap r i) 1 && prior r i || eqb (gap r i) 2 && x) h.rqst

-- what the judge knows of RQST one cycle before is what the recording has
pub asked_of_lem : (r : Lines) (i : ℕ) (w : Wave) → Forward r i → WaveIs r i w → (asked_of w (gap r i) ≡ true) ↔ Asked r i 1
asked_of_lem r i w f h = rw (asked_is r i w h) (asked-exact r i f)

pub wave-fresh : (r : Lines) → WaveIs r zero fresh_wave
wave-fresh r = record { rqst = refl; prior = refl; owner = λ m o. (let z = o.earlier in omega arith); ride = off refl refl refl refl }

pub wave-reset : (r : Lines) (i : ℕ) → (r i).reset ≡ true → WaveIs r (suc i) fresh_wave
wave-reset r i e =
    record {
      rqst = sym (rw e (and-false (r i).rqst));
      prior = sym (rw e);
      owner = λ m o. clash e (o.unbroken i (let z = o.earlier in omega arith) (omega arith));
      ride = off (rw e (and-false (r i).rqst)) refl refl refl;
    }

owned_on : (r : Lines) (i m : ℕ) → (r i).reset ≡ false → Owned r i m → Owned r (suc i) m
owned_on r i m nr o =
    record { earlier = omega (arith, o.earlier); starts = o.starts; unbroken = more (λ k. (r k).reset ≡ false) m i o.unbroken nr; asked = o.asked }

-- a wave's START before record i + 1 is one before record i, or is record i
owned_below : {A : Type 0} (r : Lines) (i m : ℕ) → Forward r i → Owned r (suc i) m → (Owned r i m → A) → (((r i).start && asked r i) ≡ true → A) → A
owned_below r i m f o p q =
    below m i o.earlier
    (λ lt. p (record { earlier = lt; starts = o.starts; unbroken = less (λ k. (r k).reset ≡ false) m i o.unbroken; asked = o.asked }))
    (λ e. q (and_pair (subst (λ k. (r k).start ≡ true) e o.starts) ((asked-exact r i f).1 (subst (λ k. Asked r k 1) e o.asked))))

-- a START of a wave makes its master the owner
owner_now : (r : Lines) (i : ℕ) → Forward r i → (r i).reset ≡ false → ((r i).start && asked r i) ≡ true → OwnedBy r (suc i) (Some (r i).arb)
owner_now r i f nr e =
    let z = and_both (r i).start (asked r i) e in (
      i,
      record {
        owned = record { earlier = omega arith; starts = z.0; unbroken = alone (λ m. (r m).reset ≡ false) i nr; asked = (asked-exact r i f).0 z.1 };
        none = λ n gt o. (let lt = o.earlier in omega arith);
      },
      refl,
    )

-- any other record leaves the owner
owner-stays : (r : Lines) (i : ℕ) (o : Option ℕ) → Forward r i → (r i).reset ≡ false → ((r i).start && asked r i) ≡ false → OwnedBy r i o → OwnedBy r (suc i) o
owner-stays r i None f nr e h = λ m o. owned_below r i m f o (h m) (λ t. clash t e)
owner-stays r i (Some s) f nr e (m, l, same) = (
  m,
  record { owned = owned_on r i m nr l.owned; none = λ n gt o. owned_below r i n f o (l.none n gt) (λ t. clash t e) },
  same,
)

owner-next : (r : Lines) (i : ℕ) (o : Option ℕ) → Forward r i → (r i).reset ≡ false → OwnedBy r i o → OwnedBy r (suc i) (cond ((r i).start && asked r i) (Some (r i).arb) o)
owner-next r i o f nr h = choice (OwnedBy r (suc i)) ((r i).start && asked r i) (owner_now r i f nr) (λ e. owner-stays r i o f nr e h)

ride_next : (r : Lines) (i : ℕ) (w : Wave) → Riding r i w.since w.arb w.turn → (r i).reset ≡ false → (last r i ≡ true → (gap r i ≡ 1)) → ((r i).start ≡ true → asked r i ≡ true → (r i).arb ≤ w.arb)
    → (q : Bool) → (r i).rqst ≡ q → (st : Bool) → (r i).start ≡ st → (y : Bool) → asked r i ≡ y
    → Riding r (suc i) (cond q (cond (st && y) 0 (capped (w.since + gap r i))) 3) (cond q (cond (st && y) (r i).arb w.arb) 15) (cond q (cond (st && y) (cond (eqb (r i).arb w.arb) (w.turn + 1) 1) w.turn) 0)
ride_next r i w h nr r9 r10 false eq st es y ey = off (rw eq) refl refl refl
ride_next r i w (off idle s3 a15 t0) nr r9 r10 true eq st es true ey = clash (and_both (eqb (gap r i) 1) (last r i) ey).1 idle
ride_next r i w (off idle s3 a15 t0) nr r9 r10 true eq true es false ey = same_ride r (suc i) (capped_three w.since (gap r i) s3) a15 t0 (ride_begins r i eq nr idle)
ride_next r i w (off idle s3 a15 t0) nr r9 r10 true eq false es false ey = same_ride r (suc i) (capped_three w.since (gap r i) s3) a15 t0 (ride_begins r i eq nr idle)
ride_next r i w (on act b h) nr r9 r10 true eq st es false ey = clash (and_pair (eq-eqb (gap r i) 1 (r9 act)) act) ey
ride_next r i w (on act b h) nr r9 r10 true eq true es true ey = ride_turn r i b w.since w.arb w.turn h eq nr (r9 act) es (r10 es ey)
ride_next r i w (on act b h) nr r9 r10 true eq false es true ey = ride_on r i b w.since w.arb w.turn h eq nr (r9 act) es

pub wave-next : (r : Lines) (i : ℕ) (w : Wave) → Forward r i → WaveIs r i w → (r i).reset ≡ false → rule9 w.rqst (gap r i) (r i).rqst (r i).start ≡ true → rule10 (r i).start (asked_of w (gap r i)) (r i).arb w.arb ≡ true
    → WaveIs r (suc i) (wave_of w (r i).rqst (r i).start (r i).arb (gap r i))
wave-next r i w f h nr r9 r10 =
    record {
      rqst = rw (nr, and-true (r i).rqst);
      prior = asked_is r i w h ∙ rw nr;
      owner = subst (λ y. OwnedBy r (suc i) (cond ((r i).start && y) (Some (r i).arb) w.owner)) (sym same) (owner-next r i w.owner f nr h.owner);
      ride = ride_next r i w h.ride nr
          (λ act. eqb-true (gap r i) 1 (and_both (eqb (gap r i) 1) ((r i).rqst || (r i).start) (implied w.rqst _ r9 (h.rqst ∙ act))).0)
          (λ s y. leb-true (r i).arb w.arb (implied ((r i).start && asked_of w (gap r i)) _ r10 (and_pair s (same ∙ y))))
          (r i).rqst refl (r i).start refl (asked_of w (gap r i)) (sym same);
    }
  where
    same : asked_of w (gap r i) ≡ asked r i
    same = asked_is r i w h

-- ---- the wave of a record is one
began_of : (r : Lines) (i b : ℕ) → Forward r i → Lasting r i b → gap r i ≡ 1 → Began r i b
began_of r i b f h g =
    record {
      earlier = h.earlier;
      active = h.active;
      unbroken = h.unbroken;
      each = λ m gt le. more (λ m. gap r m ≡ 1) (suc b) i h.each g m gt (omega arith);
      first = λ x. clash ((asked-exact r b (λ m y z. f m y (let u = h.earlier in omega arith))).1 x) h.first;
    }

began_asked : (r : Lines) (i b : ℕ) → Began r i b → asked r i ≡ true
began_asked r zero b h = absurd (let z = h.earlier in omega arith)
began_asked r (suc n) b h =
    let lt = h.earlier in
    and_pair (eq-eqb (gap r (suc n)) 1 (h.each (suc n) lt (omega arith))) (and_pair (h.active n (omega arith) (omega arith)) (not_off (h.unbroken n (omega arith) (omega arith))))

began_not : (r : Lines) (i b n : ℕ) → Began r i b → Began r i n → b < n → ⊥
began_not r i b zero h g lt = omega arith
began_not r i b (suc p) h g lt =
    let e = g.earlier in
    g.first (asks-last r p 1 (and_pair (h.active p (omega arith) (omega arith)) (not_off (h.unbroken p (omega arith) (omega arith)))) (h.each (suc p) lt (omega arith)))

pub began_only : (r : Lines) (i b n : ℕ) → Began r i b → Began r i n → b ≡ n
began_only r i b n h g = same_place b n (began_not r i b n h g) (began_not r i n b g h)

pub last-only : (r : Lines) (i b m n : ℕ) → LastStart r i b m → LastStart r i b n → m ≡ n
last-only r i b m n h g =
    same_place m n (λ lt. clash g.turn.starts (h.none n lt g.turn.earlier)) (λ lt. clash h.turn.starts (g.none m lt h.turn.earlier))

-- ---- the four rules
-- what the judge knows of the last START, put to a test
by_last : (r : Lines) (i s a t : ℕ) (x : Bool) (P : ℕ → Type 0) → Forward r i → Riding r i s a t → asked r i ≡ true
    → (s ≡ 3 → a ≡ 15 → x ≡ true)
    → ((m y : ℕ) → cycle r m + y + gap r i ≡ cycle r i → s ≡ capped y → a ≡ (r m).arb → (x ≡ true) ↔ P m)
    → (x ≡ true) ↔ ((b m : ℕ) → Began r i b → LastStart r i b m → P m)
by_last r i s a t x P f (off idle _ _ _) y p q = clash (and_both (eqb (gap r i) 1) (last r i) y).1 idle
by_last r i s a t x P f (on act b h) y p q = go h.latest
  where
    began : Began r i b
    began = began_of r i b f h.lasts (eqb-true (gap r i) 1 (and_both (eqb (gap r i) 1) (last r i) y).0)

    go : Latest r i b s a → (x ≡ true) ↔ ((b m : ℕ) → Began r i b → LastStart r i b m → P m)
    go (unstarted g es ea) = (
      λ _ n m u l. let z = subst (λ c. LastStart r i c m) (began_only r i n b u began) l in clash z.turn.starts (g m z.turn.after z.turn.earlier),
      λ _. p es ea,
    )
    go (started k v l c es ea) = (
      λ e n m u j. let z = subst (λ c. LastStart r i c m) (began_only r i n b u began) j in subst P (last-only r i b k m l z) ((q k v c es ea).0 e),
      λ g. (q k v c es ea).1 (g b k began l),
    )

-- a rule on a START of a wave and the wave's last one
of_wave_lem : (r : Lines) (i : ℕ) (x : Bool) (P : ℕ → Type 0) → (asked r i ≡ true → (x ≡ true) ↔ ((b m : ℕ) → Began r i b → LastStart r i b m → P m))
    → (implies ((r i).start && asked r i) x ≡ true) ↔ ((r i).start ≡ true → (b m : ℕ) → Began r i b → LastStart r i b m → P m)
of_wave_lem r i x P test = (
  λ e s b m u l. let y = began_asked r i b u in (test y).0 (implied ((r i).start && asked r i) x e (and_pair s y)) b m u l,
  λ g. implying ((r i).start && asked r i) x (λ e. let z = and_both (r i).start (asked r i) e in (test z.1).1 (g z.0)),
)

pub rule8a-exact : (r : Lines) (i : ℕ) (w : Wave) → Forward r i → WaveIs r i w → (rule8a (r i).start (asked_of w (gap r i)) (is_owned w.owner) ≡ true) ↔ Rule8a r i
rule8a-exact r i w f h =
    rw (asked_is r i w h) (both_imply_iff (r i).start (not (asked r i)) (is_owned w.owner) (itself (r i).start) (not_iff (asked r i) (asked-exact r i f)) (λ _ _. owned-exact r i w.owner h.owner))

pub rule8b-exact : (r : Lines) (i : ℕ) (w : Wave) → Forward r i → WaveIs r i w → (rule8b (r i).start (asked_of w (gap r i)) (twice_of w (gap r i)) ≡ true) ↔ Rule8b r i
rule8b-exact r i w f h =
    rw (asked_is r i w h, twice_is r i w h)
    (both_imply_iff (r i).start (asked r i) (twice r i) (itself (r i).start) (asked-exact r i f) (λ _ _. twice_exact r i f))

pub rule8c-exact : (r : Lines) (i : ℕ) (w : Wave) → Forward r i → WaveIs r i w → (rule8c (r i).start (asked_of w (gap r i)) (w.since + gap r i) ≡ true) ↔ Rule8c r i
rule8c-exact r i w f h =
    rw (asked_is r i w h)
    (of_wave_lem r i (leb 3 d) (λ m. cycle r m + 3 ≤ cycle r i) (λ y.
    by_last r i w.since w.arb w.turn (leb 3 d) (λ m. cycle r m + 3 ≤ cycle r i) f h.ride y
    (λ es ea. le-leb 3 d (omega arith)) (λ m v c es ea. three m v c es)))
  where
    d : ℕ
    d = w.since + gap r i

    three : (m v : ℕ) → cycle r m + v + gap r i ≡ cycle r i → w.since ≡ capped v → (leb 3 d ≡ true) ↔ (cycle r m + 3 ≤ cycle r i)
    three m v c es =
        by-test (ltb v 3)
        (λ e. let z : w.since ≡ v = es ∙ cond-true v 3 e in
        (λ x. let y = leb-true 3 d x in let q : cycle r m + 3 ≤ cycle r i = omega arith in q, λ y. le-leb 3 d (omega arith)))
        (λ e. let z : w.since ≡ 3 = es ∙ cond-false v 3 e in
        let u = ltb-false v 3 e in
        (λ x. let q : cycle r m + 3 ≤ cycle r i = omega arith in q, λ y. le-leb 3 d (omega arith)))

pub rule9-exact : (r : Lines) (i : ℕ) (w : Wave) → WaveIs r i w → (rule9 w.rqst (gap r i) (r i).rqst (r i).start ≡ true) ↔ Rule9 r i
rule9-exact r i w h = rw h.rqst (at_place i)
  where
    either : (s q : Bool) → (s ≡ false → q ≡ true) → (q || s) ≡ true
    either true q g = or_right q refl
    either false q g = or_left false (g refl)

    at_place : (i : ℕ) → (implies (last r i) (eqb (gap r i) 1 && ((r i).rqst || (r i).start)) ≡ true) ↔ Rule9 r i
    at_place zero = (λ e k q. absurd (let z : suc k ≡ 0 = q in omega arith), λ f. refl)
    at_place (suc n) = (
      λ e k q a b. let u : k ≡ n = omega arith in
          let z = and_both (eqb (gap r (suc n)) 1) ((r (suc n)).rqst || (r (suc n)).start) (implied (last r (suc n)) _ e (and_pair (subst (λ m. (r m).rqst ≡ true) u a) (not_off (subst (λ m. (r m).reset ≡ false) u b)))) in
          (eqb-true (gap r (suc n)) 1 z.0, λ ns. or_split (r (suc n)).rqst (r (suc n)).start z.1 (λ x. x) (λ x. clash x ns)),
      λ f. implying (last r (suc n)) (eqb (gap r (suc n)) 1 && ((r (suc n)).rqst || (r (suc n)).start)) (λ e.
          let z = and_both (r n).rqst (not (r n).reset) e in
          let y = f n refl z.0 (not-true (r n).reset z.1) in
          and_pair (eq-eqb (gap r (suc n)) 1 y.0) (either (r (suc n)).start (r (suc n)).rqst y.1)),
    )

pub rule10-exact : (r : Lines) (i : ℕ) (w : Wave) → Forward r i → WaveIs r i w → (r i).arb ≤ 15 → (rule10 (r i).start (asked_of w (gap r i)) (r i).arb w.arb ≡ true) ↔ Rule10 r i
rule10-exact r i w f h a15 =
    rw (asked_is r i w h)
    (of_wave_lem r i (leb (r i).arb w.arb) (λ m. (r i).arb ≤ (r m).arb) (λ y.
    by_last r i w.since w.arb w.turn (leb (r i).arb w.arb) (λ m. (r i).arb ≤ (r m).arb) f h.ride y
    (λ es ea. le-leb (r i).arb w.arb (omega arith))
    (λ m v c es ea. subst (λ x. (leb (r i).arb x ≡ true) ↔ ((r i).arb ≤ (r m).arb)) (sym ea) (leb_iff (r i).arb (r m).arb))))

pub rule11-exact : (limit : ℕ) (r : Lines) (i : ℕ) (w : Wave) → 1 ≤ limit → Forward r i → WaveIs r i w → rule10 (r i).start (asked_of w (gap r i)) (r i).arb w.arb ≡ true
    → (rule11 limit (r i).start (asked_of w (gap r i)) (r i).arb w.arb w.turn ≡ true) ↔ Rule11 limit r i
rule11-exact limit r i w low f h = rw (asked_is r i w h) (λ r10. (
  λ e s b u. let y = began_asked r i b u in
      let le = leb-true (r i).arb w.arb (implied ((r i).start && asked r i) _ r10 (and_pair s y)) in
      few h.ride y le b u (λ q. ltb-true w.turn limit (implied ((r i).start && asked r i && eqb (r i).arb w.arb) _ e (and_pair (and_pair s y) q))),
  λ g. implying ((r i).start && asked r i && eqb (r i).arb w.arb) (ltb w.turn limit) (λ e.
      let z = and_both ((r i).start && asked r i) (eqb (r i).arb w.arb) e in
      let v = and_both (r i).start (asked r i) z.0 in
      lt-ltb w.turn limit (back h.ride v.1 (eqb-true (r i).arb w.arb z.1) (g v.0))),
))
  where
    began : (n : ℕ) → RunBy r i n w.since w.arb w.turn → asked r i ≡ true → Began r i n
    began n v y = began_of r i n f v.lasts (eqb-true (gap r i) 1 (and_both (eqb (gap r i) 1) (last r i) y).0)

    few : Riding r i w.since w.arb w.turn → asked r i ≡ true → (r i).arb ≤ w.arb → (b : ℕ) → Began r i b → (eqb (r i).arb w.arb ≡ true → w.turn < limit) → count (start_with r b (r i).arb) i + 1 ≤ limit
    few (off idle _ _ _) y le b u k = clash (and_both (eqb (gap r i) 1) (last r i) y).1 idle
    few (on act n v) y le b u k = subst (λ b. count (start_with r b (r i).arb) i + 1 ≤ limit) (began_only r i n b (began n v y) u)
        (by-test (eqb (r i).arb w.arb)
        (λ e. let lt = k e in
        let z = v.turn ∙ ap (λ x. count (start_with r n x) i) (sym (eqb-true (r i).arb w.arb e)) in
        let q : count (start_with r n (r i).arb) i + 1 ≤ limit = omega arith in q)
        (λ e. let ne = eqb-false (r i).arb w.arb e in
        let lt : (r i).arb < w.arb = omega arith in
        let z = none_lower r i n w.arb (r i).arb v.least lt in
        let q : count (start_with r n (r i).arb) i + 1 ≤ limit = omega arith in q))

    back : Riding r i w.since w.arb w.turn → asked r i ≡ true → (r i).arb ≡ w.arb → ((b : ℕ) → Began r i b → count (start_with r b (r i).arb) i + 1 ≤ limit) → w.turn < limit
    back (off idle _ _ _) y e g = clash (and_both (eqb (gap r i) 1) (last r i) y).1 idle
    back (on act n v) y e g =
        let z = v.turn ∙ ap (λ x. count (start_with r n x) i) (sym e) in
        let u = g n (began n v y) in
        omega arith

-- ---- a wave that has just begun has had no START
-- RQST active from record b on, with no cycle missing and no RESET, and a record m between b and i: active in the last two records before i
prior_on : (r : Lines) (i b m : ℕ) → ((k : ℕ) → b ≤ k → k < i → (r k).rqst ≡ true) → NoReset r b i → ((k : ℕ) → b < k → k < i → gap r k ≡ 1) → b < m → m < i → prior r i ≡ true
prior_on r zero b m active unbroken each bm mi = absurd (omega arith)
prior_on r (suc zero) b m active unbroken each bm mi = absurd (omega arith)
prior_on r (suc (suc k)) b m active unbroken each bm mi =
    and_pair (not_off (unbroken (suc k) (omega arith) (omega arith)))
    (and_pair (eq-eqb (gap r (suc k)) 1 (each (suc k) (omega arith) (omega arith)))
    (and_pair (active k (omega arith) (omega arith)) (not_off (unbroken k (omega arith) (omega arith)))))

-- so in a wave RQST is active one cycle before record i, and two cycles before it where the wave has had a START
pub began_once : (r : Lines) (i b : ℕ) → Began r i b → Asked r i 1
began_once r i b h = asked-says r i (began_asked r i b h)

pub began_twice : (r : Lines) (i b m : ℕ) → Began r i b → b < m → m < i → Asked r i 2
began_twice r i b m h bm mi =
    twice_says r i (or_left (eqb (gap r i) 2 && last r i)
    (and_pair (eq-eqb (gap r i) 1 (h.each i (omega arith) (omega arith))) (prior_on r i b m h.active h.unbroken (λ k bk ki. h.each k bk (omega arith)) bm mi)))

pub just_begun : (r : Lines) (i : ℕ) (w : Wave) → WaveIs r i w → w.prior ≡ false → w.since ≡ 3
just_begun r i w h e = by_ride h.ride
  where
    by_ride : Riding r i w.since w.arb w.turn → w.since ≡ 3
    by_ride (off idle three _ _) = three
    by_ride (on act b v) = by_start v.latest
      where
        by_start : Latest r i b w.since w.arb → w.since ≡ 3
        by_start (unstarted _ three _) = three
        by_start (started m x l _ _ _) = clash (prior_on r i b m v.lasts.active v.lasts.unbroken v.lasts.each l.turn.after l.turn.earlier) (sym h.prior ∙ e)

-- where RQST is active one cycle before, a wave lasts until then: rules 8c, 10 and 11 pass over no START of a wave
pub asked_began : (r : Lines) (i : ℕ) (w : Wave) → Forward r i → WaveIs r i w → Asked r i 1 → (b : ℕ) × Began r i b
asked_began r i w f h a = by_ride h.ride
  where
    y : asked r i ≡ true
    y = (asked-exact r i f).1 a

    by_ride : Riding r i w.since w.arb w.turn → (b : ℕ) × Began r i b
    by_ride (off idle _ _ _) = clash (and_both (eqb (gap r i) 1) (last r i) y).1 idle
    by_ride (on act b u) = (b, began_of r i b f u.lasts (eqb-true (gap r i) 1 (and_both (eqb (gap r i) 1) (last r i) y).0))

-- the wave that lasts until the cycle before record i, as the judge has it: where it began, its last START, and how many STARTs had that one's ARB
pub record Lasts (r : Lines) (i : ℕ) (w : Wave) : Type 0 where
  pub place : ℕ
  pub began : Began r i place
  pub latest : Latest r i place w.since w.arb
  pub turn : w.turn ≡ count (start_with r place w.arb) i

pub lasts : (r : Lines) (i : ℕ) (w : Wave) → Forward r i → WaveIs r i w → asked_of w (gap r i) ≡ true → Lasts r i w
lasts r i w f h e = by_ride h.ride
  where
    y : asked r i ≡ true
    y = sym (asked_is r i w h) ∙ e

    by_ride : Riding r i w.since w.arb w.turn → Lasts r i w
    by_ride (off idle _ _ _) = clash (and_both (eqb (gap r i) 1) (last r i) y).1 idle
    by_ride (on act b u) =
        record {
          place = b;
          began = began_of r i b f u.lasts (eqb-true (gap r i) 1 (and_both (eqb (gap r i) 1) (last r i) y).0);
          latest = u.latest;
          turn = u.turn;
        }
