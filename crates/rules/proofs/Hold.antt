-- The transfer that the judge implying is the one that the recording has open, and rules 4, 5, 12 and 13 are exact. Assumes nothing.
use Prim.Native.Nat.{ℕ, zero, suc, ◌+◌, ◌≤◌, ◌<◌}
use mathlib.Core.Bool.{Bool, true, false, cond, not, ◌&&◌, false≢true, and-false}
use mathlib.Core.Path.{◌≡◌, refl, sym, ap, subst, ◌∙◌}
use mathlib.Core.Logic.{◌↔◌, ◌⊎◌, inl, inr}
use native.Mathlib.Omega.{arith}
use lib.Dec.{ltb, eqb}
use borrow.Author.Tests.{ltb-true, lt-ltb, le-ltb, leb-true, le-leb, eqb-true, eq-eqb}
use Rattle.basics.specs.Lines.{one}
use Rattle.basics.proofs.Bools.{choice, by-test, and_both, implied, implying}
use Rattle.codes.specs.Start.{decode_of}
use Rattle.rules.specs.declared.Transfer.{Transfer}
use Rattle.rules.specs.declared.Transfer.TheVariants.{Idle, Open}
use Rattle.basics.specs.Numbers.{watchdog}
use Rattle.basics.specs.Order.{implies}
use Rattle.codes.specs.Owed.{words_of}
use Rattle.codes.proofs.OwedLaws.{owed_unit, accepted_owed, some-accepted}
use Rattle.rules.specs.Rules.{strobe, rule4, rule5, rule7, rule12, rule13, rule13a, rule13b}
use Rattle.rules.specs.State.{is_open, open_words, open_strobes, open_age, aged_of, transfer_of}
use Rattle.rules.specs.Bounds.{SoundTransfer}
use Rattle.rules.specs.Recording.{Lines, gap, cycle, count, Opened, words_at, strobe_of, AgesFrom}
use Rattle.rules.specs.Thirteen.{Rule4, Rule5, Rule7, Rule12, Rule13, Rule13a, Rule13b}
use Rattle.rules.proofs.Places.{below, same_place, more, less, alone, count_none, clash, and_pair, itself, off_iff, and_iff, both_imply_iff}

-- ---- codes
-- a code has words exactly if it has a meaning
pub meaning-exact : (tm1 tm0 : Bool) (ad : ℕ) → (ltb 0 (words_of tm0 ad) ≡ true) ↔ ((decode_of tm1 tm0 ad).number ≡ 0)
meaning-exact tm1 tm0 ad =
    (λ e. some-accepted tm1 tm0 ad (ltb-true _ _ e), λ e. lt-ltb _ _ (accepted_owed tm1 tm0 ad e))

words-exact : (r : Lines) (i : ℕ) → (decode_of (r i).tm1 (r i).tm0 (r i).ad).number ≡ 0 → words_of (r i).tm0 (r i).ad ≡ words_at r i
unfolding words_at
words-exact r i = owed_unit (r i).tm1 (r i).tm0 (r i).ad

-- ---- the open transfer
pub opened-next : (r : Lines) (i k : ℕ) → Opened r i k → (r i).reset ≡ false → (r i).start ≡ false → (r i).ack ≡ false → Opened r (suc i) k
opened-next r i k o nr ns na =
    record {
      earlier = omega (arith, o.earlier);
      starts = o.starts;
      lasts = o.lasts;
      unbroken = more (λ m. (r m).reset ≡ false) k i o.unbroken nr;
      alone = more (λ m. (r m).start ≡ false) (suc k) i o.alone ns;
      unanswered = more (λ m. (r m).ack ≡ false) (suc k) i o.unanswered na;
    }

pub opened_now : (r : Lines) (i : ℕ) → (r i).reset ≡ false → (r i).start ≡ true → (r i).ack ≡ false → Opened r (suc i) i
opened_now r i nr s na =
    record {
      earlier = omega arith;
      starts = s;
      lasts = na;
      unbroken = alone (λ m. (r m).reset ≡ false) i nr;
      alone = λ m gt lt. absurd (omega arith);
      unanswered = λ m gt lt. absurd (omega arith);
    }

pub opened-before : (r : Lines) (i k : ℕ) → Opened r (suc i) k → k < i → Opened r i k
opened-before r i k o lt =
    record {
      earlier = lt;
      starts = o.starts;
      lasts = o.lasts;
      unbroken = less (λ m. (r m).reset ≡ false) k i o.unbroken;
      alone = less (λ m. (r m).start ≡ false) (suc k) i o.alone;
      unanswered = less (λ m. (r m).ack ≡ false) (suc k) i o.unanswered;
    }

-- one transfer at most is open
pub opened-only : (r : Lines) (i k n : ℕ) → Opened r i k → Opened r i n → k ≡ n
opened-only r i k n o q =
    same_place k n (λ lt. clash q.starts (o.alone n lt q.earlier)) (λ lt. clash o.starts (q.alone k lt o.earlier))

-- ---- from where the age counts
-- behind record i it counts from there, if that is the START or a strobe; else from where it did
ages_now : (r : Lines) (i k : ℕ) → (i ≡ k) ⊎ (strobe_of r k i ≡ true) → AgesFrom r (suc i) k i
ages_now r i k w = record { earlier = omega arith; word = w; last = λ n gt lt. absurd (omega arith) }

ages_on : (r : Lines) (i k m : ℕ) → AgesFrom r i k m → strobe_of r k i ≡ false → AgesFrom r (suc i) k m
ages_on r i k m f e =
    record { earlier = omega (arith, f.earlier); word = f.word; last = more (λ n. strobe_of r k n ≡ false) (suc m) i f.last e }

-- ---- what the judge's transfer says of the recording before record i
pub record HeldBy (r : Lines) (i k words strobes age busy : ℕ) : Type 0 where
  pub since : Opened r i k
  pub same : words ≡ words_at r k
  pub seen : strobes ≡ count (strobe_of r k) i
  pub word : ℕ
  pub from : AgesFrom r i k word
  pub aged : cycle r word + age + gap r i ≡ cycle r i
  pub spent : cycle r k + busy + gap r i ≡ cycle r i + 1

abbrev pub Held : Lines → ℕ → Transfer → Type 0
Held r i Idle = (k : ℕ) → Opened r i k → ⊥
Held r i (Open words strobes age busy) = (k : ℕ) × HeldBy r i k words strobes age busy

pub open_exact : (r : Lines) (i : ℕ) (t : Transfer) → Held r i t → (is_open t ≡ true) ↔ ((k : ℕ) × Opened r i k)
open_exact r i Idle h = (λ e. absurd (false≢true e), λ o. absurd (h o.0 o.1))
open_exact r i (Open w s a b) (k, h) = (λ _. (k, h.since), λ _. refl)

pub held_reset : (r : Lines) (i : ℕ) → (r i).reset ≡ true → Held r (suc i) Idle
held_reset r i e k o = clash e (o.unbroken i (let z : k ≤ i = omega (arith, o.earlier) in z) (omega arith))

held_acked : (r : Lines) (i : ℕ) → (r i).ack ≡ true → Held r (suc i) Idle
held_acked r i e k o =
    below k i o.earlier (λ lt. clash e (o.unanswered i lt (omega arith))) (λ q. clash e (subst (λ m. (r m).ack ≡ false) q o.lasts))

-- a strobe stands behind its transfer's START
strobe-behind : (r : Lines) (k m : ℕ) → strobe_of r k m ≡ true → ltb k m ≡ true
strobe-behind r k m e = and_first (ltb k m) _ (and_first _ _ (and_first _ _ (and_first _ _ e)))
  where
    and_first : (a b : Bool) → (a && b) ≡ true → a ≡ true
    and_first a b x = (and_both a b x).0

held_started : (r : Lines) (i : ℕ) → (r i).reset ≡ false → (r i).start ≡ true → (r i).ack ≡ false → Rule7 r i → HeldBy r (suc i) i (words_of (r i).tm0 (r i).ad) 0 0 1
held_started r i nr s na r7 =
    record {
      since = opened_now r i nr s na;
      same = words-exact r i (r7 s na);
      seen = sym (count_none (strobe_of r i) (suc i) (λ m lt. rw (le-ltb i m (let z : m ≤ i = omega arith in z))));
      word = i;
      from = ages_now r i i (inl refl);
      aged = omega arith;
      spent = omega arith;
    }

-- a strobe of this record, by the words that the judge implying
strobe_now : (r : Lines) (i k w : ℕ) → k < i → w ≡ words_at r k → strobe_of r k i ≡ strobe w (r i).start (r i).ack (r i).tm0
strobe_now r i k w lt e = rw (lt-ltb k i lt, e)

-- what the age is behind record i, and from where it counts
record Aging (r : Lines) (i k age : ℕ) : Type 0 where
  word : ℕ
  from : AgesFrom r (suc i) k word
  aged : cycle r word + age ≡ cycle r i

aging : (r : Lines) (i k m a : ℕ) → AgesFrom r i k m → cycle r m + a + gap r i ≡ cycle r i → (s : Bool) → s ≡ strobe_of r k i → Aging r i k (cond s 0 (a + gap r i))
aging r i k m a f e true q = record { word = i; from = ages_now r i k (inr (sym q)); aged = omega arith }
aging r i k m a f e false q = record { word = m; from = ages_on r i k m f (sym q); aged = omega (arith, e) }

held_aged : (r : Lines) (i : ℕ) (t : Transfer) → Held r i t → (r i).reset ≡ false → (r i).start ≡ false → (r i).ack ≡ false → Held r (suc i) (aged_of t (r i).start (r i).ack (r i).tm0 (gap r i))
held_aged r i Idle h nr ns na = λ k o.
    below k i o.earlier (λ lt. h k (opened-before r i k o lt)) (λ q. clash (subst (λ m. (r m).start ≡ true) q o.starts) ns)
held_aged r i (Open w s a b) (k, h) nr ns na = (
  k,
  let now = sym (strobe_now r i k w h.since.earlier h.same) in
      let age = aging r i k h.word a h.from h.aged (strobe w (r i).start (r i).ack (r i).tm0) now in
      record {
        since = opened-next r i k h.since nr ns na;
        same = h.same;
        seen = ap (λ x. x + one (strobe w (r i).start (r i).ack (r i).tm0)) h.seen ∙ ap (λ x. count (strobe_of r k) i + one x) now;
        word = age.word;
        from = age.from;
        aged = omega (arith, age.aged);
        spent = omega (arith, h.spent);
      },
)

pub held_next : (r : Lines) (i : ℕ) (t : Transfer) → Held r i t → (r i).reset ≡ false → Rule7 r i → Held r (suc i) (transfer_of t (r i).start (r i).ack (r i).tm0 (words_of (r i).tm0 (r i).ad) (gap r i))
held_next r i t h nr r7 =
    choice (Held r (suc i)) (r i).ack (λ a. held_acked r i a) (λ na.
    choice (Held r (suc i)) (r i).start (λ s. (i, held_started r i nr s na r7)) (λ ns. held_aged r i t h nr ns na))

-- ---- the rules
pub rule4-exact : (r : Lines) (i : ℕ) (t : Transfer) → Held r i t → (rule4 (is_open t) (r i).start ≡ true) ↔ Rule4 r i
rule4-exact r i Idle h = (λ e k o. absurd (h k o), λ f. rw (and-false (r i).start))
rule4-exact r i (Open w s a b) (k, h) =
    (λ e n o. off (r i).start e, λ f. rw (f k h.since))
  where
    off : (b : Bool) → not (b && true) ≡ true → b ≡ false
    off true e = absurd (false≢true e)
    off false e = refl

pub rule5-exact : (r : Lines) (i : ℕ) (t : Transfer) → Held r i t → (rule5 (is_open t) (r i).start (r i).ack ≡ true) ↔ Rule5 r i
rule5-exact r i t h =
    both_imply_iff (r i).ack (not (r i).start) (is_open t) (itself (r i).ack) (off_iff (r i).start) (λ _ _. open_exact r i t h)

pub rule7-exact : (r : Lines) (i : ℕ) → (rule7 (r i).start (r i).ack (words_of (r i).tm0 (r i).ad) ≡ true) ↔ Rule7 r i
rule7-exact r i =
    both_imply_iff (r i).start (not (r i).ack) (ltb 0 (words_of (r i).tm0 (r i).ad)) (itself (r i).start) (off_iff (r i).ack) (λ _ _. meaning-exact (r i).tm1 (r i).tm0 (r i).ad)

-- there is a record from which the age counts, so rule 12 speaks of every open transfer
pub ages_there : (r : Lines) (i k : ℕ) → k < i → (m : ℕ) × AgesFrom r i k m
ages_there r zero k lt = absurd (omega arith)
ages_there r (suc i) k lt =
    by-test (strobe_of r k i)
    (λ e. (i, ages_now r i k (inr e)))
    (λ e. below k i lt (λ before. let x = ages_there r i k before in (x.0, ages_on r i k x.0 x.1 e)) (λ q. (i, ages_now r i k (inl (sym q)))))

-- the age counts from one record alone
pub ages_only : (r : Lines) (i k m n : ℕ) → AgesFrom r i k m → AgesFrom r i k n → m ≡ n
ages_only r i k m n f g = same_place m n (λ lt. later m n f g lt) (λ lt. later n m g f lt)
  where
    -- one behind the last would be the START itself, or a strobe
    later : (m n : ℕ) → AgesFrom r i k m → AgesFrom r i k n → m < n → ⊥
    later m n f g lt = on g.word
      where
        after : (x : (m ≡ k) ⊎ (strobe_of r k m ≡ true)) → k ≤ m
        after (inl e) = omega arith
        after (inr e) = let z = ltb-true k m (strobe-behind r k m e) in omega arith

        on : (n ≡ k) ⊎ (strobe_of r k n ≡ true) → ⊥
        on (inl e) = omega (arith, after f.word)
        on (inr e) = clash e (f.last n lt g.earlier)

pub rule12-exact : (r : Lines) (i : ℕ) (t : Transfer) → Held r i t → (rule12 (is_open t) (open_age t) (gap r i) ≡ true) ↔ Rule12 r i
rule12-exact r i Idle h = (λ e k m o f. absurd (h k o), λ f. refl)
rule12-exact r i (Open w s a b) (k, h) = (
  λ e n m o f.
      let x = leb-true (a + gap r i) watchdog e in
      let y : cycle r i ≤ cycle r h.word + watchdog = omega (arith, h.aged) in
      subst (λ m. cycle r i ≤ cycle r m + watchdog) (ages_only r i k h.word m h.from (subst (λ x. AgesFrom r i x m) (sym (opened-only r i k n h.since o)) f)) y,
  λ f. let x = f k h.word h.since h.from in le-leb (a + gap r i) watchdog (omega (arith, h.aged)),
)

-- one strobe more, or none
strobes_open : (x : Bool) (s w : ℕ) → s < w → (implies x (ltb (s + 1) w) ≡ true) ↔ (s + one x + 1 ≤ w)
strobes_open true s w few = (λ e. let z = ltb-true (s + 1) w e in let y : s + 1 + 1 ≤ w = omega arith in y, λ f. lt-ltb (s + 1) w (omega arith))
strobes_open false s w few = (λ e. let z : s + 0 + 1 ≤ w = omega arith in z, λ f. refl)

rule13a-exact : (r : Lines) (i k w s a b : ℕ) → HeldBy r i k w s a b → s < w → (rule13a true w s (r i).start (r i).ack (r i).tm0 ≡ true) ↔ Rule13a r i
rule13a-exact r i k w s a b h few = (
  λ e n o. subst (λ m. count (strobe_of r m) (suc i) + 1 ≤ words_at r m) (opened-only r i k n h.since o)
      (let z = (strobes_open (strobe w (r i).start (r i).ack (r i).tm0) s w few).0 e in
      let v = now in
      let q : count (strobe_of r k) (suc i) + 1 ≤ words_at r k = omega (arith, h.seen, h.same) in q),
  λ f. (strobes_open (strobe w (r i).start (r i).ack (r i).tm0) s w few).1
      (let u = f k h.since in
      let v = now in
      let q : s + one (strobe w (r i).start (r i).ack (r i).tm0) + 1 ≤ w = omega (arith, h.seen, h.same) in q),
)
  where
    now : one (strobe_of r k i) ≡ one (strobe w (r i).start (r i).ack (r i).tm0)
    now = ap one (strobe_now r i k w h.since.earlier h.same)

rule13b-exact : (r : Lines) (i k w s a b : ℕ) → HeldBy r i k w s a b → (rule13b true w s (r i).ack (r i).tm1 (r i).tm0 ≡ true) ↔ Rule13b r i
rule13b-exact r i k w s a b h = (
  λ e n o x y z. subst (λ m. count (strobe_of r m) i + 1 ≡ words_at r m) (opened-only r i k n h.since o)
      (let u = eqb-true (s + 1) w (implied ((r i).ack && (r i).tm1 && (r i).tm0) _ e (and_pair (and_pair x y) z)) in
      let q : count (strobe_of r k) i + 1 ≡ words_at r k = omega (arith, h.seen, h.same) in q),
  λ f. implying ((r i).ack && (r i).tm1 && (r i).tm0) (eqb (s + 1) w) (λ e.
      let p = and_both ((r i).ack && (r i).tm1) (r i).tm0 e in
      let q = and_both (r i).ack (r i).tm1 p.0 in
      let u = f k h.since q.0 q.1 p.1 in
      eq-eqb (s + 1) w (omega (arith, h.seen, h.same))),
)

pub rule13-exact : (r : Lines) (i : ℕ) (t : Transfer) → Held r i t → SoundTransfer t → (rule13 (is_open t) (open_words t) (open_strobes t) (r i).start (r i).ack (r i).tm1 (r i).tm0 ≡ true) ↔ Rule13 r i
rule13-exact r i Idle h sound = (λ e. (λ k o. absurd (h k o), λ k o. absurd (h k o)), λ f. refl)
rule13-exact r i (Open w s a b) (k, h) sound =
    and_iff (rule13a true w s (r i).start (r i).ack (r i).tm0) (rule13b true w s (r i).ack (r i).tm1 (r i).tm0) (rule13a-exact r i k w s a b h sound.few) (rule13b-exact r i k w s a b h)
