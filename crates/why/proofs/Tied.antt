-- The figures in the judge's terms are those of the recording, where a record breaks a rule and those before it break none. Assumes nothing.
use Prim.Native.Nat.{ℕ, suc, ◌+◌, ◌-◌, ◌^◌, ◌≤◌, ◌<◌}
use mathlib.Core.Bool.{Bool, true, false, not, cond, ◌&&◌, false≢true}
use mathlib.Core.List.{List, [], ◌∷◌}
use mathlib.Core.Path.{◌≡◌, refl, sym, ap, subst, ◌∙◌}
use mathlib.Core.Logic.{inl, inr}
use native.Mathlib.Omega.{arith}
use lib.Dec.{ltb, leb, eqb}
use borrow.Author.Tests.{leb-true, leb-false, lt-ltb, eqb-true}
use Rattle.basics.specs.Lines.{one}
use Rattle.basics.specs.Numbers.{watchdog}
use Rattle.basics.specs.Order.{implies}
use Rattle.basics.proofs.Bools.{choice, and_both, implied, by-test, cond-true, cond-false}
use Rattle.rules.specs.declared.Rule.{Rule}
use Rattle.rules.specs.declared.Judge.{Judge}
use Rattle.rules.specs.declared.Wave.{Wave}
use Rattle.rules.specs.declared.Transfer.{Transfer}
use Rattle.rules.specs.declared.Transfer.TheVariants.{Idle, Open}
use Rattle.rules.specs.Names.{only, kind8c, no_rule}
use Rattle.rules.specs.Rules.{strobe, rule2, rule4, rule8c, rule10, rule11, rule12, rule13}
use Rattle.rules.specs.State.{is_open, open_words, open_strobes, open_age, open_busy, asked_of, diff_of}
use Rattle.rules.specs.Bounds.{SoundTransfer}
use Rattle.rules.specs.Run.{lowest, later_rules, rules_of, rule_of}
use Rattle.rules.specs.Recording.{Lines, Recording, gap, cycle, count, Opened, words_at, strobe_of, AgesFrom, Began, LastStart, start_with}
use Rattle.rules.specs.Thirteen.{rules, Breaks}
use Rattle.rules.proofs.Hold.{Held}
use Rattle.rules.proofs.Ride.{Forward, later, WaveIs, Latest, unstarted, started, Lasts, lasts}
use Rattle.rules.proofs.Step.{taken_at, JudgeIs, Found as Lowest, forward_to, lowest-exact}
use Rattle.rules.proofs.Exactly.{kept-not, first-only}
use Rattle.why.specs.Figures.{figures, figures_of}
use Rattle.why.specs.Found.{Found, spare, stamp, parity, opened, soon, above, often, old, strobes, fifth, sixth, seventh, parked, brief, ninth}

-- ---- the first rule that is broken
-- what is to be shown of the lowest rule of a list: of each where it does not hold and those before it do
data Each (P : Rule → Type 0) : List (Rule × Bool) → Type 0 where
  none : P no_rule → Each P []
  also : {name : Rule} {test : Bool} {rest : List (Rule × Bool)} → (test ≡ false → P name) → (test ≡ true → Each P rest) → Each P ((name, test) ∷ rest)

each-lowest : (P : Rule → Type 0) (ts : List (Rule × Bool)) → Each P ts → P (lowest ts)
each-lowest P _ (none p) = p
each-lowest P _ (also {name} {test} {rest} f g) = choice P test (λ e. each-lowest P rest (g e)) f

-- a rule that does not hold: its premise does, and its conclusion doesn't
fails : (a b : Bool) → implies a b ≡ false → (a ≡ true) × (b ≡ false)
fails true true e = absurd (false≢true (sym e))
fails true false e = (refl, refl)
fails false b e = absurd (false≢true (sym e))

-- ---- the open transfer
-- where it began, and how long ago; from where its age counts, and how long ago that was
record Aged (l : Lines) (i : ℕ) (t : Transfer) : Type 0 where
  place : ℕ
  since : Opened l i place
  ago : cycle l place + (open_busy t + gap l i - 1) ≡ cycle l i
  word : ℕ
  from : AgesFrom l i place word
  old : cycle l word + (open_age t + gap l i) ≡ cycle l i

aged : (l : Lines) (i : ℕ) (t : Transfer) → Forward l i → Held l i t → is_open t ≡ true → Aged l i t
aged l i Idle f h e = absurd (false≢true e)
aged l i (Open w s a b) f (k, h) e =
    record {
      place = k;
      since = h.since;
      ago = omega (arith, later l i k f h.since.earlier, h.spent);
      word = h.word;
      from = h.from;
      old = omega (arith, h.aged);
    }

-- its strobes and words
record Strobed (l : Lines) (i : ℕ) (t : Transfer) : Type 0 where
  place : ℕ
  since : Opened l i place
  many : open_strobes t + one (strobe (open_words t) (l i).start (l i).ack (l i).tm0) ≡ count (strobe_of l place) (suc i)
  words : open_words t - 1 + 1 ≡ words_at l place

strobed : (l : Lines) (i : ℕ) (t : Transfer) → Held l i t → SoundTransfer t → is_open t ≡ true → Strobed l i t
strobed l i Idle h sound e = absurd (false≢true e)
strobed l i (Open w s a b) (k, h) sound e =
    record {
      place = k;
      since = h.since;
      many = ap (λ x. x + one (strobe w (l i).start (l i).ack (l i).tm0)) h.seen ∙ ap (λ x. count (strobe_of l k) i + one x) (sym this);
      words = omega (arith, h.same, sound.low);
    }
  where
    this : strobe_of l k i ≡ strobe w (l i).start (l i).ack (l i).tm0
    this = rw (lt-ltb k i h.since.earlier, h.same)

-- ---- the wave
module _ (l : Lines) (i : ℕ) (w : Wave) (f : Forward l i) (h : WaveIs l i w) where
  -- too soon after its last START
  record Soon : Type 0 where
    place : ℕ
    last : ℕ
    began : Began l i place
    latest : LastStart l i place last
    ago : cycle l last + (w.since + gap l i) ≡ cycle l i

  sooner : asked_of w (gap l i) ≡ true → w.since + gap l i < 3 → Soon
  sooner e lt = by_last x.latest
    where
      x : Lasts l i w
      x = lasts l i w f h e

      by_last : Latest l i x.place w.since w.arb → Soon
      by_last (unstarted _ three _) = absurd (omega arith)
      by_last (started m v s c es ea) =
          record {
            place = x.place;
            last = m;
            began = x.began;
            latest = s;
            ago = by-test (ltb v 3) (λ t. let z : w.since ≡ v = es ∙ cond-true v 3 t in let y : cycle l m + (w.since + gap l i) ≡ cycle l i = omega arith in y) (λ t. let z : w.since ≡ 3 = es ∙ cond-false v 3 t in absurd (omega arith));
          }

  -- its last START has a lower ARB
  record Above : Type 0 where
    place : ℕ
    last : ℕ
    began : Began l i place
    latest : LastStart l i place last
    shows : w.arb ≡ (l last).arb

  higher : asked_of w (gap l i) ≡ true → w.arb < (l i).arb → (l i).arb ≤ 15 → Above
  higher e lt most = by_last x.latest
    where
      x : Lasts l i w
      x = lasts l i w f h e

      by_last : Latest l i x.place w.since w.arb → Above
      by_last (unstarted _ _ ea) = absurd (omega arith)
      by_last (started m v s c es ea) = record { place = x.place; last = m; began = x.began; latest = s; shows = ea }

-- ---- rule by rule
module _ (limit : ℕ) (r : Recording) (i : ℕ) (j : Judge) (h : JudgeIs limit r.lines i j) (most : (r.lines i).arb ≤ 15) where
  abbrev l : Lines
  l = r.lines

  abbrev d : ℕ
  d = gap l i

  abbrev Right : Rule → Type 0
  Right rule = (rule.number ≡ 0 → ⊥) → Found limit r i rule (figures_of rule j (taken_at r i) d)

  in_thirteenth : rule13 (is_open j.transfer) (open_words j.transfer) (open_strobes j.transfer) (l i).start (l i).ack (l i).tm1 (l i).tm0 ≡ false
      → Found limit r i (only 13) (figures (open_strobes j.transfer + one (strobe (open_words j.transfer) (l i).start (l i).ack (l i).tm0)) (open_words j.transfer - 1))
  in_thirteenth e =
      let x = strobed l i j.transfer h.transfer h.sound.transfer (busy (is_open j.transfer) e) in
      subst (λ n. Found limit r i (only 13) (figures n (open_words j.transfer - 1))) (sym x.many) (strobes x.place _ x.since x.words)
    where
      busy : (o : Bool) → rule13 o (open_words j.transfer) (open_strobes j.transfer) (l i).start (l i).ack (l i).tm1 (l i).tm0 ≡ false → o ≡ true
      busy true e = refl
      busy false e = absurd (false≢true (sym e))

  module _ (f : Forward l i) where
    in_fourth : rule4 (is_open j.transfer) (l i).start ≡ false → Found limit r i (only 4) (figures (open_busy j.transfer + d - 1) 0)
    in_fourth e = let x = aged l i j.transfer f h.transfer (busy (l i).start (is_open j.transfer) e) in opened x.place _ x.since x.ago
      where
        busy : (s o : Bool) → not (s && o) ≡ false → o ≡ true
        busy true true e = refl
        busy true false e = absurd (false≢true (sym e))
        busy false o e = absurd (false≢true (sym e))

    in_twelfth : rule12 (is_open j.transfer) (open_age j.transfer) d ≡ false → Found limit r i (only 12) (figures (open_age j.transfer + d) watchdog)
    in_twelfth e =
        let x = aged l i j.transfer f h.transfer (fails (is_open j.transfer) (leb (open_age j.transfer + d) watchdog) e).0 in old x.place x.word _ x.since x.from x.old

    in_eighth : rule8c (l i).start (asked_of j.wave d) (j.wave.since + d) ≡ false → Found limit r i kind8c (figures (j.wave.since + d) 3)
    in_eighth e =
        let z = fails ((l i).start && asked_of j.wave d) (leb 3 (j.wave.since + d)) e in
        let x = sooner l i j.wave f h.wave (and_both (l i).start (asked_of j.wave d) z.0).1 (leb-false 3 (j.wave.since + d) z.1) in
        soon x.place x.last _ x.began x.latest x.ago

    in_tenth : rule10 (l i).start (asked_of j.wave d) (l i).arb j.wave.arb ≡ false → Found limit r i (only 10) (figures (l i).arb j.wave.arb)
    in_tenth e =
        let z = fails ((l i).start && asked_of j.wave d) (leb (l i).arb j.wave.arb) e in
        let x = higher l i j.wave f h.wave (and_both (l i).start (asked_of j.wave d) z.0).1 (leb-false (l i).arb j.wave.arb z.1) most in
        subst (λ n. Found limit r i (only 10) (figures (l i).arb n)) (sym x.shows) (above x.place x.last x.began x.latest)

    in_eleventh : rule11 j.limit (l i).start (asked_of j.wave d) (l i).arb j.wave.arb j.wave.turn ≡ false → Found limit r i (only 11) (figures (j.wave.turn + 1) j.limit)
    in_eleventh e =
        let z = fails ((l i).start && asked_of j.wave d && eqb (l i).arb j.wave.arb) (ltb j.wave.turn j.limit) e in
        let y = and_both ((l i).start && asked_of j.wave d) (eqb (l i).arb j.wave.arb) z.0 in
        let x = lasts l i j.wave f h.wave (and_both (l i).start (asked_of j.wave d) y.0).1 in
        let same : j.wave.turn ≡ count (start_with l x.place (l i).arb) i = x.turn ∙ ap (λ a. count (start_with l x.place a) i) (sym (eqb-true (l i).arb j.wave.arb y.1)) in
        subst (λ n. Found limit r i (only 11) (figures (n + 1) j.limit)) (sym same)
        (subst (λ n. Found limit r i (only 11) (figures (count (start_with l x.place (l i).arb) i + 1) n)) (sym h.limited) (often x.place x.began))

    each-later : Each Right (later_rules j (l i) d)
    unfolding figures_of
    each-later =
        also (λ _ _. parity) (λ _.
        also (λ e _. in_fourth e) (λ _.
        also (λ _ _. fifth) (λ _.
        also (λ _ _. sixth) (λ _.
        also (λ _ _. seventh) (λ _.
        also (λ _ _. parked) (λ _.
        also (λ _ _. brief) (λ _.
        also (λ e _. in_eighth e) (λ _.
        also (λ _ _. ninth) (λ _.
        also (λ e _. in_tenth e) (λ _.
        also (λ e _. in_eleventh e) (λ _.
        also (λ e _. in_twelfth e) (λ _.
        also (λ e _. in_thirteenth e) (λ _. none (λ ne. absurd (ne refl)))))))))))))))

  forward : rule2 j.seen d ≡ true → Forward l i
  forward e = forward_to limit l i j h (λ lt. let z = and_both (leb 1 d) (leb d (2 ^ 31)) (implied j.seen _ e (h.seen ∙ lt-ltb 0 i lt)) in (leb-true 1 d z.0, leb-true d (2 ^ 31) z.1))

  each-rule : Each Right (rules_of j (taken_at r i) d)
  unfolding figures_of
  each-rule = also (λ _ _. spare) (λ _. also (λ _ _. stamp) (λ e. by_reset (l i).reset (forward e)))
    where
      by_reset : (b : Bool) → Forward l i → Each Right (cond b [] (later_rules j (l i) d))
      by_reset true f = none (λ ne. absurd (ne refl))
      by_reset false f = each-later f

  lowest-right : Right (rule_of j (taken_at r i) d)
  unfolding rule_of
  lowest-right = each-lowest Right (rules_of j (taken_at r i) d) each-rule

  -- THE FIGURES ARE THOSE OF THE RECORDING: the judge's state is that of the records before record i, and this is the lowest rule that the record breaks
  pub figures-right : (rule : Rule) → Breaks limit r i rule → Found limit r i rule (figures_of rule j (taken_at r i) (diff_of j (l i).stamp))
  figures-right rule b =
      subst (λ n. Found limit r i rule (figures_of rule j (taken_at r i) n)) (sym h.apart)
      (by_found (lowest-exact limit r i j h most))
    where
      name : Rule
      name = rule_of j (taken_at r i) d

      by_found : Lowest name (rules limit r i) → Found limit r i rule (figures_of rule j (taken_at r i) d)
      by_found (inl k) = absurd (kept-not (rules limit r i) rule k.1 b)
      by_found (inr k) = subst (λ n. Found limit r i n (figures_of n j (taken_at r i) d)) (first-only (rules limit r i) name rule k.1 b) (lowest-right k.0)
