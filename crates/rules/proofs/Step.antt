-- The judge's state before record i is what the recording says, and the lowest rule that the judge finds is the recording's. Assumes nothing.
use Prim.Native.Nat.{ℕ, suc, ◌^◌, ◌≤◌, ◌<◌}
use mathlib.Core.Bool.{Bool, true, false, cond, ◌&&◌, beq, false≢true}
use mathlib.Core.List.{List, [], ◌∷◌}
use mathlib.Core.Path.{◌≡◌, refl, sym, subst}
use mathlib.Core.Logic.{◌↔◌, ◌⊎◌, inl, inr}
use native.Mathlib.Omega.{arith}
use lib.Dec.{ltb, leb}
use borrow.Author.Tests.{ltb-true, lt-ltb, eqb-true, eq-eqb}
use Rattle.basics.proofs.Bools.{choice}
use Rattle.record.specs.declared.Record.{Record}
use Rattle.codes.specs.Parity.{parity_of}
use Rattle.rules.specs.declared.Rule.{Rule}
use Rattle.rules.specs.declared.Judge.{Judge}
use Rattle.rules.specs.Names.{only, kind8a, kind8b, kind8c}
use Rattle.rules.specs.Rules.{rule2, rule3, rule6, rule10, rule11}
use Rattle.rules.specs.State.{asked_of, fresh_judge, diff_of, reset_of, moved_of, judge_of}
use Rattle.rules.specs.Bounds.{SoundJudge}
use Rattle.rules.specs.Run.{Taken, lowest, later_rules, rules_of, rule_of}
use Rattle.rules.specs.Recording.{Lines, Recording, gap}
use Rattle.rules.specs.Thirteen.{Rule2, Rule6, Rule11, from_third, rules, AllKept, FirstOf}
use Rattle.rules.proofs.Laws.{AllHold, later-holds, seventh, ninth, tenth, stamp-holds, fresh-sound, reset-sound, moved_sound}
use Rattle.rules.proofs.Places.{below, itself, and_iff, leb_iff, implies_iff, both_imply_iff}
use Rattle.rules.proofs.Hold.{Held, held_reset, held_next, rule4-exact, rule5-exact, rule7-exact, rule12-exact, rule13-exact}
use Rattle.rules.proofs.Ride.{Forward, WaveIs, wave-fresh, wave-reset, wave-next, rule8a-exact, rule8b-exact, rule8c-exact, rule9-exact, rule10-exact, rule11-exact}

-- the record at place i, as the judge takes it
abbrev pub taken_at : Recording → ℕ → Taken
taken_at r i = record { lines = r.lines i; spare = r.spare i }

-- what the judge's state says of the recording before record i
pub record JudgeIs (limit : ℕ) (r : Lines) (i : ℕ) (j : Judge) : Type 0 where
  pub limited : j.limit ≡ limit
  pub seen : j.seen ≡ ltb 0 i
  pub apart : diff_of j (r i).stamp ≡ gap r i
  pub transfer : Held r i j.transfer
  pub wave : WaveIs r i j.wave
  pub sound : SoundJudge j
  pub forward : (m : ℕ) → 1 ≤ m → m < i → 1 ≤ gap r m

pub judge-fresh : (limit : ℕ) (r : Lines) → 1 ≤ limit → limit ≤ 16 → JudgeIs limit r 0 (fresh_judge limit)
unfolding diff_of
judge-fresh limit r low high =
    record {
      limited = refl;
      seen = refl;
      apart = refl;
      transfer = λ k o. (let z = o.earlier in omega arith);
      wave = wave-fresh r;
      sound = fresh-sound limit low high;
      forward = λ m a b. absurd (omega arith);
    }

-- rule 2 up to record i
rule2-exact : (limit : ℕ) (r : Lines) (i : ℕ) (j : Judge) → JudgeIs limit r i j → (rule2 j.seen (gap r i) ≡ true) ↔ Rule2 r i
rule2-exact limit r i j h = rw h.seen
    (implies_iff (ltb 0 i) (leb 1 (gap r i) && leb (gap r i) (2 ^ 31)) (ltb-true 0 i, lt-ltb 0 i) (λ _.
    and_iff (leb 1 (gap r i)) (leb (gap r i) (2 ^ 31)) (leb_iff 1 (gap r i)) (leb_iff (gap r i) (2 ^ 31))))

pub forward_to : (limit : ℕ) (r : Lines) (i : ℕ) (j : Judge) → JudgeIs limit r i j → Rule2 r i → Forward r i
forward_to limit r i j h r2 m a le =
    below m i (let z : m < suc i = omega arith in z) (h.forward m a) (λ e. subst (λ x. 1 ≤ gap r x) (sym e) (r2 (omega arith)).0)

-- ---- a record that breaks no rule
next-reset : (limit : ℕ) (r : Lines) (i : ℕ) (j : Judge) → JudgeIs limit r i j → Forward r i → (r i).reset ≡ true → JudgeIs limit r (suc i) (reset_of j (r i).stamp)
unfolding diff_of
next-reset limit r i j h f e =
    record {
      limited = h.limited;
      seen = sym (lt-ltb 0 (suc i) (omega arith));
      apart = refl;
      transfer = held_reset r i e;
      wave = wave-reset r i e;
      sound = reset-sound j (r i).stamp h.sound;
      forward = λ m a lt. f m a (omega arith);
    }

next_moved : (limit : ℕ) (r : Lines) (i : ℕ) (j : Judge) → JudgeIs limit r i j → Forward r i → (r i).arb ≤ 15 → (r i).reset ≡ false → AllHold (later_rules j (r i) (gap r i)) → JudgeIs limit r (suc i) (moved_of j (r i) (gap r i))
unfolding diff_of
next_moved limit r i j h f la e a =
    record {
      limited = h.limited;
      seen = sym (lt-ltb 0 (suc i) (omega arith));
      apart = refl;
      transfer = held_next r i j.transfer h.transfer e ((rule7-exact r i).0 (seventh j (r i) (gap r i) a));
      wave = wave-next r i j.wave f h.wave e (ninth j (r i) (gap r i) a) (tenth j (r i) (gap r i) a);
      sound = moved_sound j (r i) (gap r i) h.sound la a;
      forward = λ m b lt. f m b (omega arith);
    }

pub judge-next : (limit : ℕ) (r : Recording) (i : ℕ) (j : Judge) → JudgeIs limit r.lines i j → (r.lines i).arb ≤ 15 → (rule_of j (taken_at r i) (gap r.lines i)).number ≡ 0
    → JudgeIs limit r.lines (suc i) (judge_of j (r.lines i) (gap r.lines i))
unfolding judge_of
judge-next limit r i j h la z =
    let d = gap r.lines i in
    let f = forward_to limit r.lines i j h ((rule2-exact limit r.lines i j h).0 (stamp-holds j (taken_at r i) d z)) in
    choice (JudgeIs limit r.lines (suc i)) (r.lines i).reset (λ e. next-reset limit r.lines i j h f e) (λ e. next_moved limit r.lines i j h f la e (later-holds j (taken_at r i) d z e))

-- ---- the lowest rule
-- no rule, and every rule of the list holds; or the first that does not
abbrev pub Found : Rule → List (Rule × Type 0) → Type 0
Found name ps = ((name.number ≡ 0) × AllKept ps) ⊎ ((name.number ≡ 0 → ⊥) × FirstOf name ps)

first : (b : Bool) (n rest : Rule) (A : Type 0) (ps : List (Rule × Type 0)) → 0 < n.number → (b ≡ true) ↔ A → (b ≡ true → A → Found rest ps) → Found (cond b rest n) ((n, A) ∷ ps)
first true n rest A ps pos p q = let a = p.0 refl in put a (q refl a)
  where
    put : A → Found rest ps → Found rest ((n, A) ∷ ps)
    put a (inl k) = inl (k.0, (a, k.1))
    put a (inr k) = inr (k.0, inr (a, k.1))
first false n rest A ps pos p q = inr ((λ e. omega arith), inl ((λ a. false≢true (p.1 a)), refl))

-- test by test, each exact where those before it hold
data Exactly : List (Rule × Bool) → List (Rule × Type 0) → Type 1 where
  none : Exactly [] []
  also : {b : Bool} {A : Type 0} {ts : List (Rule × Bool)} {ps : List (Rule × Type 0)} (n : Rule) → 0 < n.number → (b ≡ true) ↔ A → (b ≡ true → A → Exactly ts ps) → Exactly ((n, b) ∷ ts) ((n, A) ∷ ps)

found_of : (ts : List (Rule × Bool)) (ps : List (Rule × Type 0)) → Exactly ts ps → Found (lowest ts) ps
found_of _ _ none = inl (refl, tt)
found_of _ _ (also {b} {A} {ts} {ps} n pos p q) = first b n (lowest ts) A ps pos p (λ e a. found_of ts ps (q e a))

rule3-exact : (r : Record) → (rule3 r.spv r.sp (parity_of r.ad) ≡ true) ↔ (r.spv ≡ true → r.sp ≡ parity_of r.ad)
rule3-exact r = implies_iff r.spv (beq r.sp (parity_of r.ad)) (itself r.spv) (λ _. equal r.sp (parity_of r.ad))
  where
    equal : (a b : Bool) → (beq a b ≡ true) ↔ (a ≡ b)
    equal true true = (λ _. refl, λ _. refl)
    equal true false = (λ e. absurd (false≢true e), λ e. sym e)
    equal false true = (λ e. absurd (false≢true e), λ e. e)
    equal false false = (λ _. refl, λ _. refl)

rule6-exact : (r : Lines) (i : ℕ) → (rule6 (r i).start (r i).ack (r i).tm1 (r i).tm0 ≡ true) ↔ Rule6 r i
rule6-exact r i =
    both_imply_iff (r i).start (r i).ack ((r i).tm1 && (r i).tm0) (itself (r i).start) (itself (r i).ack) (λ _ _. and_iff (r i).tm1 (r i).tm0 (itself (r i).tm1) (itself (r i).tm0))

later-exact : (limit : ℕ) (r : Lines) (i : ℕ) (j : Judge) → JudgeIs limit r i j → (r i).arb ≤ 15 → Forward r i → Exactly (later_rules j (r i) (gap r i)) (from_third limit r i)
later-exact limit r i j h la f =
    also (only 3) (omega arith) (rule3-exact (r i)) (λ _ _.
    also (only 4) (omega arith) (rule4-exact r i j.transfer h.transfer) (λ _ _.
    also (only 5) (omega arith) (rule5-exact r i j.transfer h.transfer) (λ _ _.
    also (only 6) (omega arith) (rule6-exact r i) (λ _ _.
    also (only 7) (omega arith) (rule7-exact r i) (λ _ _.
    also kind8a (omega arith) (rule8a-exact r i j.wave f h.wave) (λ _ _.
    also kind8b (omega arith) (rule8b-exact r i j.wave f h.wave) (λ _ _.
    also kind8c (omega arith) (rule8c-exact r i j.wave f h.wave) (λ _ _.
    also (only 9) (omega arith) (rule9-exact r i j.wave h.wave) (λ _ _.
    also (only 10) (omega arith) (rule10-exact r i j.wave f h.wave la) (λ falls _.
    also (only 11) (omega arith) (rule11-here falls) (λ _ _.
    also (only 12) (omega arith) (rule12-exact r i j.transfer h.transfer) (λ _ _.
    also (only 13) (omega arith) (rule13-exact r i j.transfer h.transfer h.sound.transfer) (λ _ _. none)))))))))))))
  where
    rule11-here : rule10 (r i).start (asked_of j.wave (gap r i)) (r i).arb j.wave.arb ≡ true → (rule11 j.limit (r i).start (asked_of j.wave (gap r i)) (r i).arb j.wave.arb j.wave.turn ≡ true) ↔ Rule11 limit r i
    rule11-here falls = subst (λ n. (rule11 j.limit (r i).start (asked_of j.wave (gap r i)) (r i).arb j.wave.arb j.wave.turn ≡ true) ↔ Rule11 n r i) h.limited
        (rule11-exact j.limit r i j.wave h.sound.low f h.wave falls)

pub lowest-exact : (limit : ℕ) (r : Recording) (i : ℕ) (j : Judge) → JudgeIs limit r.lines i j → (r.lines i).arb ≤ 15 → Found (rule_of j (taken_at r i) (gap r.lines i)) (rules limit r i)
unfolding rule_of
lowest-exact limit r i j h la =
    found_of (rules_of j (taken_at r i) d) (rules limit r i)
    (also (only 1) (omega arith) (eqb-true (r.spare i) 0, eq-eqb (r.spare i) 0) (λ _ _.
    also (only 2) (omega arith) (rule2-exact limit l i j h) (λ _ r2. by_reset (l i).reset (forward_to limit l i j h r2))))
  where
    l : Lines
    l = r.lines

    d : ℕ
    d = gap l i

    by_reset : (b : Bool) → Forward l i → Exactly (cond b [] (later_rules j (l i) d)) (cond b [] (from_third limit l i))
    by_reset true f = none
    by_reset false f = later-exact limit l i j h la f
