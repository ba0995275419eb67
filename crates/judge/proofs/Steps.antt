-- Laws of one record judged, over plain values. Assumes nothing.
use Prim.Native.Nat.{ℕ, ◌+◌, ◌^◌, ◌≤◌, ◌<◌}
use mathlib.Core.Bool.{Bool, true, false, not, cond, ◌&&◌, false≢true}
use mathlib.Core.List.{List, [], ◌∷◌}
use mathlib.Core.Path.{◌≡◌, refl, sym, ap, subst, ◌∙◌}
use native.Mathlib.Omega.{arith}
use lib.Dec.{leb, ltb, eqb}
use borrow.Author.Tests.{eqb-true, eqb-false, ltb-true, leb-true, le-leb, le-ltb}
use Rattle.basics.specs.Order.{implies}
use Rattle.basics.proofs.Bools.{choice, cond-true, cond-false, by-test, and_both, both_and}
use Rattle.record.specs.declared.Record.{Record}
use lib.ListN.{length, take}
use Rattle.record.specs.Layout.{record_in}
use Rattle.record.specs.Packing.{lines_of, spare_of, too_few}
use Rattle.codes.specs.Parity.{parity_of}
use Rattle.rules.specs.declared.Judge.{Judge}
use Rattle.rules.specs.declared.Tally.{Tally}
use Rattle.rules.specs.declared.Wave.{Wave}
use Rattle.rules.specs.declared.Rule.{Rule}
use Rattle.rules.specs.declared.Progress.{Progress}
use Rattle.rules.specs.Names.{only}
use Rattle.rules.specs.Rules.{rule3}
use Rattle.rules.specs.State.{is_open, asked_of, wave_of, diff_of, reset_of, moved_of, judge_of, tally_of}
use Rattle.rules.specs.Bounds.{SoundJudge, SoundTally}
use Rattle.rules.specs.Run.{Taken, taken_in, lowest, later_rules, rule_of, from, broken, step_of}
use Rattle.rules.proofs.Laws.{AllHold, step_good, step_bad, step_sound}
use Rattle.judge.specs.Quick.{WaveKept, Ready, Plain, plainly}

pub not-holds : (a : Bool) → not a ≡ true → a ≡ false
not-holds true e = absurd (false≢true e)
not-holds false e = refl

-- a record as the code reads it: sixteen bytes are there
pub taken_of : (s : List ℕ) (lines : Record) (spare : ℕ) → 16 ≤ length s → lines ≡ lines_of s → spare ≡ spare_of s → ◌≡◌ {A = Taken} (record { lines = lines; spare = spare }) (taken_in (take 16 s))
unfolding lines_of spare_of too_few
taken_of s lines spare h e f =
    let few = le-ltb (length s) 16 h in
    ap (λ (x : Record). record { lines = x; spare = spare }) (e ∙ cond-false _ _ few) ∙ ap (λ (n : ℕ). record { lines = record_in (take 16 s); spare = n }) (f ∙ cond-false _ _ few)

-- ---- a record judged rule by rule, as the code has it
pub step_breach : (j : Judge) (t : Tally) (r : Taken) (d : ℕ) (rule : Rule) → d ≡ diff_of j r.lines.stamp → rule ≡ rule_of j r d → (rule.number ≡ 0 → ⊥) → broken rule d j t ≡ step_of j t r
step_breach j t r d rule ed er ne =
    let e = er ∙ ap (rule_of j r) ed in
    ap (λ (x : Rule). broken x d j t) e ∙ ap (λ (n : ℕ). broken (rule_of j r (diff_of j r.lines.stamp)) n j t) ed ∙ sym (step_bad j t r (λ z. ne (ap (λ (x : Rule). x.number) e ∙ z)))

pub step_moves : (j : Judge) (t : Tally) (r : Taken) (d rule : ℕ) (k : Judge) → d ≡ diff_of j r.lines.stamp → rule ≡ (rule_of j r d).number → rule ≡ 0 → k ≡ judge_of j r.lines d
    → from k (tally_of t (is_open j.transfer) r.lines.reset r.lines.start r.lines.ack d) ≡ step_of j t r
step_moves j t r d rule k ed er ez ek =
    ap (λ (x : Judge). from x (totals d)) ek ∙ ap (λ (n : ℕ). from (judge_of j r.lines n) (totals n)) ed ∙ sym (step_good j t r (sym (ap (λ (n : ℕ). (rule_of j r n).number) ed) ∙ sym er ∙ ez))
  where
    totals : ℕ → Tally
    totals n = tally_of t (is_open j.transfer) r.lines.reset r.lines.start r.lines.ack n

pub judge-reset : (j : Judge) (r : Record) (d : ℕ) → r.reset ≡ true → reset_of j r.stamp ≡ judge_of j r d
unfolding judge_of
judge-reset j r d e = sym (cond-true _ _ e)

pub judge_moved : (j : Judge) (r : Record) (d : ℕ) → r.reset ≡ false → moved_of j r d ≡ judge_of j r d
unfolding judge_of
judge_moved j r d e = sym (cond-false _ _ e)

-- ---- what every record leaves
abbrev AtMost3 : ℕ → Type 0
AtMost3 k = k ≤ 3

wave-kept : (w : Wave) (rqst start : Bool) (arb d : ℕ) → WaveKept (wave_of w rqst start arb d)
wave-kept w rqst start arb d =
    record {
      low = choice AtMost3 rqst (λ _. choice AtMost3 (start && asked_of w d) (λ _. omega arith) (λ _.
          choice AtMost3 (ltb (w.since + d) 3) (λ e. let z = ltb-true (w.since + d) 3 e in omega arith) (λ _. omega arith))) (λ _. omega arith);
      since = λ e. cond-false _ _ e;
      arb = λ e. cond-false _ _ e;
      turn = λ e. cond-false _ _ e;
    }

abbrev Left : Judge → Type 0
Left k = (k.seen ≡ true) × WaveKept k.wave

judge_left : (j : Judge) (r : Record) (d : ℕ) → Left (judge_of j r d)
unfolding judge_of
judge_left j r d =
    choice Left r.reset (λ _. (refl, record { low = omega arith; since = λ _. refl; arb = λ _. refl; turn = λ _. refl })) (λ _. (refl, wave-kept j.wave r.rqst r.start r.arb d))

pub step_ready : (j : Judge) (t : Tally) (r : Taken) → SoundJudge j → SoundTally t → r.lines.arb ≤ 15 → (step_of j t r).rule ≡ 0 → Ready (step_of j t r).judge (step_of j t r).tally
step_ready j t r hj ht la z =
    let h = step_sound j t r hj ht la in
    record { judge = h.judge; tally = h.tally; seen = left.0; wave = left.1 }
  where
    d : ℕ
    d = diff_of j r.lines.stamp

    left : Left (step_of j t r).judge
    left =
        by-test (eqb (rule_of j r d).number 0) (λ e. subst (λ (p : Progress). Left p.judge) (sym (step_good j t r (eqb-true _ 0 e))) (judge_left j r.lines d))
        (λ e. absurd (eqb-false (rule_of j r d).number 0 e (sym (ap (λ (p : Progress). p.rule) (step_bad j t r (eqb-false (rule_of j r d).number 0 e))) ∙ z)))

-- ---- a record that keeps every rule
lowest-none : (rs : List (Rule × Bool)) → AllHold rs → (lowest rs).number ≡ 0
lowest-none [] h = refl
lowest-none (r ∷ rs) h = ap (λ (t : Bool). (cond t (lowest rs) r.0).number) h.0 ∙ lowest-none rs h.1

implies_held : (a b : Bool) → b ≡ true → implies a b ≡ true
implies_held true b e = e
implies_held false b e = refl

none-broken : (j : Judge) (t : Tally) (r : Record) (d : ℕ) → Plain j t r d → AllHold (later_rules j r d) → (rule_of j (record { lines = r; spare = 0 }) d).number ≡ 0
unfolding rule_of
none-broken j t r d p a =
    ap (λ (b : Bool). (cond b (lowest (cond r.reset [] (later_rules j r d))) (only 2)).number) (implies_held j.seen _ (both_and (leb 1 d) (leb d (2 ^ 31)) (le-leb 1 d p.later) (le-leb d (2 ^ 31) p.within)))
    ∙ ap (λ (rs : List (Rule × Bool)). (lowest rs).number) (cond-false [] (later_rules j r d) p.alive)
    ∙ lowest-none (later_rules j r d) a

pub step_kept : (j : Judge) (t : Tally) (r : Record) (d : ℕ) → Plain j t r d → AllHold (later_rules j r d)
    → from (moved_of j r d) (tally_of t (is_open j.transfer) r.reset r.start r.ack d) ≡ step_of j t (record { lines = r; spare = 0 })
step_kept j t r d p a =
    step_moves j t (record { lines = r; spare = 0 }) d 0 (moved_of j r d) p.apart (sym (none-broken j t r d p a)) refl (judge_moved j r d p.alive)

-- ---- the quick way's first tests
pub plain_is : (j : Judge) (t : Tally) (r : Record) (spare d : ℕ) (odd right ok : Bool) → Ready j t → t.records < 2 ^ 30 → d ≡ diff_of j r.stamp → odd ≡ parity_of r.ad → right ≡ rule3 r.spv r.sp odd → ok ≡ plainly spare d r.reset right → ok ≡ true
    → Plain j t r d × (spare ≡ 0)
plain_is j t r spare d odd right ok h room apart eo er ek e =
    let a = and_both (eqb spare 0 && leb 1 d && leb d (2 ^ 31) && not r.reset) right (sym ek ∙ e) in
    let b = and_both (eqb spare 0 && leb 1 d && leb d (2 ^ 31)) (not r.reset) a.0 in
    let c = and_both (eqb spare 0 && leb 1 d) (leb d (2 ^ 31)) b.0 in
    let f = and_both (eqb spare 0) (leb 1 d) c.0 in (
      record {
        ready = h;
        room = room;
        apart = apart;
        later = leb-true 1 d f.1;
        within = leb-true d (2 ^ 31) c.1;
        alive = not-holds r.reset b.1;
        parity = ap (rule3 r.spv r.sp) (sym eo) ∙ sym er ∙ a.1;
      },
      eqb-true spare 0 f.0,
    )

-- what was judged with its spare bits zero
pub spare-none : (j : Judge) (t : Tally) (r : Record) (spare : ℕ) (p : Progress) → spare ≡ 0 → p ≡ step_of j t (record { lines = r; spare = 0 }) → p ≡ step_of j t (record { lines = r; spare = spare })
spare-none j t r spare p e f = f ∙ ap (λ (n : ℕ). step_of j t (record { lines = r; spare = n })) (sym e)
