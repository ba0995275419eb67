-- Where the judge stops, and that its state and its tally are then those of the records before that place. Assumes nothing.
use Prim.Native.Nat.{ℕ, zero, suc, ◌+◌, ◌*◌, ◌≤◌, ◌<◌}
use mathlib.Core.Bool.{Bool, true, false, not, cond, ◌&&◌, false≢true}
use mathlib.Core.List.{List, [], ◌∷◌}
use mathlib.Core.Path.{◌≡◌, refl, sym, ap, subst, ◌∙◌}
use mathlib.Core.Logic.{◌⊎◌, inl, inr}
use native.Mathlib.Omega.{arith}
use lib.ListN.{length, drop}
use lib.Seq.{drop-drop}
use lib.Dec.{eqb}
use borrow.Author.Tests.{eqb-true, eqb-false}
use Rattle.basics.specs.Lines.{one}
use Rattle.basics.proofs.Bools.{choice, and_both, by-test}
use Rattle.rules.specs.declared.Judge.{Judge}
use Rattle.rules.specs.declared.Tally.{Tally}
use Rattle.rules.specs.declared.Rule.{Rule}
use Rattle.rules.specs.declared.Progress.{Progress}
use Rattle.rules.specs.declared.Transfer.{Transfer}
use Rattle.rules.specs.declared.Transfer.TheVariants.{Idle, Open}
use Rattle.rules.specs.Names.{rule_in}
use Rattle.rules.specs.Rules.{rule4, rule5}
use Rattle.rules.specs.State.{is_open, transfer_of, fresh_judge, diff_of, judge_of, zero_tally, tally_of}
use Rattle.rules.specs.Run.{Taken, records_in, rule_of, span_of, from, broken, step_of, run_of}
use Rattle.rules.specs.Recording.{Lines, Recording, recording_in, sixteen, gap, cycle}
use Rattle.rules.specs.Thirteen.{rules, Keeps, Breaks}
use Rattle.rules.specs.Totals.{sum, Number, none, more, other, Aborts, Totals}
use Rattle.rules.specs.Verdict.{broken_by}
use Rattle.rules.specs.Exact.{span_at}
use Rattle.rules.proofs.Laws.{later-holds, after, step_good, step_bad, next_open, run_stopped, arb-le}
use Rattle.rules.proofs.Places.{below, clash, and_pair}
use Rattle.rules.proofs.Hold.{Held, open_exact}
use Rattle.rules.proofs.Step.{taken_at, JudgeIs, judge-fresh, judge-next, Found, lowest-exact}

-- ---- the totals
aborted-next : (r : Lines) (i c : ℕ) (t : Transfer) → Held r i t → Number (Aborts r) i c → (x : Bool) → (is_open t && (r i).reset) ≡ x → Number (Aborts r) (suc i) (c + one x)
aborted-next r i c t h n true e =
    let z = and_both (is_open t) (r i).reset e in
    more (z.1, (open_exact r i t h).0 z.0) n
aborted-next r i c t h n false e =
    subst (Number (Aborts r) (suc i)) (let z : c ≡ c + 0 = omega arith in z) (other (λ o. clash (and_pair ((open_exact r i t h).1 o.1) o.0) e) n)

totals-next : (r : Lines) (i : ℕ) (t : Tally) (b : Transfer) → Held r i b → Totals r i t → Totals r (suc i) (tally_of t (is_open b) (r i).reset (r i).start (r i).ack (gap r i))
totals-next r i t b h a =
    record {
      records = (let z = a.records in omega arith);
      span = ap (λ x. x + gap r i) a.span;
      starts = ap (λ x. x + one ((r i).start && not (r i).reset)) a.starts;
      acks = ap (λ x. x + one ((r i).ack && not (r i).reset)) a.acks;
      aborted = aborted-next r i t.aborted b h a.aborted (is_open b && (r i).reset) refl;
    }

-- ---- starts = acks + aborted + open
abbrev pub Balanced : Judge → Tally → Type 0
Balanced j t = t.starts ≡ t.acks + t.aborted + one (is_open j.transfer)

open_next : (t : Transfer) (start ack tm0 : Bool) (words d : ℕ) → is_open (transfer_of t start ack tm0 words d) ≡ cond ack false (cond start true (is_open t))
open_next t start true tm0 words d = refl
open_next t true false tm0 words d = refl
open_next Idle false false tm0 words d = refl
open_next (Open w s a b) false false tm0 words d = refl

-- a RESET record ends what was open
reset-balance : (reset start ack o : Bool) (x y z : ℕ) → reset ≡ true → x ≡ y + z + one o → x + one (start && not reset) ≡ y + one (ack && not reset) + (z + one (o && reset)) + 0
reset-balance false start ack o x y z e h = absurd (false≢true e)
reset-balance true true true true x y z e h = omega arith
reset-balance true true true false x y z e h = omega arith
reset-balance true true false true x y z e h = omega arith
reset-balance true true false false x y z e h = omega arith
reset-balance true false true true x y z e h = omega arith
reset-balance true false true false x y z e h = omega arith
reset-balance true false false true x y z e h = omega arith
reset-balance true false false false x y z e h = omega arith

-- rules 4 and 5 tell where a START and an ACK stand
plain-balance : (reset start ack o : Bool) (x y z : ℕ) → reset ≡ false → x ≡ y + z + one o → rule4 o start ≡ true → rule5 o start ack ≡ true → x + one (start && not reset) ≡ y + one (ack && not reset) + (z + one (o && reset)) + one (cond ack false (cond start true o))
plain-balance true start ack o x y z e h r4 r5 = absurd (false≢true (sym e))
plain-balance false true true true x y z e h r4 r5 = absurd (false≢true r4)
plain-balance false true true false x y z e h r4 r5 = omega arith
plain-balance false true false true x y z e h r4 r5 = absurd (false≢true r4)
plain-balance false true false false x y z e h r4 r5 = omega arith
plain-balance false false true true x y z e h r4 r5 = omega arith
plain-balance false false true false x y z e h r4 r5 = absurd (false≢true r5)
plain-balance false false false true x y z e h r4 r5 = omega arith
plain-balance false false false false x y z e h r4 r5 = omega arith

balance-next : (j : Judge) (t : Tally) (r : Taken) (d : ℕ) → (rule_of j r d).number ≡ 0 → Balanced j t → Balanced (judge_of j r.lines d) (tally_of t (is_open j.transfer) r.lines.reset r.lines.start r.lines.ack d)
unfolding judge_of
balance-next j t r d z h =
    let l = r.lines in
    let o = is_open j.transfer in
    let u = tally_of t o l.reset l.start l.ack d in
    choice (λ (x : Judge). Balanced x u) l.reset
    (λ e. reset-balance l.reset l.start l.ack o t.starts t.acks t.aborted e h)
    (λ e. let a = later-holds j r d z e in
    plain-balance l.reset l.start l.ack o t.starts t.acks t.aborted e h a.1.0 a.1.1.0
    ∙ ap (λ (x : Bool). u.acks + u.aborted + one x) (sym (open_next j.transfer l.start l.ack l.tm0 _ d)))

-- ---- before a record
-- the records before place i keep all rules, and the judge's state and the tally are theirs
pub record Before (limit : ℕ) (r : Recording) (i : ℕ) (j : Judge) (t : Tally) : Type 0 where
  pub judge : JudgeIs limit r.lines i j
  pub totals : Totals r.lines i t
  pub balance : Balanced j t
  pub good : (m : ℕ) → m < i → Keeps limit r m

pub before-fresh : (limit : ℕ) (r : Recording) → 1 ≤ limit → limit ≤ 16 → Before limit r 0 (fresh_judge limit) zero_tally
before-fresh limit r low high =
    record {
      judge = judge-fresh limit r.lines low high;
      totals = record { records = refl; span = refl; starts = refl; acks = refl; aborted = none };
      balance = refl;
      good = λ m lt. absurd (omega arith);
    }

kept_of_lem : (limit : ℕ) (r : Recording) (i : ℕ) (n : Rule) → n.number ≡ 0 → Found n (rules limit r i) → Keeps limit r i
kept_of_lem limit r i n z (inl k) = k.1
kept_of_lem limit r i n z (inr k) = absurd (k.0 z)

broken_of : (limit : ℕ) (r : Recording) (i : ℕ) (n : Rule) → (n.number ≡ 0 → ⊥) → Found n (rules limit r i) → Breaks limit r i n
broken_of limit r i n ne (inl k) = absurd (ne k.0)
broken_of limit r i n ne (inr k) = k.1

pub before-next : (limit : ℕ) (r : Recording) (i : ℕ) (j : Judge) (t : Tally) (d : ℕ) → Before limit r i j t → (r.lines i).arb ≤ 15 → d ≡ gap r.lines i → (rule_of j (taken_at r i) d).number ≡ 0
    → Before limit r (suc i) (judge_of j (r.lines i) d) (tally_of t (is_open j.transfer) (r.lines i).reset (r.lines i).start (r.lines i).ack d)
before-next limit r i j t d h la ed z =
    record {
      judge = subst (λ x. JudgeIs limit r.lines (suc i) (judge_of j (r.lines i) x)) (sym ed) (judge-next limit r i j h.judge la z');
      totals = subst (λ x. Totals r.lines (suc i) (tally_of t (is_open j.transfer) (r.lines i).reset (r.lines i).start (r.lines i).ack x)) (sym ed) (totals-next r.lines i t j.transfer h.judge.transfer h.totals);
      balance = balance-next j t (taken_at r i) d z h.balance;
      good = λ m lt. below m i lt (h.good m) (λ u. subst (Keeps limit r) (sym u) (kept_of_lem limit r i _ z' (lowest-exact limit r i j h.judge la)));
    }
  where
    z' : (rule_of j (taken_at r i) (gap r.lines i)).number ≡ 0
    z' = ap (λ x. (rule_of j (taken_at r i) x).number) (sym ed) ∙ z

-- ---- the span at a breach
-- the cycle in which record i stands is the sum of the differences, its own with them
pub cycle-sum : (r : Lines) (i : ℕ) → cycle r i ≡ sum (gap r) (suc i)
cycle-sum r zero = refl
cycle-sum r (suc i) = ap (λ x. x + gap r (suc i)) (cycle-sum r i)

-- the tally's span, and this record's difference where it counts, is the span that the recording has there
span-exact : (r : Lines) (i : ℕ) (t : Tally) (d number : ℕ) → Totals r i t → d ≡ gap r i → span_of t number d ≡ span_at r i number
span-exact r i t d number h e = rw (h.span, e, cycle-sum r i)

-- ---- a run
-- the records of the list stand in the recording from place i on
abbrev pub Listed : Recording → ℕ → List Taken → Type 0
Listed r i [] = Unit {0}
Listed r i (t ∷ ts) = (taken_at r i ≡ t) × Listed r (suc i) ts

-- how the judging of n records ends at this place: with all of them, or with the first record that breaks a rule and what is told of it
abbrev pub Ended : ℕ → Recording → ℕ → Progress → ℕ → Type 0
Ended limit r n p place =
    ((p.rule ≡ 0) × (place ≡ n))
    ⊎ ((p.rule ≡ 0 → ⊥) × (place < n) × Breaks limit r place (rule_in (broken_by p)) × (p.span ≡ span_at r.lines place p.rule))

-- where the judge has come of n records: through all of them, or to the first that breaks a rule
pub record Reached (limit : ℕ) (r : Recording) (n : ℕ) (p : Progress) : Type 0 where
  pub place : ℕ
  pub before : Before limit r place p.judge p.tally
  pub ends : Ended limit r n p place

reached_from : (limit : ℕ) (r : Recording) (n i : ℕ) (p : Progress) (ts : List Taken) → ((m : ℕ) → (r.lines m).arb ≤ 15) → Listed r i ts → n ≡ i + length ts → p.rule ≡ 0 → Before limit r i p.judge p.tally → Reached limit r n (run_of p ts)
reached_from limit r n i p [] la at en z h = record { place = i; before = h; ends = inl (z, omega arith) }
reached_from limit r n i p (x ∷ ts) la at en z h =
    by-test (eqb rule.number 0) (λ e. good (eqb-true rule.number 0 e) (reached_from limit r n (suc i) (after p.judge p.tally (taken_at r i)) ts la at.1 (omega arith) refl)) (λ e. bad (eqb-false rule.number 0 e))
  where
    d : ℕ
    d = diff_of p.judge (r.lines i).stamp

    rule : Rule
    rule = rule_of p.judge (taken_at r i) d

    same_run : run_of p (x ∷ ts) ≡ run_of (step_of p.judge p.tally (taken_at r i)) ts
    same_run = ap (λ (y : Progress). run_of y ts) (next_open p x z ∙ ap (step_of p.judge p.tally) (sym at.0))

    good : rule.number ≡ 0 → (Before limit r (suc i) (after p.judge p.tally (taken_at r i)).judge (after p.judge p.tally (taken_at r i)).tally → Reached limit r n (run_of (after p.judge p.tally (taken_at r i)) ts)) → Reached limit r n (run_of p (x ∷ ts))
    good e rest =
        subst (Reached limit r n) (sym (same_run ∙ ap (λ (y : Progress). run_of y ts) (step_good p.judge p.tally (taken_at r i) e)))
        (rest (before-next limit r i p.judge p.tally d h (la i) h.judge.apart e))

    bad : (rule.number ≡ 0 → ⊥) → Reached limit r n (run_of p (x ∷ ts))
    bad ne =
        subst (Reached limit r n) (sym (same_run ∙ ap (λ (y : Progress). run_of y ts) (step_bad p.judge p.tally (taken_at r i) ne) ∙ run_stopped (broken rule d p.judge p.tally) ts ne))
        (record {
          place = i;
          before = h;
          ends = inr (ne, omega arith, broken_of limit r i rule ne (subst (λ y. Found (rule_of p.judge (taken_at r i) y) (rules limit r i)) (sym h.judge.apart) (lowest-exact limit r i p.judge h.judge (la i))), span-exact r.lines i p.tally d rule.number h.totals h.judge.apart);
        })

pub listed : (bytes : List ℕ) (i n : ℕ) → Listed (recording_in bytes) i (records_in n (drop (i * 16) bytes))
listed bytes i zero = tt
listed bytes i (suc n) =
    let next : i * 16 + 16 ≡ suc i * 16 = omega arith in
    (refl, subst (λ x. Listed (recording_in bytes) (suc i) (records_in n x)) (sym (drop-drop 16 (i * 16) bytes ∙ ap (λ k. drop k bytes) next)) (listed bytes (suc i) n))

pub length-records : (n : ℕ) (bytes : List ℕ) → length (records_in n bytes) ≡ n
length-records zero bytes = refl
length-records (suc n) bytes = let z = length-records n (drop 16 bytes) in let y : length (records_in (suc n) bytes) ≡ suc n = omega arith in y

-- the first n records of the bytes, judged from the start
pub reached : (limit : ℕ) (bytes : List ℕ) (n : ℕ) → 1 ≤ limit → limit ≤ 16 → Reached limit (recording_in bytes) n (run_of (from (fresh_judge limit) zero_tally) (records_in n bytes))
reached limit bytes n low high =
    reached_from limit (recording_in bytes) n 0 (from (fresh_judge limit) zero_tally) (records_in n bytes) (λ m. arb-le (sixteen bytes m)) (listed bytes 0 n) (let z = length-records n bytes in omega arith) refl (before-fresh limit (recording_in bytes) low high)
