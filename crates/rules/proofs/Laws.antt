-- Laws of the judge's working form, over plain values: steps and runs, the bounds each way and that they are kept, and a call's refusals.
-- Assumes nothing.
use Prim.Native.Nat.{ℕ, zero, suc, ◌+◌, ◌-◌, ◌*◌, ◌/◌, ◌%◌, ◌^◌, ◌≤◌}
use mathlib.Core.Bool.{Bool, true, false, not, cond, ◌&&◌}
use mathlib.Core.List.{List, [], ◌∷◌, ◌++◌}
use mathlib.Core.Path.{◌≡◌, refl, sym, ap, ◌∙◌}
use native.Mathlib.Omega.{arith}
use native.Mathlib.Nat.{zero-add, suc-add}
use lib.ListN.{take, drop, length, length-drop, length-append}
use lib.Seq.{take-append-le, drop-append-le}
use lib.Dec.{leb, ltb, eqb}
use borrow.Author.Tests.{eq-eqb, ne_eqb, leb-true, ltb-true, eqb-true, eqb-false, le-leb, lt-ltb}
use Rattle.std.specs.Prelude.{Option, Some, None}
use Rattle.basics.specs.Lines.{one}
use Rattle.basics.specs.Order.{unless}
use Rattle.basics.proofs.Bools.{choice, push, cond-true, cond-false, and_both, both_and, implied}
use Rattle.record.specs.declared.Record.{Record}
use Rattle.record.specs.Layout.{record_in, fields_in}
use Rattle.rules.specs.declared.Judge.{Judge}
use Rattle.rules.specs.declared.Wave.{Wave}
use Rattle.rules.specs.declared.Tally.{Tally}
use Rattle.rules.specs.declared.Rule.{Rule}
use Rattle.rules.specs.declared.Progress.{Progress}
use Rattle.rules.specs.declared.Transfer.{Transfer}
use Rattle.rules.specs.declared.Transfer.TheVariants.{Idle, Open}
use Rattle.basics.specs.Numbers.{watchdog, lawful_limit}
use Rattle.basics.specs.Order.{implies}
use Rattle.codes.specs.Owed.{words_of}
use Rattle.codes.proofs.OwedLaws.{owed_most}
use Rattle.rules.specs.Names.{only}
use Rattle.rules.specs.Rules.{difference, strobe, rule1, rule2, rule7, rule9, rule10, rule11, rule12, rule13, rule13a, rule13b}
use Rattle.rules.specs.State.{is_open, open_words, open_strobes, open_age, aged_of, transfer_of, asked_of, wave_of, fresh_judge, diff_of, reset_of, moved_of, judge_of, tally_of}
use Rattle.rules.specs.Bounds.{transfer_bounds, owner_bounds, judge_bounds, tally_bounds, SoundOpen, SoundTransfer, SoundOwner, SoundJudge, SoundTally}
use Rattle.rules.specs.Run.{Taken, taken_in, records_in, lowest, later_rules, rule_of, from, broken, step_of, next_of, run_of}
use Rattle.rules.specs.Verdict.{most_records, refusal_of, refused_by, outcome_in, outcome_of}

-- ---- tests
-- where the first part holds, the second does
pub unless-zero : (b : Bool) (n rest : ℕ) → ltb 0 n ≡ true → unless b n rest ≡ 0 → (b ≡ true) × (rest ≡ 0)
unless-zero true n rest p e = (refl, e)
unless-zero false n rest p e = absurd (let h = ltb-true 0 n p in omega arith)

unless_held : {b : Bool} (n rest : ℕ) → b ≡ true → rest ≡ 0 → unless b n rest ≡ 0
unless_held n rest e z = ap (λ (t : Bool). unless t n rest) e ∙ z

-- a count that a record raises by one at most stays within the records
count-le : (c n : ℕ) (b : Bool) → c ≤ n → c + one b ≤ n + 1
count-le c n true h = omega arith
count-le c n false h = omega arith

-- ---- the rules that a record keeps
-- every rule of the list holds
abbrev pub AllHold : List (Rule × Bool) → Type 0
AllHold [] = Unit {0}
AllHold (r ∷ rs) = (r.1 ≡ true) × AllHold rs

abbrev numbered : List (Rule × Bool) → Bool
numbered [] = true
numbered (r ∷ rs) = ltb 0 r.0.number && numbered rs

lowest-zero : (r : Rule × Bool) (rs : List (Rule × Bool)) → ltb 0 r.0.number ≡ true → (lowest (r ∷ rs)).number ≡ 0 → (r.1 ≡ true) × ((lowest rs).number ≡ 0)
lowest-zero (name, true) rs p e = (refl, e)
lowest-zero (name, false) rs p e = absurd (let h = ltb-true 0 name.number p in omega arith)

lowest-all : (rs : List (Rule × Bool)) → numbered rs ≡ true → (lowest rs).number ≡ 0 → AllHold rs
lowest-all [] n e = tt
lowest-all (r ∷ rs) n e =
    let p = and_both (ltb 0 r.0.number) (numbered rs) n in
    let q = lowest-zero r rs p.0 e in
    (q.0, lowest-all rs p.1 q.1)

-- behind rule 1
first_held : (j : Judge) (r : Taken) (d : ℕ) → (rule_of j r d).number ≡ 0 → (lowest ((only 2, rule2 j.seen d) ∷ cond r.lines.reset [] (later_rules j r.lines d))).number ≡ 0
unfolding rule_of
first_held j r d e = (lowest-zero (only 1, rule1 r.spare) ((only 2, rule2 j.seen d) ∷ cond r.lines.reset [] (later_rules j r.lines d)) refl e).1

-- a record that breaks no rule and has no RESET keeps each rule from 3 up
pub later-holds : (j : Judge) (r : Taken) (d : ℕ) → (rule_of j r d).number ≡ 0 → r.lines.reset ≡ false → AllHold (later_rules j r.lines d)
unfolding rule_of
later-holds j r d e n =
    let rest = cond r.lines.reset [] (later_rules j r.lines d) in
    let b = (lowest-zero (only 2, rule2 j.seen d) rest refl (first_held j r d e)).1 in
    lowest-all (later_rules j r.lines d) refl (ap (λ (rs : List (Rule × Bool)). (lowest rs).number) (sym (cond-false [] (later_rules j r.lines d) n)) ∙ b)

-- some of them, by name
module _ (j : Judge) (r : Record) (d : ℕ) (a : AllHold (later_rules j r d)) where
  pub seventh : rule7 r.start r.ack (words_of r.tm0 r.ad) ≡ true
  seventh = a.1.1.1.1.0

  -- the three kinds of rule 8 stand before
  pub ninth : rule9 j.wave.rqst d r.rqst r.start ≡ true
  ninth = a.1.1.1.1.1.1.1.1.0

  pub tenth : rule10 r.start (asked_of j.wave d) r.arb j.wave.arb ≡ true
  tenth = a.1.1.1.1.1.1.1.1.1.0

  pub eleventh : rule11 j.limit r.start (asked_of j.wave d) r.arb j.wave.arb j.wave.turn ≡ true
  eleventh = a.1.1.1.1.1.1.1.1.1.1.0

  pub twelfth : rule12 (is_open j.transfer) (open_age j.transfer) d ≡ true
  twelfth = a.1.1.1.1.1.1.1.1.1.1.1.0

  pub thirteenth : rule13 (is_open j.transfer) (open_words j.transfer) (open_strobes j.transfer) r.start r.ack r.tm1 r.tm0 ≡ true
  thirteenth = a.1.1.1.1.1.1.1.1.1.1.1.1.0

-- rule 2, of any record that breaks none
pub stamp-holds : (j : Judge) (r : Taken) (d : ℕ) → (rule_of j r d).number ≡ 0 → rule2 j.seen d ≡ true
unfolding rule_of
stamp-holds j r d e = (lowest-zero (only 2, rule2 j.seen d) (cond r.lines.reset [] (later_rules j r.lines d)) refl (first_held j r d e)).0

-- ---- steps and runs
-- the state and the tally after a record that breaks no rule
abbrev pub after : Judge → Tally → Taken → Progress
after j t r =
    let d = diff_of j r.lines.stamp in
    from (judge_of j r.lines d) (tally_of t (is_open j.transfer) r.lines.reset r.lines.start r.lines.ack d)

pub step_good : (j : Judge) (t : Tally) (r : Taken) → (rule_of j r (diff_of j r.lines.stamp)).number ≡ 0 → step_of j t r ≡ after j t r
unfolding step_of
step_good j t r e = cond-true _ _ (eq-eqb _ 0 e)

pub step_bad : (j : Judge) (t : Tally) (r : Taken) → ((rule_of j r (diff_of j r.lines.stamp)).number ≡ 0 → ⊥) → step_of j t r ≡ broken (rule_of j r (diff_of j r.lines.stamp)) (diff_of j r.lines.stamp) j t
unfolding step_of
step_bad j t r ne = cond-false _ _ (ne_eqb _ 0 ne)

pub next_open : (p : Progress) (r : Taken) → p.rule ≡ 0 → next_of p r ≡ step_of p.judge p.tally r
unfolding next_of
next_open p r e = cond-true _ _ (eq-eqb p.rule 0 e)

pub next_stopped : (p : Progress) (r : Taken) → (p.rule ≡ 0 → ⊥) → next_of p r ≡ p
unfolding next_of
next_stopped p r ne = cond-false _ _ (ne_eqb p.rule 0 ne)

-- after a breach nothing changes
pub run_stopped : (p : Progress) (rs : List Taken) → (p.rule ≡ 0 → ⊥) → run_of p rs ≡ p
run_stopped p [] ne = refl
run_stopped p (r ∷ rs) ne = ap (λ (x : Progress). run_of x rs) (next_stopped p r ne) ∙ run_stopped p rs ne

-- a progress without a breach is its state and its tally, and no more
abbrev pub Tidy : Progress → Type 0
Tidy p = p.rule ≡ 0 → p ≡ from p.judge p.tally

pub step_tidy : (j : Judge) (t : Tally) (r : Taken) → Tidy (step_of j t r)
unfolding step_of
step_tidy j t r =
    let name = rule_of j r (diff_of j r.lines.stamp) in
    choice Tidy (eqb name.number 0) (λ _ _. refl) (λ e z. absurd (eqb-false name.number 0 e z))

next_tidy : (p : Progress) (r : Taken) → Tidy p → Tidy (next_of p r)
unfolding next_of
next_tidy p r h = choice Tidy (eqb p.rule 0) (λ _. step_tidy p.judge p.tally r) (λ _. h)

pub run_tidy : (p : Progress) (rs : List Taken) → Tidy p → Tidy (run_of p rs)
run_tidy p [] h = h
run_tidy p (r ∷ rs) h = run_tidy (next_of p r) rs (next_tidy p r h)

-- of a run from the start
pub run_open : (j : Judge) (t : Tally) (rs : List Taken) → Tidy (run_of (from j t) rs)
run_open j t rs = run_tidy (from j t) rs (λ _. refl)

-- a recording judged in two parts
pub run_append : (p : Progress) (a b : List Taken) → run_of p (a ++ b) ≡ run_of (run_of p a) b
run_append p [] b = refl
run_append p (r ∷ a) b = run_append (next_of p r) a b

pub records-append : (m n : ℕ) (a b : List ℕ) → length a ≡ m * 16 → records_in (m + n) (a ++ b) ≡ records_in m a ++ records_in n b
records-append zero n [] b e = ap (λ (k : ℕ). records_in k b) (zero-add n)
records-append zero n (x ∷ a) b e = absurd (omega arith)
records-append (suc m) n a b e =
    let le : 16 ≤ length a = omega arith in
    let rest : length (drop 16 a) ≡ m * 16 = length-drop 16 a ∙ (let z : length a - 16 ≡ m * 16 = omega arith in z) in
    ap (λ (k : ℕ). records_in k (a ++ b)) (suc-add m n)
    ∙ ap (λ (x : List ℕ). taken_in x ∷ records_in (m + n) (drop 16 (a ++ b))) (take-append-le 16 a b le)
    ∙ ap (λ (x : List ℕ). taken_in (take 16 a) ∷ records_in (m + n) x) (drop-append-le 16 a b le)
    ∙ ap (λ (x : List Taken). taken_in (take 16 a) ∷ x) (records-append m n (drop 16 a) b rest)

-- the same of bytes, the first part being whole records
pub run_parts : (p : Progress) (a b : List ℕ) → length a % 16 ≡ 0 → run_of p (records_in (length (a ++ b) / 16) (a ++ b)) ≡ run_of (run_of p (records_in (length a / 16) a)) (records_in (length b / 16) b)
run_parts p a b e =
    let n : length (a ++ b) / 16 ≡ length a / 16 + length b / 16 = omega (arith, length-append a b) in
    let w : length a ≡ length a / 16 * 16 = omega arith in
    ap (λ (k : ℕ). run_of p (records_in k (a ++ b))) n
    ∙ ap (run_of p) (records-append (length a / 16) (length b / 16) a b w)
    ∙ run_append p (records_in (length a / 16) a) (records_in (length b / 16) b)

-- ---- the bounds, from tests to facts and back
transfer-sound : (t : Transfer) → transfer_bounds t ≡ true → SoundTransfer t
transfer-sound Idle e = tt
transfer-sound (Open w s a b) e =
    let o = and_both (leb 1 w && leb w 16 && ltb s w && leb a watchdog) (leb b (watchdog * s + a + 1)) e in
    let p = and_both (leb 1 w && leb w 16 && ltb s w) (leb a watchdog) o.0 in
    let q = and_both (leb 1 w && leb w 16) (ltb s w) p.0 in
    let r = and_both (leb 1 w) (leb w 16) q.0 in
    record { low = leb-true 1 w r.0; high = leb-true w 16 r.1; few = ltb-true s w q.1; young = leb-true a watchdog p.1; spent = leb-true b (watchdog * s + a + 1) o.1 }

sound-transfer : (t : Transfer) → SoundTransfer t → transfer_bounds t ≡ true
sound-transfer Idle h = refl
sound-transfer (Open w s a b) h =
    both_and _ _ (both_and _ _ (both_and _ _ (both_and _ _ (le-leb 1 w h.low) (le-leb w 16 h.high)) (lt-ltb s w h.few)) (le-leb a watchdog h.young)) (le-leb b (watchdog * s + a + 1) h.spent)

owner-sound : (o : Option ℕ) → owner_bounds o ≡ true → SoundOwner o
owner-sound None e = tt
owner-sound (Some s) e = leb-true s 15 e

sound-owner : (o : Option ℕ) → SoundOwner o → owner_bounds o ≡ true
sound-owner None h = refl
sound-owner (Some s) h = le-leb s 15 h

pub judge-sound : (j : Judge) → judge_bounds j ≡ true → SoundJudge j
unfolding judge_bounds
judge-sound j e =
    let o = and_both (lawful_limit j.limit && transfer_bounds j.transfer && leb j.wave.turn j.limit && leb j.wave.arb 15) (owner_bounds j.wave.owner) e in
    let p = and_both (lawful_limit j.limit && transfer_bounds j.transfer && leb j.wave.turn j.limit) (leb j.wave.arb 15) o.0 in
    let q = and_both (lawful_limit j.limit && transfer_bounds j.transfer) (leb j.wave.turn j.limit) p.0 in
    let r = and_both (lawful_limit j.limit) (transfer_bounds j.transfer) q.0 in
    let u = and_both (leb 1 j.limit) (leb j.limit 16) r.0 in
    record {
      low = leb-true 1 j.limit u.0;
      high = leb-true j.limit 16 u.1;
      transfer = transfer-sound j.transfer r.1;
      turn = leb-true j.wave.turn j.limit q.1;
      arb = leb-true j.wave.arb 15 p.1;
      owner = owner-sound j.wave.owner o.1;
    }

pub sound-judge : (j : Judge) → SoundJudge j → judge_bounds j ≡ true
unfolding judge_bounds
sound-judge j h =
    both_and _ _
    (both_and _ _
    (both_and _ _
    (both_and _ _ (both_and _ _ (le-leb 1 j.limit h.low) (le-leb j.limit 16 h.high)) (sound-transfer j.transfer h.transfer))
    (le-leb j.wave.turn j.limit h.turn))
    (le-leb j.wave.arb 15 h.arb))
    (sound-owner j.wave.owner h.owner)

pub tally-sound : (t : Tally) → tally_bounds t ≡ true → SoundTally t
unfolding tally_bounds
tally-sound t e =
    let p = and_both (leb t.span (2 ^ 31 * t.records) && leb t.starts t.records && leb t.acks t.records) (leb t.aborted t.records) e in
    let q = and_both (leb t.span (2 ^ 31 * t.records) && leb t.starts t.records) (leb t.acks t.records) p.0 in
    let r = and_both (leb t.span (2 ^ 31 * t.records)) (leb t.starts t.records) q.0 in
    record {
      span = leb-true t.span (2 ^ 31 * t.records) r.0;
      starts = leb-true t.starts t.records r.1;
      acks = leb-true t.acks t.records q.1;
      aborted = leb-true t.aborted t.records p.1;
    }

pub sound-tally : (t : Tally) → SoundTally t → tally_bounds t ≡ true
unfolding tally_bounds
sound-tally t h =
    both_and _ _
    (both_and _ _
    (both_and _ _ (le-leb t.span (2 ^ 31 * t.records) h.span) (le-leb t.starts t.records h.starts))
    (le-leb t.acks t.records h.acks))
    (le-leb t.aborted t.records h.aborted)

-- ---- the bounds are kept
aged-sound : (t : Transfer) (start ack tm1 tm0 : Bool) (d : ℕ) → SoundTransfer t → rule12 (is_open t) (open_age t) d ≡ true → rule13 (is_open t) (open_words t) (open_strobes t) start ack tm1 tm0 ≡ true → SoundTransfer (aged_of t start ack tm0 d)
aged-sound Idle start ack tm1 tm0 d h r12 r13 = tt
aged-sound (Open w s a b) start ack tm1 tm0 d h r12 r13 =
    struck (strobe w start ack tm0) (and_both (rule13a true w s start ack tm0) (rule13b true w s ack tm1 tm0) r13).0
  where
    old : a + d ≤ watchdog
    old = leb-true (a + d) watchdog r12

    struck : (x : Bool) → implies x (ltb (s + 1) w) ≡ true → SoundOpen w (s + one x) (cond x 0 (a + d)) (b + d)
    struck true e = record { low = h.low; high = h.high; few = ltb-true (s + 1) w e; young = omega arith; spent = omega (arith, old, h.spent) }
    struck false e = record { low = h.low; high = h.high; few = omega (arith, h.few); young = old; spent = omega (arith, h.spent) }

transfer-kept : (t : Transfer) (start ack tm1 tm0 : Bool) (ad d : ℕ) → SoundTransfer t → rule7 start ack (words_of tm0 ad) ≡ true → rule12 (is_open t) (open_age t) d ≡ true → rule13 (is_open t) (open_words t) (open_strobes t) start ack tm1 tm0 ≡ true
    → SoundTransfer (transfer_of t start ack tm0 (words_of tm0 ad) d)
transfer-kept t start ack tm1 tm0 ad d h r7 r12 r13 =
    choice SoundTransfer ack (λ _. tt) (λ na.
    choice SoundTransfer start (λ st.
    let some = ltb-true 0 (words_of tm0 ad) (implied (start && not ack) _ r7 (both_and start (not ack) st (ap not na))) in
    record { low = some; high = owed_most tm0 ad; few = some; young = omega arith; spent = omega arith })
    (λ _. aged-sound t start ack tm1 tm0 d h r12 r13))

turn-kept : (limit : ℕ) (w : Wave) (rqst start : Bool) (arb d : ℕ) → 1 ≤ limit → w.turn ≤ limit → rule11 limit start (asked_of w d) arb w.arb w.turn ≡ true → (wave_of w rqst start arb d).turn ≤ limit
turn-kept limit w rqst start arb d low h r =
    let P : ℕ → Type 0 = λ k. k ≤ limit in
    choice P rqst (λ _.
    choice P (start && asked_of w d) (λ s.
    choice P (eqb arb w.arb) (λ e.
    let q = ltb-true w.turn limit (implied (start && asked_of w d && eqb arb w.arb) _ r (both_and _ _ s e)) in omega arith)
    (λ _. low)) (λ _. h)) (λ _. omega arith)

arb-kept : (w : Wave) (rqst start : Bool) (arb d : ℕ) → arb ≤ 15 → w.arb ≤ 15 → (wave_of w rqst start arb d).arb ≤ 15
arb-kept w rqst start arb d la wa =
    let P : ℕ → Type 0 = λ k. k ≤ 15 in
    choice P rqst (λ _. choice P (start && asked_of w d) (λ _. la) (λ _. wa)) (λ _. omega arith)

owner-kept : (w : Wave) (rqst start : Bool) (arb d : ℕ) → arb ≤ 15 → SoundOwner w.owner → SoundOwner (wave_of w rqst start arb d).owner
owner-kept w rqst start arb d la wo =
    owner-sound (wave_of w rqst start arb d).owner (simp (push owner_bounds, le-leb arb 15 la, sound-owner w.owner wo, one_way))
  where
    one_way : (b : Bool) → cond b true true ≡ true
    one_way true = refl
    one_way false = refl

pub moved_sound : (j : Judge) (r : Record) (d : ℕ) → SoundJudge j → r.arb ≤ 15 → AllHold (later_rules j r d) → SoundJudge (moved_of j r d)
moved_sound j r d h la a =
    record {
      low = h.low;
      high = h.high;
      transfer = transfer-kept j.transfer r.start r.ack r.tm1 r.tm0 r.ad d h.transfer (seventh j r d a) (twelfth j r d a) (thirteenth j r d a);
      turn = turn-kept j.limit j.wave r.rqst r.start r.arb d h.low h.turn (eleventh j r d a);
      arb = arb-kept j.wave r.rqst r.start r.arb d la h.arb;
      owner = owner-kept j.wave r.rqst r.start r.arb d la h.owner;
    }

pub fresh-sound : (limit : ℕ) → 1 ≤ limit → limit ≤ 16 → SoundJudge (fresh_judge limit)
fresh-sound limit low high = record { low = low; high = high; transfer = tt; turn = omega arith; arb = omega arith; owner = tt }

pub reset-sound : (j : Judge) (stamp : ℕ) → SoundJudge j → SoundJudge (reset_of j stamp)
reset-sound j stamp h = record { low = h.low; high = h.high; transfer = tt; turn = omega arith; arb = omega arith; owner = tt }

pub judge-kept : (j : Judge) (r : Taken) (d : ℕ) → SoundJudge j → r.lines.arb ≤ 15 → (rule_of j r d).number ≡ 0 → SoundJudge (judge_of j r.lines d)
unfolding judge_of
judge-kept j r d h la z =
    choice SoundJudge r.lines.reset (λ _. reset-sound j r.lines.stamp h) (λ n. moved_sound j r.lines d h la (later-holds j r d z n))

-- the difference that a record may have
pub diff_le : (j : Judge) (stamp : ℕ) → rule2 j.seen (diff_of j stamp) ≡ true → diff_of j stamp ≤ 2 ^ 31
unfolding diff_of
diff_le j stamp = le_by j.seen (difference j.stamp stamp)
  where
    le_by : (b : Bool) (n : ℕ) → rule2 b (cond b n 0) ≡ true → cond b n 0 ≤ 2 ^ 31
    le_by true n e = leb-true n (2 ^ 31) (and_both (leb 1 n) (leb n (2 ^ 31)) e).1
    le_by false n e = omega arith

pub tally-kept : (t : Tally) (busy reset start ack : Bool) (d : ℕ) → SoundTally t → d ≤ 2 ^ 31 → SoundTally (tally_of t busy reset start ack d)
tally-kept t busy reset start ack d h le =
    let s = h.span in
    record { span = omega arith; starts = search (count-le, h.starts); acks = search (count-le, h.acks); aborted = search (count-le, h.aborted) }

-- what a run keeps: the bounds, and no more records counted than there are
pub record SoundProgress (n : ℕ) (p : Progress) : Type 0 where
  pub judge : SoundJudge p.judge
  pub tally : SoundTally p.tally
  pub count : p.tally.records ≤ n

pub step_sound : (j : Judge) (t : Tally) (r : Taken) → SoundJudge j → SoundTally t → r.lines.arb ≤ 15 → SoundProgress (t.records + 1) (step_of j t r)
unfolding step_of
step_sound j t r hj ht la =
    let d = diff_of j r.lines.stamp in
    choice (SoundProgress (t.records + 1)) (eqb (rule_of j r d).number 0)
    (λ e. let z = eqb-true (rule_of j r d).number 0 e in
    record {
      judge = judge-kept j r d hj la z;
      tally = tally-kept t (is_open j.transfer) r.lines.reset r.lines.start r.lines.ack d ht (diff_le j r.lines.stamp (stamp-holds j r d z));
      count = omega arith;
    })
    (λ _. record { judge = hj; tally = ht; count = omega arith })

next-sound : (p : Progress) (r : Taken) → SoundJudge p.judge → SoundTally p.tally → r.lines.arb ≤ 15 → SoundProgress (p.tally.records + 1) (next_of p r)
unfolding next_of
next-sound p r hj ht la =
    choice (SoundProgress (p.tally.records + 1)) (eqb p.rule 0) (λ _. step_sound p.judge p.tally r hj ht la) (λ _. record { judge = hj; tally = ht; count = omega arith })

-- ARB is four lines
pub arb-le : (bytes : List ℕ) → (record_in bytes).arb ≤ 15
unfolding record_in fields_in
arb-le bytes = omega arith

pub run_sound : (p : Progress) (n : ℕ) (bytes : List ℕ) → SoundJudge p.judge → SoundTally p.tally → SoundProgress (p.tally.records + n) (run_of p (records_in n bytes))
run_sound p zero bytes hj ht = record { judge = hj; tally = ht; count = omega arith }
run_sound p (suc n) bytes hj ht =
    let h = next-sound p (taken_in (take 16 bytes)) hj ht (arb-le (take 16 bytes)) in
    let r = run_sound (next_of p (taken_in (take 16 bytes))) n (drop 16 bytes) h.judge h.tally in
    record { judge = r.judge; tally = r.tally; count = omega (arith, h.count, r.count) }

-- ---- a call
-- a call that is not refused
pub none-refused : (size : ℕ) (j : Judge) (t : Tally) → refusal_of size j t ≡ 0 → SoundJudge j × (SoundTally t × ((t.records + size / 16 ≤ most_records) × (size % 16 ≡ 0)))
unfolding refusal_of
none-refused size j t e =
    let a = unless-zero (judge_bounds j && tally_bounds t) 5 _ refl e in
    let b = unless-zero (leb (t.records + size / 16) most_records) 8 _ refl a.1 in
    let c = unless-zero (eqb (size % 16) 0) 1 0 refl b.1 in
    let s = and_both (judge_bounds j) (tally_bounds t) a.0 in
    (judge-sound j s.0, (tally-sound t s.1, (leb-true (t.records + size / 16) most_records b.0, eqb-true (size % 16) 0 c.0)))

pub refusal-none : (size : ℕ) (j : Judge) (t : Tally) → SoundJudge j → SoundTally t → t.records + size / 16 ≤ most_records → size % 16 ≡ 0 → refusal_of size j t ≡ 0
unfolding refusal_of
refusal-none size j t hj ht room even =
    unless_held 5 _ (both_and _ _ (sound-judge j hj) (sound-tally t ht))
    (unless_held 8 _ (le-leb (t.records + size / 16) most_records room) (unless_held 1 0 (eq-eqb (size % 16) 0 even) refl))

pub outcome-judged : (bytes : List ℕ) (j : Judge) (t : Tally) → refusal_of (length bytes) j t ≡ 0 → outcome_of bytes j t ≡ outcome_in (run_of (from j t) (records_in (length bytes / 16) bytes))
unfolding outcome_of
outcome-judged bytes j t e = cond-true _ _ (eq-eqb (refusal_of (length bytes) j t) 0 e)

pub outcome-refused : (bytes : List ℕ) (j : Judge) (t : Tally) → (refusal_of (length bytes) j t ≡ 0 → ⊥) → outcome_of bytes j t ≡ record { verdict = refused_by (refusal_of (length bytes) j t); judge = j; tally = t }
unfolding outcome_of
outcome-refused bytes j t ne = cond-false _ _ (ne_eqb (refusal_of (length bytes) j t) 0 ne)
