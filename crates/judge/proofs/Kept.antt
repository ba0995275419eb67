-- Laws of the quick way: where its tests hold, the record keeps every rule and leaves the state that it gives. Assumes nothing.
use Prim.Native.Nat.{ℕ, ◌+◌, ◌≤◌}
use mathlib.Core.Bool.{Bool, true, false, not, cond, ◌&&◌, ◌||◌, false≢true, true≢false, and-false, and-true, or-true}
use mathlib.Core.Path.{◌≡◌, refl, sym, ap, subst, ◌∙◌}
use native.Mathlib.Omega.{arith}
use lib.Dec.{leb, ltb, eqb}
use borrow.Author.Tests.{eq-eqb, eqb-true, ltb-true, leb-true, le-leb, ltb-false, le-ltb}
use Rattle.basics.specs.Lines.{one}
use Rattle.basics.specs.Numbers.{watchdog}
use Rattle.basics.specs.Order.{implies}
use Rattle.basics.proofs.Bools.{choice, cond-true, cond-false, by-test, and_both, both_and, implied}
use Rattle.record.specs.declared.Record.{Record}
use Rattle.codes.specs.Owed.{words_of}
use Rattle.rules.specs.declared.Judge.{Judge}
use Rattle.rules.specs.declared.Tally.{Tally}
use Rattle.rules.specs.declared.Wave.{Wave}
use Rattle.rules.specs.declared.Transfer.{Transfer}
use Rattle.rules.specs.declared.Transfer.TheVariants.{Idle, Open}
use Rattle.std.specs.Prelude.{Option, Some}
use Rattle.rules.specs.Rules.{strobe, rule5, rule6, rule9, rule10, rule11, rule12, rule13, rule13a, rule13b}
use Rattle.rules.specs.State.{is_open, is_owned, open_words, open_strobes, open_age, aged_of, transfer_of, asked_of, twice_of, capped, wave_of, tally_of}
use Rattle.rules.specs.Run.{later_rules, from, step_of}
use Rattle.rules.proofs.Laws.{AllHold}
use Rattle.rules.proofs.Ride.{capped_three}
use Rattle.judge.specs.Quick.{WaveKept, Plain, waited_of, started_of, turn_holds, start_holds, request_holds, ack_holds, quiet_holds, StartKept, AckKept, QuietKept}
use Rattle.judge.proofs.Steps.{not-holds, step_kept}

-- ---- tests
-- the second of two, one of which holds
other-holds : (a b : Bool) → (a || b) ≡ true → a ≡ false → b ≡ true
other-holds true b e f = absurd (true≢false f)
other-holds false b e f = e

implies-none : (a b : Bool) → a ≡ false → implies a b ≡ true
implies-none true b e = absurd (true≢false e)
implies-none false b e = refl

-- ---- the wave
wave-same : {r r' p p' : Bool} {o o' : Option ℕ} {s s' a a' t t' : ℕ} → r ≡ r' → p ≡ p' → o ≡ o' → s ≡ s' → a ≡ a' → t ≡ t'
    → ◌≡◌ {A = Wave} (record { rqst = r; prior = p; owner = o; since = s; arb = a; turn = t }) (record { rqst = r'; prior = p'; owner = o'; since = s'; arb = a'; turn = t' })
wave-same e f g h i k = cc

cap_one : (since d : ℕ) → since ≤ 3 → d ≡ 1 → capped (since + d) ≡ since + one (ltb since 3)
cap_one since d le e =
    by-test (ltb since 3)
    (λ l. let z = ltb-true since 3 l in
    rw l (choice (λ (k : ℕ). k ≡ since + 1) (ltb (since + d) 3) (λ _. omega arith) (λ m. let y = ltb-false (since + d) 3 m in omega arith)))
    (λ l. let z = ltb-false since 3 l in
    rw l (choice (λ (k : ℕ). k ≡ since + 0) (ltb (since + d) 3) (λ m. let y = ltb-true (since + d) 3 m in omega arith) (λ m. omega arith)))

still_three : (since : ℕ) → since ≡ 3 → 3 ≡ since + one (ltb since 3)
still_three since e = let l : ltb since 3 ≡ false = le-ltb since 3 (omega arith) in rw l (omega arith)

-- a record without START
waited_is : (w : Wave) (rqst start : Bool) (arb d : ℕ) → WaveKept w → start ≡ false → request_holds w rqst d ≡ true → wave_of w rqst start arb d ≡ waited_of w rqst
waited_is w rqst start arb d k s h = subst (λ (b : Bool). wave_of w rqst b arb d ≡ waited_of w rqst) (sym s) (by-test w.rqst going resting)
  where
    going : w.rqst ≡ true → wave_of w rqst false arb d ≡ waited_of w rqst
    going e =
        let q = and_both (eqb d 1) rqst (implied w.rqst (eqb d 1 && rqst) h e) in
        wave-same refl (both_and (eqb d 1) w.rqst q.0 e ∙ sym e) refl
        (cond-true _ _ q.1 ∙ cap_one w.since d k.low (eqb-true d 1 q.0))
        (cond-true _ _ q.1) (cond-true _ _ q.1)

    resting : w.rqst ≡ false → wave_of w rqst false arb d ≡ waited_of w rqst
    resting e =
        wave-same refl (ap (λ (b : Bool). eqb d 1 && b) e ∙ and-false (eqb d 1) ∙ sym e) refl
        (choice (λ (n : ℕ). n ≡ 3) rqst (λ _. capped_three w.since d (k.since e)) (λ _. refl) ∙ still_three w.since (k.since e))
        (choice (λ (n : ℕ). n ≡ w.arb) rqst (λ _. refl) (λ _. sym (k.arb e)))
        (choice (λ (n : ℕ). n ≡ w.turn) rqst (λ _. refl) (λ _. sym (k.turn e)))

-- a START
started_is : (w : Wave) (rqst start : Bool) (arb d : ℕ) → WaveKept w → start ≡ true → (w.rqst ≡ true → d ≡ 1) → wave_of w rqst start arb d ≡ started_of w rqst arb
started_is w rqst start arb d k s h = subst (λ (b : Bool). wave_of w rqst b arb d ≡ started_of w rqst arb) (sym s) (by-test w.rqst going resting)
  where
    going : w.rqst ≡ true → wave_of w rqst true arb d ≡ started_of w rqst arb
    going e =
        let a : asked_of w d ≡ true = both_and (eqb d 1) w.rqst (eq-eqb d 1 (h e)) e in
        let b : (w.rqst && rqst) ≡ rqst = ap (λ (x : Bool). x && rqst) e in
        wave-same refl (a ∙ sym e) (ap (λ (x : Bool). cond x (Some arb) w.owner) (a ∙ sym e))
        (ap (λ (x : Bool). cond rqst (cond x 0 (capped (w.since + d))) 3) a ∙ ap (λ (x : Bool). cond x 0 3) (sym b))
        (ap (λ (x : Bool). cond rqst (cond x arb w.arb) 15) a ∙ ap (λ (x : Bool). cond x arb 15) (sym b))
        (ap (λ (x : Bool). cond rqst (cond x (cond (eqb arb w.arb) (w.turn + 1) 1) w.turn) 0) a ∙ ap (λ (x : Bool). cond x (cond (eqb arb w.arb) (w.turn + 1) 1) 0) (sym b))

    resting : w.rqst ≡ false → wave_of w rqst true arb d ≡ started_of w rqst arb
    resting e =
        let a : asked_of w d ≡ false = ap (λ (x : Bool). eqb d 1 && x) e ∙ and-false (eqb d 1) in
        let b : (w.rqst && rqst) ≡ false = ap (λ (x : Bool). x && rqst) e in
        wave-same refl (a ∙ sym e) (ap (λ (x : Bool). cond x (Some arb) w.owner) (a ∙ sym e))
        (ap (λ (x : Bool). cond rqst (cond x 0 (capped (w.since + d))) 3) a ∙ choice (λ (n : ℕ). n ≡ 3) rqst (λ _. capped_three w.since d (k.since e)) (λ _. refl) ∙ ap (λ (x : Bool). cond x 0 3) (sym b))
        (ap (λ (x : Bool). cond rqst (cond x arb w.arb) 15) a ∙ choice (λ (n : ℕ). n ≡ 15) rqst (λ _. k.arb e) (λ _. refl) ∙ ap (λ (x : Bool). cond x arb 15) (sym b))
        (ap (λ (x : Bool). cond rqst (cond x (cond (eqb arb w.arb) (w.turn + 1) 1) w.turn) 0) a ∙ choice (λ (n : ℕ). n ≡ 0) rqst (λ _. k.turn e) (λ _. refl) ∙ ap (λ (x : Bool). cond x (cond (eqb arb w.arb) (w.turn + 1) 1) 0) (sym b))

-- ---- the rules, one by one
rule6_of : (start ack tm1 tm0 : Bool) → (start && ack) ≡ false → rule6 start ack tm1 tm0 ≡ true
rule6_of start ack tm1 tm0 e = implies-none (start && ack) (tm1 && tm0) e

-- each kind of rule 8 is asked of a START, in a wave or without one
kind_of_lem : (start asked held : Bool) → (start ≡ true → asked ≡ true → held ≡ true) → implies (start && asked) held ≡ true
kind_of_lem true true held f = f refl refl
kind_of_lem true false held f = refl
kind_of_lem false asked held f = refl

rule9_of : (last rqst start : Bool) (d : ℕ) → (last ≡ true → (d ≡ 1) × ((rqst || start) ≡ true)) → rule9 last d rqst start ≡ true
rule9_of true rqst start d f = let h = f refl in both_and (eqb d 1) (rqst || start) (eq-eqb d 1 h.0) h.1
rule9_of false rqst start d f = refl

rule10_of : (start asked : Bool) (arb last : ℕ) → (start ≡ true → asked ≡ true → arb ≤ last) → rule10 start asked arb last ≡ true
rule10_of true true arb last f = le-leb arb last (f refl refl)
rule10_of true false arb last f = refl
rule10_of false asked arb last f = refl

rule11_of : (limit : ℕ) (start asked : Bool) (arb last turn : ℕ) → (start ≡ true → asked ≡ true → implies (eqb arb last) (ltb turn limit) ≡ true) → rule11 limit start asked arb last turn ≡ true
rule11_of limit true true arb last turn f = f refl refl
rule11_of limit true false arb last turn f = refl
rule11_of limit false asked arb last turn f = refl

-- those of the open transfer, at an ACK and without one
ack-rules : (x : Transfer) (start ack tm1 tm0 : Bool) (d : ℕ) → start ≡ false → ack ≡ true → ack_holds x tm1 tm0 d ≡ true
    → (rule5 (is_open x) start ack ≡ true) × ((rule12 (is_open x) (open_age x) d ≡ true) × (rule13 (is_open x) (open_words x) (open_strobes x) start ack tm1 tm0 ≡ true))
ack-rules Idle start ack tm1 tm0 d s a h = absurd (false≢true h)
ack-rules (Open w n g b) true ack tm1 tm0 d s a h = absurd (true≢false s)
ack-rules (Open w n g b) false false tm1 tm0 d s a h = absurd (false≢true a)
ack-rules (Open w n g b) false true tm1 tm0 d s a h =
    let p = and_both (leb (g + d) watchdog) (implies (tm1 && tm0) (eqb (n + 1) w)) h in
    (refl, (p.0, both_and (rule13a true w n false true tm0) (rule13b true w n true tm1 tm0) (implies-none (strobe w false true tm0) (ltb (n + 1) w) (and-false (ltb 1 w && tm0 && true))) p.1))

quiet-rules : (x : Transfer) (start ack tm1 tm0 : Bool) (d : ℕ) → start ≡ false → ack ≡ false → quiet_holds x tm0 d ≡ true
    → (rule5 (is_open x) start ack ≡ true) × ((rule12 (is_open x) (open_age x) d ≡ true) × (rule13 (is_open x) (open_words x) (open_strobes x) start ack tm1 tm0 ≡ true))
quiet-rules Idle start ack tm1 tm0 d s a h = (implies-none (ack && not start) false (ap (λ (b : Bool). b && not start) a), (refl, refl))
quiet-rules (Open w n g b) true ack tm1 tm0 d s a h = absurd (true≢false s)
quiet-rules (Open w n g b) false true tm1 tm0 d s a h = absurd (true≢false a)
quiet-rules (Open w n g b) false false tm1 tm0 d s a h =
    let p = and_both (leb (g + d) watchdog) (implies (ltb 1 w && tm0) (ltb (n + 1) w)) h in (
      refl,
      (
        p.0,
        both_and (rule13a true w n false false tm0) (rule13b true w n false tm1 tm0)
            (ap (λ (b : Bool). implies b (ltb (n + 1) w)) (and-true (ltb 1 w && tm0 && true) ∙ and-true (ltb 1 w && tm0)) ∙ p.1) refl,
      ),
    )

-- and those of a record without START, of its request
no_start : (b : Bool) {A : Type 0} → b ≡ false → b ≡ true → A
no_start b e f = absurd (false≢true (sym e ∙ f))

request-rules : (j : Judge) (r : Record) (d : ℕ) → r.start ≡ false → request_holds j.wave r.rqst d ≡ true → rule9 j.wave.rqst d r.rqst r.start ≡ true
request-rules j r d s h =
    rule9_of j.wave.rqst r.rqst r.start d (λ e. let q = and_both (eqb d 1) r.rqst (implied j.wave.rqst _ h e) in
    (eqb-true d 1 q.0, ap (λ (b : Bool). b || r.start) q.1))

-- ---- all rules of the three kinds of record
other_hold : (j : Judge) (t : Tally) (r : Record) (d : ℕ) → Plain j t r d → r.start ≡ false → request_holds j.wave r.rqst d ≡ true
    → rule5 (is_open j.transfer) r.start r.ack ≡ true → rule12 (is_open j.transfer) (open_age j.transfer) d ≡ true
    → rule13 (is_open j.transfer) (open_words j.transfer) (open_strobes j.transfer) r.start r.ack r.tm1 r.tm0 ≡ true → AllHold (later_rules j r d)
other_hold j t r d p s q r5 r12 r13 =
    let w = j.wave in (
      p.parity,
      (
        ap (λ (b : Bool). not (b && is_open j.transfer)) s,
        (
          r5,
          (
            rule6_of r.start r.ack r.tm1 r.tm0 (ap (λ (b : Bool). b && r.ack) s),
            (
              implies-none (r.start && not r.ack) _ (ap (λ (b : Bool). b && not r.ack) s),
              (
                kind_of_lem r.start (not (asked_of w d)) (is_owned w.owner) (no_start r.start s),
                (
                  kind_of_lem r.start (asked_of w d) (twice_of w d) (no_start r.start s),
                  (
                    kind_of_lem r.start (asked_of w d) (leb 3 (w.since + d)) (no_start r.start s),
                    (
                      request-rules j r d s q,
                      (
                        rule10_of r.start (asked_of w d) r.arb w.arb (no_start r.start s),
                        (rule11_of j.limit r.start (asked_of w d) r.arb w.arb w.turn (no_start r.start s), (r12, (r13, tt))),
                      ),
                    ),
                  ),
                ),
              ),
            ),
          ),
        ),
      ),
    )

ack_hold : (j : Judge) (t : Tally) (r : Record) (d : ℕ) → AckKept j t r d → AllHold (later_rules j r d)
ack_hold j t r d k =
    let q = ack-rules j.transfer r.start r.ack r.tm1 r.tm0 d k.starts k.acks k.holds in
    other_hold j t r d k.plain k.starts k.request q.0 q.1.0 q.1.1

quiet_hold : (j : Judge) (t : Tally) (r : Record) (d : ℕ) → QuietKept j t r d → AllHold (later_rules j r d)
quiet_hold j t r d k =
    let q = quiet-rules j.transfer r.start r.ack r.tm1 r.tm0 d k.starts k.acks k.holds in
    other_hold j t r d k.plain k.starts k.request q.0 q.1.0 q.1.1

-- what the one test of a START says
pub record StartSays (j : Judge) (r : Record) (words d : ℕ) : Type 0 where
  pub idle : is_open j.transfer ≡ false
  pub alone : r.ack ≡ false
  pub some : ltb 0 words ≡ true
  pub parked : j.wave.rqst ≡ false → is_owned j.wave.owner ≡ true
  pub turn : j.wave.rqst ≡ true → turn_holds j.limit j.wave r.arb d ≡ true

start-says : (j : Judge) (t : Tally) (r : Record) (words d : ℕ) → StartKept j t r words d → StartSays j r words d
unfolding start_holds
start-says j t r words d k =
    let w = j.wave in
    let busy = is_open j.transfer in
    let in_turn = turn_holds j.limit w r.arb d in
    let a = and_both (not busy && not r.ack && ltb 0 words && (w.rqst || is_owned w.owner)) (implies w.rqst in_turn) k.holds in
    let b = and_both (not busy && not r.ack && ltb 0 words) (w.rqst || is_owned w.owner) a.0 in
    let c = and_both (not busy && not r.ack) (ltb 0 words) b.0 in
    let e = and_both (not busy) (not r.ack) c.0 in
    record {
      idle = not-holds busy e.0;
      alone = not-holds r.ack e.1;
      some = c.1;
      parked = other-holds w.rqst (is_owned w.owner) b.1;
      turn = implied w.rqst in_turn a.1;
    }

pub record InTurn (limit : ℕ) (w : Wave) (arb d : ℕ) : Type 0 where
  pub next : d ≡ 1
  pub prior : w.prior ≡ true
  pub since : 2 ≤ w.since
  pub falls : arb ≤ w.arb
  pub within : implies (eqb arb w.arb) (ltb w.turn limit) ≡ true

in_turn : (limit : ℕ) (w : Wave) (arb d : ℕ) → turn_holds limit w arb d ≡ true → InTurn limit w arb d
in_turn limit w arb d h =
    let a = and_both (eqb d 1 && w.prior && leb 2 w.since && leb arb w.arb) (implies (eqb arb w.arb) (ltb w.turn limit)) h in
    let b = and_both (eqb d 1 && w.prior && leb 2 w.since) (leb arb w.arb) a.0 in
    let c = and_both (eqb d 1 && w.prior) (leb 2 w.since) b.0 in
    let e = and_both (eqb d 1) w.prior c.0 in
    record { next = eqb-true d 1 e.0; prior = e.1; since = leb-true 2 w.since c.1; falls = leb-true arb w.arb b.1; within = a.1 }

asked_was : (w : Wave) (d : ℕ) → asked_of w d ≡ true → w.rqst ≡ true
asked_was w d e = (and_both (eqb d 1) w.rqst e).1

start_hold : (j : Judge) (t : Tally) (r : Record) (words d : ℕ) → StartKept j t r words d → AllHold (later_rules j r d)
start_hold j t r words d k =
    let w = j.wave in
    let z = start-says j t r words d k in
    let turn : w.rqst ≡ true → InTurn j.limit w r.arb d = λ e. in_turn j.limit w r.arb d (z.turn e) in
    let rest : asked_of w d ≡ false → w.rqst ≡ false = λ e. by-test w.rqst (λ q. absurd (false≢true (sym e ∙ both_and (eqb d 1) w.rqst (eq-eqb d 1 (turn q).next) q))) (λ q. q) in (
      k.plain.parity,
      (
        ap (λ (b : Bool). not (r.start && b)) z.idle ∙ ap not (and-false r.start),
        (
          implies-none (r.ack && not r.start) (is_open j.transfer) (ap (λ (b : Bool). b && not r.start) z.alone),
          (
            rule6_of r.start r.ack r.tm1 r.tm0 (ap (λ (b : Bool). r.start && b) z.alone ∙ and-false r.start),
            (
              code_held (r.start && not r.ack) (ap (ltb 0) (sym k.code) ∙ z.some),
              (
                kind_of_lem r.start (not (asked_of w d)) (is_owned w.owner) (λ _ e. z.parked (rest (not-holds (asked_of w d) e))),
                (
                  kind_of_lem r.start (asked_of w d) (twice_of w d)
                      (λ _ e. let i = turn (asked_was w d e) in
                      ap (λ (b : Bool). b || (eqb d 2 && w.rqst)) (both_and (eqb d 1) w.prior (eq-eqb d 1 i.next) i.prior)),
                  (
                    kind_of_lem r.start (asked_of w d) (leb 3 (w.since + d))
                        (λ _ e. let i = turn (asked_was w d e) in
                        let n = i.next in
                        let s = i.since in
                        le-leb 3 (w.since + d) (omega arith)),
                    (
                      rule9_of w.rqst r.rqst r.start d (λ e. ((turn e).next, ap (λ (b : Bool). r.rqst || b) k.starts ∙ or-true r.rqst)),
                      (
                        rule10_of r.start (asked_of w d) r.arb w.arb (λ _ e. (turn (asked_was w d e)).falls),
                        (
                          rule11_of j.limit r.start (asked_of w d) r.arb w.arb w.turn (λ _ e. (turn (asked_was w d e)).within),
                          (
                            implies-none (is_open j.transfer) _ z.idle,
                            (both_and _ _ (implies-none _ _ (ap (λ (b : Bool). b && strobe (open_words j.transfer) r.start r.ack r.tm0) z.idle)) (implies-none _ _ (ap (λ (b : Bool). b && r.ack && r.tm1 && r.tm0) z.idle)), tt),
                          ),
                        ),
                      ),
                    ),
                  ),
                ),
              ),
            ),
          ),
        ),
      ),
    )
  where
    code_held : (a : Bool) {b : Bool} → b ≡ true → implies a b ≡ true
    code_held true e = e
    code_held false e = refl

-- ---- and what each leaves
judge-same : (limit stamp : ℕ) {x x' : Transfer} {w w' : Wave} → x ≡ x' → w ≡ w'
    → ◌≡◌ {A = Judge} (record { limit = limit; seen = true; stamp = stamp; transfer = x; wave = w }) (record { limit = limit; seen = true; stamp = stamp; transfer = x'; wave = w' })
judge-same limit stamp e f = cc

abbrev tallied : Judge → Tally → Record → ℕ → Tally
tallied j t r d = tally_of t (is_open j.transfer) r.reset r.start r.ack d

pub start-leaves : (j : Judge) (t : Tally) (r : Record) (words d : ℕ) → StartKept j t r words d
    → from (record { limit = j.limit; seen = true; stamp = r.stamp; transfer = Open words 0 0 1; wave = started_of j.wave r.rqst r.arb }) (tallied j t r d) ≡ step_of j t (record { lines = r; spare = 0 })
start-leaves j t r words d k =
    let z = start-says j t r words d k in
    let transfer : Open words 0 0 1 ≡ transfer_of j.transfer r.start r.ack r.tm0 (words_of r.tm0 r.ad) d =
    ap (λ (n : ℕ). Open n 0 0 1) k.code ∙ sym (cond-true _ _ k.starts) ∙ sym (cond-false _ _ z.alone) in
    let wave = started_is j.wave r.rqst r.start r.arb d k.plain.ready.wave k.starts (λ e. (in_turn j.limit j.wave r.arb d (z.turn e)).next) in
    ap (λ (x : Judge). from x (tallied j t r d)) (judge-same j.limit r.stamp transfer (sym wave)) ∙ step_kept j t r d k.plain (start_hold j t r words d k)

pub ack-leaves : (j : Judge) (t : Tally) (r : Record) (d : ℕ) → AckKept j t r d
    → from (record { limit = j.limit; seen = true; stamp = r.stamp; transfer = Idle; wave = waited_of j.wave r.rqst }) (tallied j t r d) ≡ step_of j t (record { lines = r; spare = 0 })
ack-leaves j t r d k =
    let transfer : Idle ≡ transfer_of j.transfer r.start r.ack r.tm0 (words_of r.tm0 r.ad) d = sym (cond-true _ _ k.acks) in
    let wave = waited_is j.wave r.rqst r.start r.arb d k.plain.ready.wave k.starts k.request in
    ap (λ (x : Judge). from x (tallied j t r d)) (judge-same j.limit r.stamp transfer (sym wave)) ∙ step_kept j t r d k.plain (ack_hold j t r d k)

pub quiet-leaves : (j : Judge) (t : Tally) (r : Record) (d : ℕ) → QuietKept j t r d
    → from (record { limit = j.limit; seen = true; stamp = r.stamp; transfer = aged_of j.transfer r.start r.ack r.tm0 d; wave = waited_of j.wave r.rqst }) (tallied j t r d) ≡ step_of j t (record { lines = r; spare = 0 })
quiet-leaves j t r d k =
    let transfer : aged_of j.transfer r.start r.ack r.tm0 d ≡ transfer_of j.transfer r.start r.ack r.tm0 (words_of r.tm0 r.ad) d = sym (cond-false _ _ k.acks ∙ cond-false _ _ k.starts) in
    let wave = waited_is j.wave r.rqst r.start r.arb d k.plain.ready.wave k.starts k.request in
    ap (λ (x : Judge). from x (tallied j t r d)) (judge-same j.limit r.stamp transfer (sym wave)) ∙ step_kept j t r d k.plain (quiet_hold j t r d k)

-- the age test of a quiet record
pub quiet-young : (j : Judge) (t : Tally) (r : Record) (d : ℕ) → QuietKept j t r d → rule12 (is_open j.transfer) (open_age j.transfer) d ≡ true
quiet-young j t r d k = (quiet-rules j.transfer r.start r.ack r.tm1 r.tm0 d k.starts k.acks k.holds).1.0
