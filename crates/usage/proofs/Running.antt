-- Laws of charging one record after another. Assumes nothing.
use Prim.Native.Nat.{ℕ, zero, suc, ◌+◌, ◌-◌, ◌*◌, ◌≤◌, ◌<◌}
use mathlib.Core.Bool.{Bool, cond}
use mathlib.Core.List.{List, [], ◌∷◌, ◌++◌, append_assoc}
use mathlib.Core.Path.{◌≡◌, refl, sym, ap, subst, ◌∙◌}
use native.Mathlib.Omega.{arith}
use lib.ListN.{length, take, drop, get_or, set, length-set, take-append-drop}
use lib.Seq.{get_or-set_same, get_or-set_other, set_out, length-take-le}
use lib.Dec.{eqb, ltb}
use borrow.Author.Tests.{eqb-true, eqb-false, ltb-true, ltb-false}
use Rattle.basics.specs.Lines.{one}
use Rattle.basics.proofs.Bools.{by-test}
use Rattle.entries.specs.declared.Entry.{Entry}
use Rattle.entries.specs.Entries.{zero_entry}
use Rattle.rules.specs.declared.Judge.{Judge}
use Rattle.rules.specs.declared.Tally.{Tally}
use Rattle.rules.specs.declared.Progress.{Progress}
use Rattle.rules.specs.declared.Rule.{Rule}
use Rattle.rules.specs.State.{diff_of}
use Rattle.rules.specs.Run.{Taken, taken_in, rule_of, records_in, from, broken, run_of}
use Rattle.rules.proofs.Laws.{after, step_good, step_bad, next_open, run_stopped, records-append}
use Rattle.rules.proofs.Told.{records-take}
use Rattle.usage.specs.Charge.{starts_in, charged_to, busy_in, added, added_at, charged, next_judge, Passes, account_of}

-- ---- one entry
pub added_none : (e : Entry) → added e 0 0 ≡ e
added_none e = same e.starts e.busy
  where
    same : (a b : ℕ) → ◌≡◌ {A = Entry} (record { starts = a + 0; busy = b + 0 }) (record { starts = a; busy = b })
    same a b = let x : a + 0 ≡ a = omega arith in let y : b + 0 ≡ b = omega arith in rw (x, y)

-- what is added at a slot is added to its entry, and to no other
pub added_at_lem : (es : List Entry) (slot starts busy s : ℕ) → slot < length es
    → get_or (added_at es slot starts busy) s zero_entry ≡ added (get_or es s zero_entry) (cond (eqb slot s) starts 0) (cond (eqb slot s) busy 0)
unfolding added_at
added_at_lem es slot starts busy s lt =
    by-test (eqb slot s)
    (λ e. let q : slot ≡ s = eqb-true slot s e in
    ap (λ (k : ℕ). get_or (set es slot (added (get_or es slot zero_entry) starts busy)) k zero_entry) (sym q)
    ∙ get_or-set_same es slot (added (get_or es slot zero_entry) starts busy) zero_entry lt
    ∙ ap (λ (k : ℕ). added (get_or es k zero_entry) starts busy) q
    ∙ ap (λ (b : Bool). added (get_or es s zero_entry) (cond b starts 0) (cond b busy 0)) (sym e))
    (λ e. get_or-set_other es slot s (added (get_or es slot zero_entry) starts busy) zero_entry (λ q. eqb-false slot s e (sym q))
    ∙ sym (added_none (get_or es s zero_entry))
    ∙ ap (λ (b : Bool). added (get_or es s zero_entry) (cond b starts 0) (cond b busy 0)) (sym e))

-- where there is no such slot nothing is
added_out : (es : List Entry) (slot starts busy : ℕ) → length es ≤ slot → added_at es slot starts busy ≡ es
unfolding added_at
added_out es slot starts busy le = set_out es slot (added (get_or es slot zero_entry) starts busy) le

pub added-length : (es : List Entry) (slot starts busy : ℕ) → length (added_at es slot starts busy) ≡ length es
unfolding added_at
added-length es slot starts busy = length-set es slot (added (get_or es slot zero_entry) starts busy)

pub charged-length : (es : List Entry) (j : Judge) (r : Taken) (d : ℕ) → length (charged es j r.lines d) ≡ length es
unfolding charged
charged-length es j r d = added-length es (charged_to j.wave r.lines d) _ _

pub account-length : (j : Judge) (es : List Entry) (rs : List Taken) → length (account_of j es rs) ≡ length es
account-length j es [] = refl
account-length j es (r ∷ rs) = account-length (next_judge j r) (charged es j r.lines (diff_of j r.lines.stamp)) rs ∙ charged-length es j r (diff_of j r.lines.stamp)

-- ---- records that break no rule
-- the judge's state after them
abbrev pub state_of : Judge → List Taken → Judge
state_of j [] = j
state_of j (r ∷ rs) = state_of (next_judge j r) rs

-- a run without a breach passes them all, and ends in that state
pub run_passes : (j : Judge) (t : Tally) (rs : List Taken) → (run_of (from j t) rs).rule ≡ 0 → Passes j rs × ((run_of (from j t) rs).judge ≡ state_of j rs)
run_passes j t [] e = (tt, refl)
run_passes j t (r ∷ rs) e =
    by-test (eqb rule.number 0)
    (λ b. let z = eqb-true rule.number 0 b in
    let is = next_open (from j t) r refl ∙ step_good j t r z in
    let same : run_of (from j t) (r ∷ rs) ≡ run_of (after j t r) rs = ap (λ (p : Progress). run_of p rs) is in
    let rest = run_passes (next_judge j r) (after j t r).tally rs (ap (λ (p : Progress). p.rule) (sym same) ∙ e) in
    ((z, rest.0), ap (λ (p : Progress). p.judge) same ∙ rest.1))
    (λ b. let ne = eqb-false rule.number 0 b in
    let is = next_open (from j t) r refl ∙ step_bad j t r ne in
    absurd (ne (ap (λ (p : Progress). p.rule) (sym (ap (λ (p : Progress). run_of p rs) is ∙ run_stopped _ rs ne)) ∙ e)))
  where
    rule : Rule
    rule = rule_of j r (diff_of j r.lines.stamp)

-- of any run the records pass that it counts, those before the breach
pub record Passed (j : Judge) (t : Tally) (n : ℕ) (bytes : List ℕ) (p : Progress) : Type 0 where
  pub more : t.records ≤ p.tally.records
  pub most : p.tally.records - t.records ≤ n
  pub pass : Passes j (records_in (p.tally.records - t.records) bytes)
  pub state : p.judge ≡ state_of j (records_in (p.tally.records - t.records) bytes)

pub passed : (n : ℕ) (j : Judge) (t : Tally) (bytes : List ℕ) → Passed j t n bytes (run_of (from j t) (records_in n bytes))
passed zero j t bytes =
    let z : 0 ≡ t.records - t.records = omega arith in
    record { more = omega arith; most = omega arith; pass = subst (λ k. Passes j (records_in k bytes)) z tt; state = ap (λ k. state_of j (records_in k bytes)) z }
passed (suc n) j t bytes =
    by-test (eqb rule.number 0) (λ b. good (eqb-true rule.number 0 b) (passed n (next_judge j r) (after j t r).tally (drop 16 bytes))) (λ b. bad (eqb-false rule.number 0 b))
  where
    r : Taken
    r = taken_in (take 16 bytes)

    rule : Rule
    rule = rule_of j r (diff_of j r.lines.stamp)

    good : rule.number ≡ 0 → Passed (next_judge j r) (after j t r).tally n (drop 16 bytes) (run_of (after j t r) (records_in n (drop 16 bytes))) → Passed j t (suc n) bytes (run_of (from j t) (records_in (suc n) bytes))
    good z h =
        let p = run_of (after j t r) (records_in n (drop 16 bytes)) in
        let same : run_of (after j t r) (records_in n (drop 16 bytes)) ≡ run_of (from j t) (records_in (suc n) bytes) = ap (λ (q : Progress). run_of q (records_in n (drop 16 bytes))) (sym (next_open (from j t) r refl ∙ step_good j t r z)) in
        let m = h.more in
        let o = h.most in
        let one_more : suc (p.tally.records - (after j t r).tally.records) ≡ p.tally.records - t.records = omega arith in
        subst (Passed j t (suc n) bytes) same
        (record {
          more = omega arith;
          most = omega arith;
          pass = subst (λ k. Passes j (records_in k bytes)) one_more (z, h.pass);
          state = h.state ∙ ap (λ k. state_of j (records_in k bytes)) one_more;
        })

    bad : (rule.number ≡ 0 → ⊥) → Passed j t (suc n) bytes (run_of (from j t) (records_in (suc n) bytes))
    bad ne =
        let stop = ap (λ (q : Progress). run_of q (records_in n (drop 16 bytes))) (next_open (from j t) r refl ∙ step_bad j t r ne) ∙ run_stopped (broken rule (diff_of j r.lines.stamp) j t) (records_in n (drop 16 bytes)) ne in
        let z : 0 ≡ t.records - t.records = omega arith in
        subst (Passed j t (suc n) bytes) (sym stop)
        (record { more = omega arith; most = omega arith; pass = subst (λ k. Passes j (records_in k bytes)) z tt; state = ap (λ k. state_of j (records_in k bytes)) z })

-- one part after another
pub passes_append : (j : Judge) (a b : List Taken) → Passes j a → Passes (state_of j a) b → Passes j (a ++ b)
passes_append j [] b p q = q
passes_append j (r ∷ a) b p q = (p.0, passes_append (next_judge j r) a b p.1 q)

pub account-append : (j : Judge) (es : List Entry) (a b : List Taken) → account_of j es (a ++ b) ≡ account_of (state_of j a) (account_of j es a) b
account-append j es [] b = refl
account-append j es (r ∷ a) b = account-append (next_judge j r) (charged es j r.lines (diff_of j r.lines.stamp)) a b

pub state-append : (j : Judge) (a b : List Taken) → state_of j (a ++ b) ≡ state_of (state_of j a) b
state-append j [] b = refl
state-append j (r ∷ a) b = state-append (next_judge j r) a b

-- the first n records of two lists of bytes: the first m of the first list, which has as many, and then the rest
pub records-more : (m n : ℕ) (x y : List ℕ) → m ≤ n → m * 16 ≤ length x → records_in n (x ++ y) ≡ records_in m x ++ records_in (n - m) (drop (m * 16) x ++ y)
records-more m n x y le fits =
    let a : List ℕ = take (m * 16) x in
    let b : List ℕ = drop (m * 16) x ++ y in
    let cut : x ++ y ≡ a ++ b = ap (λ (l : List ℕ). l ++ y) (sym (take-append-drop (m * 16) x)) ∙ append_assoc a (drop (m * 16) x) y in
    let count : n ≡ m + (n - m) = omega arith in
    ap (records_in n) cut
    ∙ ap (λ (k : ℕ). records_in k (a ++ b)) count
    ∙ records-append m (n - m) a b (length-take-le (m * 16) x fits)
    ∙ ap (λ (rs : List Taken). rs ++ records_in (n - m) b) (records-take m x fits)

-- ---- accounts that agree at a slot
pub charged-own : (a b : List Entry) (j : Judge) (r : Taken) (d s : ℕ) → length a ≡ length b → get_or a s zero_entry ≡ get_or b s zero_entry
    → get_or (charged a j r.lines d) s zero_entry ≡ get_or (charged b j r.lines d) s zero_entry
unfolding charged
charged-own a b j r d s long e =
    by-test (ltb slot (length a))
    (λ l. let lt = ltb-true slot (length a) l in
    added_at_lem a slot _ _ s lt ∙ ap (λ (x : Entry). added x (cond (eqb slot s) (one (starts_in r.lines)) 0) (cond (eqb slot s) (busy_in j.transfer r.lines d) 0)) e ∙ sym (added_at_lem b slot _ _ s (omega arith)))
    (λ l. let le = ltb-false slot (length a) l in out a le ∙ e ∙ sym (out b (omega arith)))
  where
    slot : ℕ
    slot = charged_to j.wave r.lines d

    out : (x : List Entry) → length x ≤ slot → get_or (added_at x slot (one (starts_in r.lines)) (busy_in j.transfer r.lines d)) s zero_entry ≡ get_or x s zero_entry
    out x le = ap (λ (l : List Entry). get_or l s zero_entry) (added_out x slot _ _ le)

pub account-own : (j : Judge) (a b : List Entry) (rs : List Taken) (s : ℕ) → length a ≡ length b → get_or a s zero_entry ≡ get_or b s zero_entry
    → get_or (account_of j a rs) s zero_entry ≡ get_or (account_of j b rs) s zero_entry
account-own j a b [] s long e = e
account-own j a b (r ∷ rs) s long e =
    let d : ℕ = diff_of j r.lines.stamp in
    account-own (next_judge j r) (charged a j r.lines d) (charged b j r.lines d) rs s
    (charged-length a j r d ∙ long ∙ sym (charged-length b j r d)) (charged-own a b j r d s long e)
