-- The verdict of a recording is one, and the judge's is that one: it says conforming exactly if no record breaks a rule, and breach of rule j at
-- record i exactly if i is the first record that breaks a rule and j the lowest that it breaks. Assumes nothing.
use Prim.Native.Nat.{ℕ, zero, suc, ◌+◌, ◌≤◌, ◌<◌}
use mathlib.Core.Bool.{true}
use mathlib.Core.List.{List, [], ◌∷◌}
use mathlib.Core.Path.{◌≡◌, refl, sym, ap, subst, ◌∙◌}
use mathlib.Core.Logic.{◌↔◌, inl, inr}
use native.Mathlib.Omega.{arith}
use borrow.Author.Tests.{eq-eqb, ne_eqb}
use Rattle.basics.proofs.Bools.{cond-true, cond-false}
use Rattle.rules.specs.declared.Rule.{Rule}
use Rattle.rules.specs.declared.Judge.{Judge}
use Rattle.rules.specs.declared.Tally.{Tally}
use Rattle.rules.specs.declared.Progress.{Progress}
use Rattle.rules.specs.declared.Broken.{Broken}
use Rattle.rules.specs.declared.Verdict.{Verdict}
use Rattle.rules.specs.declared.Verdict.TheVariants.{Conforming, Breach, OutOfBounds, TooMany, Torn}
use Rattle.rules.specs.declared.Outcome.{Outcome}
use Rattle.rules.specs.Names.{rule_in}
use Rattle.rules.specs.State.{is_open}
use Rattle.rules.specs.Verdict.{verdict_of, broken_by, outcome_in}
use Rattle.rules.specs.Recording.{Lines, Recording, recording_in, Asked, Began}
use Rattle.rules.specs.Thirteen.{Rule2, rules, AllKept, FirstOf, Keeps, Breaks}
use Rattle.rules.specs.Totals.{Number, none, more, other, Aborts, Totals}
use Rattle.rules.specs.Exact.{span_at, FirstBreach, Rightly, counted, OpenAt, Exact}
use Rattle.rules.proofs.Places.{same_place}
use Rattle.rules.proofs.Hold.{open_exact}
use Rattle.rules.proofs.Ride.{asked_began}
use Rattle.rules.proofs.Step.{JudgeIs, forward_to}
use Rattle.rules.proofs.Reach.{Ended, Reached, reached}

-- ---- the verdict is one
pub kept-not : (ps : List (Rule × Type 0)) (n : Rule) → AllKept ps → FirstOf n ps → ⊥
kept-not [] n k f = f
kept-not (p ∷ ps) n k (inl f) = f.0 k.0
kept-not (p ∷ ps) n k (inr f) = kept-not ps n k.1 f.1

pub first-only : (ps : List (Rule × Type 0)) (m n : Rule) → FirstOf m ps → FirstOf n ps → m ≡ n
first-only [] m n f g = absurd f
first-only (p ∷ ps) m n (inl f) (inl g) = f.1 ∙ sym g.1
first-only (p ∷ ps) m n (inl f) (inr g) = absurd (f.0 g.0)
first-only (p ∷ ps) m n (inr f) (inl g) = absurd (g.0 f.0)
first-only (p ∷ ps) m n (inr f) (inr g) = first-only ps m n f.1 g.1

pub same-breach : (a b : Broken) → rule_in a ≡ rule_in b → a.place ≡ b.place → a.span ≡ b.span → a ≡ b
same-breach a b e f g = parts a.rule b.rule a.kind b.kind a.place b.place a.span b.span (ap (λ (x : Rule). x.number) e) (ap (λ (x : Rule). x.kind) e) f g
  where
    parts : (a b c d e f g h : ℕ) → a ≡ b → c ≡ d → e ≡ f → g ≡ h → ◌≡◌ {A = Broken} (record { rule = a; kind = c; place = e; span = g }) (record { rule = b; kind = d; place = f; span = h })
    parts a b c d e f g h p q s t = rw (p, q, s, t)

breach-only : (limit : ℕ) (r : Recording) (n : ℕ) (a b : Broken) → FirstBreach limit r n a → FirstBreach limit r n b → Breach a ≡ Breach b
breach-only limit r n a b u v =
    let place : a.place ≡ b.place = same_place a.place b.place
    (λ lt. kept-not (rules limit r a.place) (rule_in a) (v.before a.place lt) u.lowest)
    (λ lt. kept-not (rules limit r b.place) (rule_in b) (u.before b.place lt) v.lowest) in
    let name : rule_in a ≡ rule_in b = first-only (rules limit r b.place) (rule_in a) (rule_in b) (subst (λ i. Breaks limit r i (rule_in a)) place u.lowest) v.lowest in
    let rule = ap (λ (x : Rule). x.number) name in
    ap Breach (same-breach a b name place (u.span ∙ ap (λ i. span_at r.lines i a.rule) place ∙ ap (span_at r.lines b.place) rule ∙ sym v.span))

-- of two verdicts that a recording has, both are the same
pub rightly_only : (limit : ℕ) (r : Recording) (n : ℕ) (v w : Verdict) → Rightly limit r n v → Rightly limit r n w → v ≡ w
rightly_only limit r n Conforming Conforming a b = refl
rightly_only limit r n Conforming (Breach y) a b = absurd (kept-not (rules limit r y.place) (rule_in y) (a y.place b.within) b.lowest)
rightly_only limit r n (Breach x) Conforming a b = absurd (kept-not (rules limit r x.place) (rule_in x) (b x.place a.within) a.lowest)
rightly_only limit r n (Breach x) (Breach y) a b = breach-only limit r n x y a b
rightly_only limit r n OutOfBounds w a b = absurd a
rightly_only limit r n TooMany w a b = absurd a
rightly_only limit r n Torn w a b = absurd a
rightly_only limit r n Conforming OutOfBounds a b = absurd b
rightly_only limit r n Conforming TooMany a b = absurd b
rightly_only limit r n Conforming Torn a b = absurd b
rightly_only limit r n (Breach x) OutOfBounds a b = absurd b
rightly_only limit r n (Breach x) TooMany a b = absurd b
rightly_only limit r n (Breach x) Torn a b = absurd b

-- ---- what the judge says
-- "conforming" exactly if no record breaks a rule
pub exactly_conforming : (limit : ℕ) (r : Recording) (n : ℕ) (o : Outcome) → Exact limit r n o → (o.verdict ≡ Conforming) ↔ ((i : ℕ) → i < n → Keeps limit r i)
exactly_conforming limit r n o h = (
  λ e. subst (Rightly limit r n) e h.verdict,
  λ k. rightly_only limit r n o.verdict Conforming h.verdict k,
)

-- "breach" of rule j at record i exactly if i is the first record that breaks a rule, and j the lowest that it breaks
pub exactly_breach : (limit : ℕ) (r : Recording) (n : ℕ) (o : Outcome) (b : Broken) → Exact limit r n o → (o.verdict ≡ Breach b) ↔ FirstBreach limit r n b
exactly_breach limit r n o b h = (
  λ e. subst (Rightly limit r n) e h.verdict,
  λ k. rightly_only limit r n o.verdict (Breach b) h.verdict k,
)

-- ---- the totals are one
pub number-only : (P : ℕ → Type 0) (n c d : ℕ) → Number P n c → Number P n d → c ≡ d
number-only P zero c d none none = refl
number-only P (suc n) c d (more p h) (more q g) = ap (λ x. x + 1) (number-only P n _ _ h g)
number-only P (suc n) c d (more p h) (other f g) = absurd (f p)
number-only P (suc n) c d (other f h) (more q g) = absurd (f q)
number-only P (suc n) c d (other f h) (other e g) = number-only P n c d h g

pub totals-only : (r : Lines) (n : ℕ) (t u : Tally) → Totals r n t → Totals r n u → t ≡ u
totals-only r n t u a b =
    same t.records u.records t.span u.span t.starts u.starts t.acks u.acks t.aborted u.aborted
    (a.records ∙ sym b.records)
    (a.span ∙ sym b.span)
    (a.starts ∙ sym b.starts)
    (a.acks ∙ sym b.acks)
    (number-only (Aborts r) n t.aborted u.aborted a.aborted b.aborted)
  where
    same : (a b c d e f g h i k : ℕ) → a ≡ b → c ≡ d → e ≡ f → g ≡ h → i ≡ k → ◌≡◌ {A = Tally} (record { records = a; span = c; starts = e; acks = g; aborted = i }) (record { records = b; span = d; starts = f; acks = h; aborted = k })
    same a b c d e f g h i k p q s t u = rw (p, q, s, t, u)

-- ---- a run is exact
pub reached_exact : (limit : ℕ) (r : Recording) (n : ℕ) (p : Progress) → Reached limit r n p → Exact limit r n (outcome_in p)
unfolding verdict_of
reached_exact limit r n p h = by_end h.ends
  where
    exact : (v : Verdict) → Rightly limit r n v → counted n v ≡ h.place → Exact limit r n (record { verdict = v; judge = p.judge; tally = p.tally })
    exact v right e =
        record {
          verdict = right;
          totals = subst (λ i. Totals r.lines i p.tally) (sym e) h.before.totals;
          opened = subst (λ i. (is_open p.judge.transfer ≡ true) ↔ OpenAt r i) (sym e) (open_exact r.lines h.place p.judge.transfer h.before.judge.transfer);
          balance = h.before.balance;
        }

    by_end : Ended limit r n p h.place → Exact limit r n (outcome_in p)
    by_end (inl e) =
        subst (λ (v : Verdict). Exact limit r n (record { verdict = v; judge = p.judge; tally = p.tally })) (sym (cond-true _ _ (eq-eqb p.rule 0 e.0)))
        (exact Conforming (λ i lt. h.before.good i (let z = e.1 in omega arith)) (sym e.1))
    by_end (inr e) =
        subst (λ (v : Verdict). Exact limit r n (record { verdict = v; judge = p.judge; tally = p.tally })) (sym (cond-false _ _ (ne_eqb p.rule 0 e.0)))
        (exact (Breach (broken_by p))
        (subst (λ i. FirstBreach limit r n (record { rule = p.rule; kind = p.kind; place = i; span = p.span })) (sym h.before.totals.records) (record { within = e.1; before = h.before.good; lowest = e.2; span = e.3 }))
        h.before.totals.records)

-- ---- where the records before keep all rules
-- the judge comes to record i
pub comes_to : (limit : ℕ) (bytes : List ℕ) (i : ℕ) → 1 ≤ limit → limit ≤ 16 → ((m : ℕ) → m < i → Keeps limit (recording_in bytes) m) → (j : Judge) × JudgeIs limit (recording_in bytes).lines i j
comes_to limit bytes i low high keeps = go (reached limit bytes i low high)
  where
    r : Recording
    r = recording_in bytes

    go : {p : Progress} → Reached limit r i p → (j : Judge) × JudgeIs limit r.lines i j
    go {p} h = by_end h.ends
      where
        by_end : Ended limit r i p h.place → (j : Judge) × JudgeIs limit r.lines i j
        by_end (inl e) = (p.judge, subst (λ k. JudgeIs limit r.lines k p.judge) e.1 h.before.judge)
        by_end (inr e) = absurd (kept-not (rules limit r h.place) (rule_in (broken_by p)) (keeps h.place e.1) e.2)

-- no START of a wave is passed over: rules 8, 10 and 11 speak of the wave that began at some record, and where RQST is active one cycle before, there is one
pub wave_there : (limit : ℕ) (bytes : List ℕ) (i : ℕ) → 1 ≤ limit → limit ≤ 16 → ((m : ℕ) → m < i → Keeps limit (recording_in bytes) m) → Rule2 (recording_in bytes).lines i → Asked (recording_in bytes).lines i 1 → (b : ℕ) × Began (recording_in bytes).lines i b
wave_there limit bytes i low high keeps r2 =
    let x = comes_to limit bytes i low high keeps in
    asked_began (recording_in bytes).lines i x.0.wave (forward_to limit (recording_in bytes).lines i x.0 x.1 r2) x.1.wave
