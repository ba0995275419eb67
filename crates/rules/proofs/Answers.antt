-- The enums say no less than document 01's numbers and values, and a verdict's number is the call's refusal. Assumes nothing.
use Prim.Native.Nat.{ℕ, ◌+◌, ◌/◌, ◌%◌}
use mathlib.Core.Bool.{Bool, true, false, cond, ◌&&◌}
use mathlib.Core.List.{List}
use mathlib.Core.Path.{◌≡◌, refl, sym, ap, ◌∙◌}
use lib.ListN.{length}
use lib.Dec.{eqb, leb}
use borrow.Author.Tests.{eqb-true, eqb-false}
use Rattle.basics.specs.Order.{unless}
use Rattle.std.specs.Prelude.{Result}
use Rattle.basics.specs.Answers.{Answer}
use Rattle.basics.specs.declared.refusal.Refusal.{Refusal}
use Rattle.basics.proofs.Refusals.{result_of, result_again}
use Rattle.basics.proofs.Bools.{choice, by-test}
use Rattle.rules.specs.declared.Judge.{Judge}
use Rattle.rules.specs.declared.Tally.{Tally}
use Rattle.rules.specs.declared.Progress.{Progress}
use Rattle.rules.specs.declared.Broken.{Broken}
use Rattle.rules.specs.declared.Outcome.{Outcome}
use Rattle.rules.specs.declared.Verdict.{Verdict}
use Rattle.rules.specs.declared.Verdict.TheVariants.{Conforming, Breach, OutOfBounds, TooMany, Torn}
use Rattle.rules.specs.Bounds.{judge_bounds, tally_bounds}
use Rattle.rules.specs.Run.{from, run_of, records_in}
use Rattle.rules.specs.Verdict.{most_records, no_judge, fresh_answer, refusal_of, refused_by, verdict_of, outcome_of, Finding, verdict_answer}
use Rattle.rules.proofs.Laws.{outcome-judged, outcome-refused}

-- ---- nothing is lost
-- the constructor's answer, from its number and value
pub fresh_back : (f : Result Judge Refusal) → result_of (fresh_answer f) ≡ f
fresh_back = result_again no_judge

-- a breach and a verdict, from its number and values
abbrev pub broken_from : Finding → Broken
broken_from f = record { rule = f.rule; kind = f.kind; place = f.place; span = f.span }

abbrev verdict_from : Answer Finding → Verdict
verdict_from a =
    cond (eqb a.number 0)
    (cond a.value.breach (Breach (broken_from a.value)) Conforming)
    (refused_by a.number)

pub verdict_back : (v : Verdict) → verdict_from (verdict_answer v) ≡ v
unfolding refused_by
verdict_back Conforming = refl
verdict_back (Breach b) = refl
verdict_back OutOfBounds = refl
verdict_back TooMany = refl
verdict_back Torn = refl

-- ---- the number of a call's answer
judged-number : (p : Progress) → (verdict_answer (verdict_of p)).number ≡ 0
unfolding verdict_of
judged-number p = choice (λ (v : Verdict). (verdict_answer v).number ≡ 0) (eqb p.rule 0) (λ _. refl) (λ _. refl)

refused-number : (size : ℕ) (j : Judge) (t : Tally) → (refusal_of size j t ≡ 0 → ⊥) → (verdict_answer (refused_by (refusal_of size j t))).number ≡ refusal_of size j t
unfolding refused_by refusal_of
refused-number size j t = go (judge_bounds j && tally_bounds t) (leb (t.records + size / 16) most_records) (eqb (size % 16) 0)
  where
    go : (a b c : Bool) → (unless a 5 (unless b 8 (unless c 1 0)) ≡ 0 → ⊥) → (verdict_answer (refused_by (unless a 5 (unless b 8 (unless c 1 0))))).number ≡ unless a 5 (unless b 8 (unless c 1 0))
    go false b c ne = refl
    go true false c ne = refl
    go true true false ne = refl
    go true true true ne = absurd (ne refl)

-- 0 for a call that is judged, else 5, 8 or 1
pub verdict-number : (bytes : List ℕ) (j : Judge) (t : Tally) → (verdict_answer (outcome_of bytes j t).verdict).number ≡ refusal_of (length bytes) j t
verdict-number bytes j t =
    by-test (eqb (refusal_of (length bytes) j t) 0)
    (λ e. let z = eqb-true (refusal_of (length bytes) j t) 0 e in
    ap (λ (o : Outcome). (verdict_answer o.verdict).number) (outcome-judged bytes j t z) ∙ judged-number (run_of (from j t) (records_in (length bytes / 16) bytes)) ∙ sym z)
    (λ e. let ne = eqb-false (refusal_of (length bytes) j t) 0 e in
    ap (λ (o : Outcome). (verdict_answer o.verdict).number) (outcome-refused bytes j t ne) ∙ refused-number (length bytes) j t ne)
