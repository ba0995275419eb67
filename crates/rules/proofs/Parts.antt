-- "judged in one call or many, the outcome is the same": a recording that is cut at any records and given part by part. Assumes nothing.
use Prim.Native.Nat.{ℕ, ◌+◌, ◌/◌, ◌%◌, ◌≤◌}
use mathlib.Core.Bool.{true, false}
use mathlib.Core.List.{List, [], ◌∷◌, ◌++◌}
use mathlib.Core.Path.{◌≡◌, refl, sym, ap, ◌∙◌}
use native.Mathlib.Omega.{arith}
use lib.ListN.{length, length-append}
use lib.Dec.{eqb}
use borrow.Author.Tests.{eqb-true, eqb-false, eq-eqb, ne_eqb}
use Rattle.basics.proofs.Bools.{cond-true, cond-false, by-test}
use Rattle.rules.specs.declared.Judge.{Judge}
use Rattle.rules.specs.declared.Tally.{Tally}
use Rattle.rules.specs.declared.Progress.{Progress}
use Rattle.rules.specs.declared.Verdict.TheVariants.{Conforming}
use Rattle.rules.specs.Bounds.{SoundJudge, SoundTally}
use Rattle.rules.specs.Run.{records_in, from, run_of}
use Rattle.rules.specs.Verdict.{most_records, refusal_of, verdict_of, outcome_in, outcome_of}
use Rattle.rules.specs.Exact.{conforms, calls_of, joined, Whole}
use Rattle.rules.proofs.Laws.{Tidy, run_tidy, run_parts, run_sound, run_stopped, none-refused, refusal-none, outcome-judged}

conforms_open : (p : Progress) → p.rule ≡ 0 → conforms (verdict_of p) ≡ true
unfolding verdict_of
conforms_open p e = ap conforms (cond-true _ _ (eq-eqb p.rule 0 e))

conforms_stopped : (p : Progress) → (p.rule ≡ 0 → ⊥) → conforms (verdict_of p) ≡ false
unfolding verdict_of
conforms_stopped p ne = ap conforms (cond-false _ _ (ne_eqb p.rule 0 ne))

whole-joined : (parts : List (List ℕ)) → Whole parts → length (joined parts) % 16 ≡ 0
whole-joined [] w = refl
whole-joined (part ∷ parts) w =
    let a = length-append part (joined parts) in
    let b = w.0 in
    let c = whole-joined parts w.1 in
    omega arith

-- from any progress: the calls give what one run over all the records gives
from-here : (parts : List (List ℕ)) (p : Progress) → Tidy p → Whole parts → SoundJudge p.judge → SoundTally p.tally → p.tally.records + length (joined parts) / 16 ≤ most_records
    → calls_of parts (outcome_in p) ≡ outcome_in (run_of p (records_in (length (joined parts) / 16) (joined parts)))
from-here [] p h w hj ht room = refl
from-here (part ∷ parts) p h w hj ht room =
    by-test (eqb p.rule 0) (λ e. going (eqb-true p.rule 0 e) (λ a b c. from-here parts (run_of p (records_in (length part / 16) part)) (run_tidy p (records_in (length part / 16) part) h) w.1 a b c)) (λ e. stopped (eqb-false p.rule 0 e) (from-here parts p h w.1 hj ht (omega (arith, sizes))))
  where
    sizes : length (part ++ joined parts) ≡ length part + length (joined parts)
    sizes = length-append part (joined parts)

    next : Progress
    next = run_of p (records_in (length part / 16) part)

    stopped : (p.rule ≡ 0 → ⊥) → calls_of parts (outcome_in p) ≡ outcome_in (run_of p (records_in (length (joined parts) / 16) (joined parts)))
        → calls_of (part ∷ parts) (outcome_in p) ≡ outcome_in (run_of p (records_in (length (part ++ joined parts) / 16) (part ++ joined parts)))
    stopped ne rest =
        ap (calls_of parts) (cond-false _ _ (conforms_stopped p ne)) ∙ rest
        ∙ ap outcome_in (run_stopped p (records_in (length (joined parts) / 16) (joined parts)) ne ∙ sym (run_stopped p (records_in (length (part ++ joined parts) / 16) (part ++ joined parts)) ne))

    going : p.rule ≡ 0
        → (SoundJudge next.judge → SoundTally next.tally → next.tally.records + length (joined parts) / 16 ≤ most_records → calls_of parts (outcome_in next) ≡ outcome_in (run_of next (records_in (length (joined parts) / 16) (joined parts))))
        → calls_of (part ∷ parts) (outcome_in p) ≡ outcome_in (run_of p (records_in (length (part ++ joined parts) / 16) (part ++ joined parts)))
    going e rest =
        let s = run_sound p (length part / 16) part hj ht in
        let even = w.0 in
        let call = outcome-judged part p.judge p.tally (refusal-none (length part) p.judge p.tally hj ht (omega (arith, sizes)) even) in
        ap (calls_of parts) (cond-true _ _ (conforms_open p e) ∙ call ∙ ap (λ (x : Progress). outcome_in (run_of x (records_in (length part / 16) part))) (sym (h e)))
        ∙ rest s.judge s.tally (omega (arith, sizes, s.count))
        ∙ ap outcome_in (sym (run_parts p part (joined parts) even))

-- one call on all the bytes, where it is accepted, is as many calls on its parts
pub one_call_or-many : (parts : List (List ℕ)) (j : Judge) (t : Tally) → Whole parts → refusal_of (length (joined parts)) j t ≡ 0
    → calls_of parts (record { verdict = Conforming; judge = j; tally = t }) ≡ outcome_of (joined parts) j t
unfolding verdict_of
one_call_or-many parts j t w e =
    let g = none-refused (length (joined parts)) j t e in
    from-here parts (from j t) (λ _. refl) w g.0 g.1.0 g.1.1.0 ∙ sym (outcome-judged (joined parts) j t e)
