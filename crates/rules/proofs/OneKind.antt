-- "No record meets 8b and 8c at once": RQST inactive two cycles before a START means that the wave began one cycle before it, and then it has had no
-- START. Of every recording, with no rule kept before. Assumes nothing.
use Prim.Native.Nat.{ℕ, zero, suc, ◌/◌}
use mathlib.Core.Bool.{Bool, true, false, not, cond, ◌&&◌}
use mathlib.Core.List.{List, [], ◌∷◌}
use mathlib.Core.Path.{◌≡◌, refl, sym, ap, subst}
use mathlib.Core.Logic.{inl, inr}
use lib.ListN.{length}
use lib.Dec.{eqb}
use borrow.Author.Tests.{eqb-false, not-true}
use Rattle.basics.proofs.Bools.{and_both}
use Rattle.basics.specs.Lines.{bit, active, active_below}
use Rattle.record.specs.Layout.{packed, fields_in, record_in, spare_in}
use Rattle.codes.specs.Parity.{parity_of}
use Rattle.codes.specs.Start.{block_of, unit_of}
use Rattle.codes.specs.Owed.{words_of}
use Rattle.rules.specs.declared.Rule.{Rule}
use Rattle.rules.specs.declared.Judge.{Judge}
use Rattle.rules.specs.declared.Tally.{Tally}
use Rattle.rules.specs.State.{diff_of, judge_of}
use Rattle.rules.specs.Bounds.{judge_bounds, tally_bounds}
use Rattle.rules.specs.Run.{rule_of, step_of, next_of}
use Rattle.rules.specs.Verdict.{refusal_of, refused_by, verdict_of, outcome_of}
use Rattle.rules.specs.Recording.{Lines, Recording, recording_in}
use Rattle.rules.specs.Thirteen.{Rule8a, Rule8b, Rule8c, from_third, rules, FirstOf, Breaks}
use Rattle.rules.specs.Exact.{After}
use Rattle.rules.specs.Kinds.{OneKind, parking, brief, soon, BothFail, Kinds}
use Rattle.rules.proofs.Ride.{began_once, began_twice, just_begun}
use Rattle.rules.proofs.Reach.{Reached, reached}
use Rattle.rules.proofs.Told.{past_is}

-- ---- of a recording
-- a START that breaks 8b is the wave's first,
brief-first : (r : Lines) (i : ℕ) → (Rule8b r i → ⊥) → Rule8c r i
brief-first r i n s b m u l = absurd (n (λ _ _. began_twice r i b m u l.turn.after l.turn.earlier))

-- and one that breaks 8a is of no wave
parked-long : (r : Lines) (i : ℕ) → (Rule8a r i → ⊥) → Rule8b r i
parked-long r i n s asked = absurd (n (λ _ none. absurd (none asked)))

parked_far : (r : Lines) (i : ℕ) → (Rule8a r i → ⊥) → Rule8c r i
parked_far r i n s b m u l = absurd (n (λ _ none. absurd (none (began_once r i b u))))

-- ---- the kind that is told
-- behind the first n rules of a list, none of which is rule 8
abbrev behind : ℕ → List (Rule × Type 0) → List (Rule × Type 0)
behind zero ps = ps
behind (suc n) [] = []
behind (suc n) (p ∷ ps) = behind n ps

abbrev others : ℕ → List (Rule × Type 0) → Bool
others zero ps = true
others (suc n) [] = true
others (suc n) (p ∷ ps) = not (eqb 8 p.0.number) && others n ps

passed : (n kind : ℕ) (ps : List (Rule × Type 0)) → others n ps ≡ true → FirstOf (record { number = 8; kind = kind }) ps → FirstOf (record { number = 8; kind = kind }) (behind n ps)
passed zero kind ps o f = f
passed (suc n) kind [] o f = f
passed (suc n) kind (p ∷ ps) o (inl f) = absurd (eqb-false 8 p.0.number (not-true _ (and_both _ (others n ps) o).0) (ap (λ (x : Rule). x.number) f.1))
passed (suc n) kind (p ∷ ps) o (inr f) = passed n kind ps (and_both (not (eqb 8 p.0.number)) (others n ps) o).1 f.1

one-kind : (limit : ℕ) (r : Recording) (i kind : ℕ) → Breaks limit r i (record { number = 8; kind = kind }) → OneKind r.lines i kind
one-kind limit r i kind h = by_reset (l i).reset (passed 2 kind (rules limit r i) refl h)
  where
    l : Lines
    l = r.lines

    name : Rule
    name = record { number = 8; kind = kind }

    told : (n : ℕ) → OneKind l i n → name ≡ record { number = 8; kind = n } → OneKind l i kind
    told n k e = subst (OneKind l i) (sym (ap (λ (x : Rule). x.kind) e)) k

    kinds : FirstOf name (behind 5 (from_third limit l i)) → OneKind l i kind
    kinds (inl a) = told 1 (parking a.0 (parked-long l i a.0) (parked_far l i a.0)) a.1
    kinds (inr (a, inl b)) = told 2 (brief a b.0 (brief-first l i b.0)) b.1
    kinds (inr (a, inr (b, inl c))) = told 3 (soon a b c.0) c.1
    kinds (inr (a, inr (b, inr f))) = absurd (passed 5 kind (behind 8 (from_third limit l i)) refl f.1)

    by_reset : (b : Bool) → FirstOf name (cond b [] (from_third limit l i)) → OneKind l i kind
    by_reset true f = absurd f
    by_reset false f = kinds (passed 5 kind (from_third limit l i) refl f)

-- ---- of a judge's state
led-to : (limit : ℕ) (past : List ℕ) (j : Judge) (t : Tally) → After limit past j t → j.wave.prior ≡ false → j.wave.since ≡ 3
led-to limit past j t a =
    let h = past_is limit past j t a in
    let r = recording_in past in
    let at = subst (Reached limit r (length past / 16)) h.run (reached limit past (length past / 16) h.low h.high) in
    just_begun r.lines at.place j.wave at.before.judge.wave

-- the two, by computing
at_last_lem : BothFail 0
unfolding bit active active_below packed fields_in record_in spare_in parity_of block_of unit_of words_of diff_of judge_of judge_bounds tally_bounds rule_of step_of next_of refusal_of refused_by verdict_of outcome_of
at_last_lem = record { bounded = refl; brief = refl; soon = refl; told = refl }

one-before : BothFail 1
unfolding bit active active_below packed fields_in record_in spare_in parity_of block_of unit_of words_of diff_of judge_of judge_bounds tally_bounds rule_of step_of next_of refusal_of refused_by verdict_of outcome_of
one-before = record { bounded = refl; brief = refl; soon = refl; told = refl }

pub kinds : Kinds
kinds = record { apart = λ r i b c. c (brief-first r i b); one = one-kind; led = led-to; at_last = at_last_lem; one_before = one-before }
