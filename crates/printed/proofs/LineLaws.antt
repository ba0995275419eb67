-- The letter of each kind of rule 8, and how long the lines are at most, where every number has twenty digits. Assumes nothing.
use Prim.Native.Nat.{ℕ, ◌≤◌}
use mathlib.Core.Bool.{Bool}
use mathlib.Core.List.{List, []}
use mathlib.Core.Path.{◌≡◌, ◌∙◌}
use native.Mathlib.Omega.{arith}
use lib.ListN.{length, length-append}
use lib.Dec.{eqb}
use Rattle.basics.specs.Lines.{one}
use Rattle.basics.specs.Numbers.{lawful_limit}
use borrow.Author.Tests.{eq-eqb, ne_eqb}
use Rattle.basics.proofs.Bools.{choice, cond-true, cond-false}
use Rattle.rules.specs.declared.Broken.{Broken}
use Rattle.rules.specs.declared.Tally.{Tally}
use Rattle.rules.specs.declared.Verdict.{Verdict}
use Rattle.rules.specs.declared.Verdict.TheVariants.{Conforming, Breach, OutOfBounds, TooMany, Torn}
use Rattle.feeding.specs.declared.Ending.{Ending}
use Rattle.feeding.specs.Input.{ending_of}
use Rattle.text.specs.Decimal.{decimal_of}
use Rattle.text.specs.Words.{word}
use Rattle.text.proofs.DecimalLaws.{decimal_length}
use Rattle.printed.specs.Lines.{totals_line, refused_line, kind_letter, breach_line, verdict_line, lines_of, page_of}

-- a number has twenty digits at most
pub most : (n : ℕ) → length (decimal_of n) ≤ 20
most n = (decimal_length n).1

totals-most : (t : Tally) (opened : Bool) → length (totals_line t opened) ≤ 164
unfolding totals_line
totals-most t opened =
    simp length-append
    (omega (arith, most t.records, most t.span, most t.starts, most t.acks, most t.aborted, most (one opened)))

pub refusal-most : (number : ℕ) → length (refused_line number) ≤ 29
unfolding refused_line
refusal-most number = simp length-append (omega (arith, most number))

-- a kind's letter
pub letter_a : (kind : ℕ) → kind ≡ 1 → kind_letter kind ≡ word "a"
unfolding kind_letter
letter_a kind e = cond-true _ _ (eq-eqb kind 1 e)

pub letter_b : (kind : ℕ) → (kind ≡ 1 → ⊥) → kind ≡ 2 → kind_letter kind ≡ word "b"
unfolding kind_letter
letter_b kind a e = cond-false _ _ (ne_eqb kind 1 a) ∙ cond-true _ _ (eq-eqb kind 2 e)

pub letter_c : (kind : ℕ) → (kind ≡ 1 → ⊥) → (kind ≡ 2 → ⊥) → kind ≡ 3 → kind_letter kind ≡ word "c"
unfolding kind_letter
letter_c kind a b e = cond-false _ _ (ne_eqb kind 1 a) ∙ cond-false _ _ (ne_eqb kind 2 b) ∙ cond-true _ _ (eq-eqb kind 3 e)

pub letter_none : (kind : ℕ) → (kind ≡ 1 → ⊥) → (kind ≡ 2 → ⊥) → (kind ≡ 3 → ⊥) → kind_letter kind ≡ []
unfolding kind_letter
letter_none kind a b c = cond-false _ _ (ne_eqb kind 1 a) ∙ cond-false _ _ (ne_eqb kind 2 b) ∙ cond-false _ _ (ne_eqb kind 3 c)

letter_most : (kind : ℕ) → length (kind_letter kind) ≤ 1
unfolding kind_letter
letter_most kind =
    let P : List ℕ → Type 0 = λ l. length l ≤ 1 in
    choice P (eqb kind 1) (λ _. omega arith) (λ _. choice P (eqb kind 2) (λ _. omega arith) (λ _. choice P (eqb kind 3) (λ _. omega arith) (λ _. omega arith)))

pub breach-most : (b : Broken) → length (breach_line b) ≤ 88
unfolding breach_line
breach-most b = simp length-append (omega (arith, most b.rule, letter_most b.kind, most b.place, most b.span))

verdict-most : (v : Verdict) → length (verdict_line v) ≤ 88
verdict-most Conforming = omega arith
verdict-most (Breach b) = breach-most b
verdict-most OutOfBounds = omega (arith, refusal-most 5)
verdict-most TooMany = omega (arith, refusal-most 8)
verdict-most Torn = omega (arith, refusal-most 1)

pub lines-most : (e : Ending) → length (lines_of e) ≤ 252
lines-most e =
    simp length-append (omega (arith, totals-most e.tally e.opened, verdict-most e.verdict))

-- and so is any text of the judging program
pub page_most : (limit : ℕ) (bytes : List ℕ) → length (page_of limit bytes) ≤ 252
page_most limit bytes =
    choice (λ (l : List ℕ). length l ≤ 252) (lawful_limit limit) (λ e. lines-most (ending_of limit bytes)) (λ e. short (refusal-most _))
  where
    short : {n : ℕ} → n ≤ 29 → n ≤ 252
    short h = omega arith
