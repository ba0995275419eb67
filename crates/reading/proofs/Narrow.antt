-- A hold limit that was narrowed is lawful where it was, and is then the same; so what begins with it begins as with the limit itself. Assumes
-- nothing.
use Prim.Native.Nat.{ℕ, min}
use mathlib.Core.Bool.{true, false, cond, false≢true}
use mathlib.Core.Path.{◌≡◌, refl, sym, ap, ◌∙◌}
use native.Mathlib.Omega.{arith}
use lib.Dec.{leb}
use borrow.Author.Tests.{leb-true, le-leb}
use Rattle.std.specs.Prelude.{Result, Ok, Err}
use Rattle.basics.specs.declared.refusal.Refusal.{Refusal}
use Rattle.basics.specs.Answers.{Answer, accepted, refused, refusal_number, answered}
use Rattle.std.specs.Result.{result_unwrap_or}
use Rattle.basics.specs.Numbers.{lawful_limit}
use Rattle.basics.proofs.Refusals.{some_number}
use Rattle.basics.proofs.Bools.{by-test, cond-true, cond-false, and_both, both_and, not-true}

module _ (limit narrow : ℕ) (is : narrow ≡ min limit 255) where
  pub narrow_same : lawful_limit narrow ≡ true → limit ≡ narrow
  narrow_same lawful =
      let z = and_both (leb 1 narrow) (leb narrow 16) lawful in
      let high = leb-true narrow 16 z.1 in
      omega arith

  still-lawful : lawful_limit limit ≡ true → lawful_limit narrow ≡ true
  still-lawful lawful =
      let z = and_both (leb 1 limit) (leb limit 16) lawful in
      let low = leb-true 1 limit z.0 in
      let high = leb-true limit 16 z.1 in
      both_and (leb 1 narrow) (leb narrow 16) (le-leb 1 narrow (omega arith)) (le-leb narrow 16 (omega arith))

  pub narrow_lawful : lawful_limit narrow ≡ lawful_limit limit
  narrow_lawful =
      by-test (lawful_limit limit)
      (λ e. still-lawful e ∙ sym e)
      (λ e. not-true (lawful_limit narrow) (λ l. absurd (false≢true (sym e ∙ ap lawful_limit (narrow_same l) ∙ l))) ∙ sym e)

-- what a program begins with: what a call with the narrowed limit answers, which refuses one that is not lawful by 3
module _ {S : Type 0} (good : ℕ → S) (zeros : S) (limit narrow : ℕ) (is : narrow ≡ min limit 255) (begun : Result S Refusal)
    (be : answered zeros begun ≡ cond (lawful_limit narrow) (accepted (good narrow)) (refused 3 zeros)) where
  pub begun_lawful : (s : S) → begun ≡ Ok s → (lawful_limit limit ≡ true) × (s ≡ good limit)
  begun_lawful s e =
      let ok : accepted s ≡ cond (lawful_limit narrow) (accepted (good narrow)) (refused 3 zeros) = sym (ap (answered zeros) e) ∙ be in
      by-test (lawful_limit narrow)
      (λ l. (sym (narrow_lawful limit narrow is) ∙ l, ap (λ (a : Answer S). a.value) (ok ∙ cond-true _ _ l) ∙ ap good (sym (narrow_same limit narrow is l))))
      (λ l. let z : ◌≡◌ {A = ℕ} 0 3 = ap (λ (a : Answer S). a.number) (ok ∙ cond-false _ _ l) in absurd (omega arith))

  pub begun_unlawful : (r : Refusal) → begun ≡ Err r → (lawful_limit limit ≡ false) × (refusal_number r ≡ 3)
  begun_unlawful r e =
      let is_not : refused (refusal_number r) zeros ≡ cond (lawful_limit narrow) (accepted (good narrow)) (refused 3 zeros) = sym (ap (answered zeros) e) ∙ be in
      by-test (lawful_limit narrow)
      (λ l. let z = ap (λ (a : Answer S). a.number) (is_not ∙ cond-true _ _ l) in let some = some_number r in absurd (omega arith))
      (λ l. (sym (narrow_lawful limit narrow is) ∙ l, ap (λ (a : Answer S). a.number) (is_not ∙ cond-false _ _ l)))

-- a refused state is handed back
pub handed_back : {S : Type 0} (back : S) (r : Result S Refusal) → result_unwrap_or r back ≡ (answered back r).value
handed_back back (Ok s) = refl
handed_back back (Err e) = refl
