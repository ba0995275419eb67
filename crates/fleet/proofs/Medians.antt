-- The median of some numbers is what it is called. Assumes nothing.
use Prim.Native.Nat.{ℕ, ◌*◌, ◌≤◌, ◌<◌}
use mathlib.Core.Bool.{true, false≢true}
use mathlib.Core.List.Memᴰ
use mathlib.Core.List.{List, [], ◌∷◌}
use mathlib.Core.Logic.{⊎_elim}
use mathlib.Core.Path.{◌≡◌, refl, sym, ap, ◌∙◌}
use native.Mathlib.Omega.{arith}
use borrow.Author.Tests.{le-leb, leb-true}
use lib.Dec.{leb}
use lib.ListN.{length}
use Rattle.basics.specs.Lines.{one}
use Rattle.basics.proofs.Bools.{choice}
use Rattle.fleet.specs.Figures.{greatest_of, within, half_within, halving, median_of}
use Rattle.fleet.specs.Meaning.{OneOf, IsMedian}
use Rattle.fleet.proofs.Members.{one-some, least_is, greatest_is}

-- all of them are counted where none exceeds m
within_all : (m : ℕ) (xs : List ℕ) → ((x : ℕ) → OneOf x xs → x ≤ m) → within m xs ≡ length xs
within_all m [] h = refl
within_all m (x ∷ xs) h =
    let e : one (leb x m) ≡ 1 = ap one (le-leb x m (h x (Memᴰ.head refl))) in
    let r : within m xs ≡ length xs = within_all m xs (λ y i. h y (Memᴰ.tail i)) in
    omega arith

-- the test, and what it says
half_so : (all : List ℕ) (x : ℕ) → length all ≤ 2 * within x all → half_within all x ≡ true
unfolding half_within
half_so all x h = le-leb _ _ h

half_is : (all : List ℕ) (x : ℕ) → half_within all x ≡ true → length all ≤ 2 * within x all
unfolding half_within
half_is all x e = leb-true _ _ e

-- those that at least half don't exceed are chosen, and no others
module _ (all : List ℕ) where
  pub halving_in : (xs : List ℕ) (x : ℕ) → OneOf x xs → half_within all x ≡ true → OneOf x (halving all xs)
  halving_in [] x i h = absurd (Memᴰ.not-nil i)
  halving_in (y ∷ xs) x i h =
      choice (OneOf x) (half_within all y)
      (λ _. ⊎_elim Memᴰ.head (λ d. Memᴰ.tail (halving_in xs x d h)) (Memᴰ.cases_cons i))
      (λ no-half. ⊎_elim (λ (e : x ≡ y). absurd (false≢true (sym no-half ∙ ap (half_within all) (sym e) ∙ h))) (λ d. halving_in xs x d h) (Memᴰ.cases_cons i))

  pub halving_of : (xs : List ℕ) (x : ℕ) → OneOf x (halving all xs) → OneOf x xs × (half_within all x ≡ true)
  halving_of [] x i = absurd (Memᴰ.not-nil i)
  halving_of (y ∷ xs) x i =
      choice (λ (ys : List ℕ). OneOf x ys → OneOf x (y ∷ xs) × (half_within all x ≡ true)) (half_within all y)
      (λ h j. ⊎_elim (λ (e : x ≡ y). (Memᴰ.head e, ap (half_within all) e ∙ h)) (λ d. later (halving_of xs x d)) (Memᴰ.cases_cons j))
      (λ _ j. later (halving_of xs x j))
      i
    where
      later : OneOf x xs × (half_within all x ≡ true) → OneOf x (y ∷ xs) × (half_within all x ≡ true)
      later p = (Memᴰ.tail p.0, p.1)

-- the greatest is one of those chosen
greatest_half : (xs : List ℕ) → 0 < length xs → OneOf (greatest_of xs) (halving xs xs)
greatest_half xs h =
    let g = greatest_is xs h in
    let w = within_all (greatest_of xs) xs g.none_above in
    halving_in xs xs _ g.member (half_so xs _ (omega arith))

pub median_is : (xs : List ℕ) → 0 < length xs → IsMedian xs (median_of xs)
median_is xs h =
    let m = least_is (halving xs xs) (one-some (greatest_half xs h)) in
    let o = halving_of xs xs _ m.member in
    record { member = o.0; half = half_is xs _ o.1; first = λ x i k. m.none_below x (halving_in xs xs x i (half_so xs x k)) }
