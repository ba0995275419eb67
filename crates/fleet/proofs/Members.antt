-- The least and the greatest of some numbers are what they are called. Assumes nothing.
use Prim.Native.Nat.{ℕ, ◌≤◌, ◌<◌, min, max}
use mathlib.Core.List.Memᴰ
use mathlib.Core.List.{List, [], ◌∷◌, foldl}
use mathlib.Core.Logic.{◌⊎◌, inl, inr, ⊎_elim}
use mathlib.Core.Path.{◌≡◌, refl, ap, ◌∙◌}
use native.Mathlib.Omega.{arith}
use borrow.Author.Tests.{leb-true, leb-false}
use lib.Dec.{leb}
use lib.ListN.{length}
use Rattle.basics.proofs.Bools.{by-test}
use Rattle.fleet.specs.Figures.{least_of, greatest_of}
use Rattle.fleet.specs.Meaning.{OneOf, IsLeast, IsGreatest}

-- ---- one of the numbers
pub one-some : {x : ℕ} {xs : List ℕ} → OneOf x xs → 0 < length xs
one-some {xs = []} i = absurd (Memᴰ.not-nil i)
one-some {xs = y ∷ xs} i = omega arith

-- what holds of the first and of each of the others holds of all
pub each : {P : ℕ → Type 0} {y : ℕ} {xs : List ℕ} → P y → ((x : ℕ) → OneOf x xs → P x) → (x : ℕ) → OneOf x (y ∷ xs) → P x
each {P} first others x i = ⊎_elim (λ (e : x ≡ _). rw e first) (others x) (Memᴰ.cases_cons i)

-- where one of two is chosen each time, one of all is chosen in the end
chosen : {f : ℕ → ℕ → ℕ} → ((a b : ℕ) → (f a b ≡ a) ⊎ (f a b ≡ b)) → (m : ℕ) (xs : List ℕ) → OneOf (foldl f m xs) (m ∷ xs)
chosen picks m [] = Memᴰ.head refl
chosen {f} picks m (x ∷ xs) = ⊎_elim (λ e. ⊎_elim (first e) (second e) (picks m x)) (λ d. Memᴰ.tail (Memᴰ.tail d)) (Memᴰ.cases_cons (chosen picks (f m x) xs))
  where
    first : foldl f (f m x) xs ≡ f m x → f m x ≡ m → OneOf (foldl f (f m x) xs) (m ∷ x ∷ xs)
    first e d = Memᴰ.head (e ∙ d)

    second : foldl f (f m x) xs ≡ f m x → f m x ≡ x → OneOf (foldl f (f m x) xs) (m ∷ x ∷ xs)
    second e d = Memᴰ.tail (Memᴰ.head (e ∙ d))

-- ---- the least
lower_one : (a b : ℕ) → (min a b ≡ a) ⊎ (min a b ≡ b)
lower_one a b =
    by-test (leb a b)
    (λ e. let l : a ≤ b = leb-true a b e in inl (omega arith))
    (λ e. let l : b < a = leb-false a b e in inr (omega arith))

least-most : (m : ℕ) (xs : List ℕ) → foldl min m xs ≤ m
least-most m [] = omega arith
least-most m (x ∷ xs) = let h = least-most (min m x) xs in omega arith

least_below : (m : ℕ) (xs : List ℕ) (x : ℕ) → OneOf x (m ∷ xs) → foldl min m xs ≤ x
least_below m [] = each (omega arith) (λ x i. absurd (Memᴰ.not-nil i))
least_below m (y ∷ xs) =
    let h = least-most (min m y) xs in
    each (omega arith) (each (omega arith) (λ x i. least_below (min m y) xs x (Memᴰ.tail i)))

pub least_is : (xs : List ℕ) → 0 < length xs → IsLeast xs (least_of xs)
least_is [] h = absurd (omega arith)
least_is (x ∷ xs) h = record { member = chosen lower_one x xs; none_below = least_below x xs }

-- ---- the greatest
higher_one : (a b : ℕ) → (max a b ≡ a) ⊎ (max a b ≡ b)
higher_one a b =
    by-test (leb a b)
    (λ e. let l : a ≤ b = leb-true a b e in inr (omega arith))
    (λ e. let l : b < a = leb-false a b e in inl (omega arith))

greatest_least : (m : ℕ) (xs : List ℕ) → m ≤ foldl max m xs
greatest_least m [] = omega arith
greatest_least m (x ∷ xs) = let h = greatest_least (max m x) xs in omega arith

greatest_above : (m : ℕ) (xs : List ℕ) (x : ℕ) → OneOf x (m ∷ xs) → x ≤ foldl max m xs
greatest_above m [] = each (omega arith) (λ x i. absurd (Memᴰ.not-nil i))
greatest_above m (y ∷ xs) =
    let h = greatest_least (max m y) xs in
    each (omega arith) (each (omega arith) (λ x i. greatest_above (max m y) xs x (Memᴰ.tail i)))

pub greatest_start : (x : ℕ) (xs : List ℕ) → greatest_of (x ∷ xs) ≡ foldl max x xs
greatest_start x xs = ap (λ (m : ℕ). foldl max m xs) (let z : max 0 x ≡ x = omega arith in z)

pub greatest_is : (xs : List ℕ) → 0 < length xs → IsGreatest xs (greatest_of xs)
greatest_is [] h = absurd (omega arith)
greatest_is (x ∷ xs) h =
    let e = greatest_start x xs in
    record {
      member = Memᴰ.cast e (chosen higher_one x xs);
      none_above = λ y i. let l = greatest_above x xs y i in omega arith;
    }
