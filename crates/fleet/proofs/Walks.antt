-- Laws of a walk along the numbers: what a definition over a list says of those that are left. Assumes nothing.
use Prim.Native.Nat.{ℕ, suc, max, ◌+◌, ◌-◌, ◌*◌, ◌≤◌, ◌<◌, min}
use mathlib.Core.Bool.{Bool, true, false, cond}
use mathlib.Core.List.{List, [], ◌∷◌, foldl}
use mathlib.Core.Path.{◌≡◌, refl, sym, ap, ◌∙◌}
use native.Mathlib.Omega.{arith}
use native.Mathlib.Numerals.{add-one}
use lib.ListN.{length, get_or, drop, drop_of_length-le}
use lib.Seq.{drop-cons}
use borrow.Author.Tests.{le-leb, lt-leb, leb-true, leb-false}
use lib.Dec.{leb}
use Rattle.basics.proofs.Bools.{push, by-test}
use Rattle.std.specs.Prelude.{Option, Some, None}
use Rattle.std.specs.List.{fold, filter, reduce}
use Rattle.std.specs.Option.{option_map, unwrap_or}
use Rattle.basics.specs.Lines.{one}
use Rattle.basics.proofs.Bits.{one-most}
use Rattle.fleet.proofs.Members.{greatest_start}
use Rattle.fleet.specs.Figures.{least_of, greatest_of, within, half_within, halving}

module _ (xs : List ℕ) (at : ℕ) where
  -- of the numbers that are left, the first and the others
  pub onward : {A : Type 0} (f : List ℕ → A) → at < length xs → f (drop at xs) ≡ f (get_or xs at 0 ∷ drop (at + 1) xs)
  onward f h = ap f (drop-cons xs at 0 h ∙ ap (λ (k : ℕ). get_or xs at 0 ∷ drop k xs) (sym (add-one at)))

  -- none is left
  pub ended : {A : Type 0} (f : List ℕ → A) → length xs ≤ at → f (drop at xs) ≡ f []
  ended f h = ap f (drop_of_length-le xs h)

-- the least of all is the least of the first and the others
pub least_start : (xs : List ℕ) → 0 < length xs → foldl min (get_or xs 0 0) (drop 1 xs) ≡ least_of xs
least_start [] h = absurd (omega arith)
least_start (x ∷ xs) h = refl

pub least-none : (xs : List ℕ) → length xs ≡ 0 → least_of xs ≡ 0
least-none [] e = refl
least-none (x ∷ xs) e = absurd (omega arith)

-- std's words for what a chain of iterators makes, and the figures'
pub folded : (f : ℕ → ℕ → ℕ) (m : ℕ) (xs : List ℕ) → fold f m xs ≡ foldl f m xs
folded f m [] = refl
folded f m (x ∷ xs) = folded f (f m x) xs

pub least_by : (r : Option ℕ) (xs : List ℕ) → option_map (λ x. x) r ≡ reduce min xs → unwrap_or r 0 ≡ least_of xs
least_by None [] e = refl
least_by (Some v) [] e = cc
least_by None (x ∷ xs) e = cc
least_by (Some v) (x ∷ xs) e = let q : v ≡ fold min x xs = cc in q ∙ folded min x xs

pub greatest_by : (r : Option ℕ) (xs : List ℕ) → option_map (λ x. x) r ≡ reduce max xs → unwrap_or r 0 ≡ greatest_of xs
greatest_by None [] e = refl
greatest_by (Some v) [] e = cc
greatest_by None (x ∷ xs) e = cc
greatest_by (Some v) (x ∷ xs) e = let q : v ≡ fold max x xs = cc in q ∙ folded max x xs ∙ sym (greatest_start x xs)

pub filtered : (all xs : List ℕ) → filter (half_within all) xs ≡ halving all xs
filtered all [] = refl
filtered all (x ∷ xs) = ap (λ (r : List ℕ). cond (half_within all x) (x ∷ r) r) (filtered all xs)

pub counted : (m : ℕ) (xs : List ℕ) → length (filter (λ x. leb x m) xs) ≡ within m xs
counted m [] = refl
counted m (x ∷ xs) =
    push length (leb x m) (x ∷ filter (λ y. leb y m) xs) (filter (λ y. leb y m) xs) ∙ one_more (leb x m) (counted m xs)
  where
    one_more : (t : Bool) → length (filter (λ y. leb y m) xs) ≡ within m xs → cond t (suc (length (filter (λ y. leb y m) xs))) (length (filter (λ y. leb y m) xs)) ≡ one t + within m xs
    one_more true r = omega arith
    one_more false r = omega arith

pub counted_most : (m : ℕ) (xs : List ℕ) → within m xs ≤ length xs
counted_most m [] = omega arith
counted_most m (x ∷ xs) = let r = counted_most m xs in omega (arith, one-most (leb x m))

-- so many are at least half of all where the others are no more
pub half_test : (count all : ℕ) → count ≤ all → leb (all - count) count ≡ leb all (2 * count)
half_test count all h =
    by-test (leb (all - count) count)
    (λ e. let l : all - count ≤ count = leb-true (all - count) count e in e ∙ sym (le-leb all (2 * count) (omega arith)))
    (λ e. let l : count < all - count = leb-false (all - count) count e in e ∙ sym (lt-leb all (2 * count) (omega arith)))

-- the test by their count
pub half_by : (all : List ℕ) (x count : ℕ) (test : Bool) → count ≡ within x all → test ≡ leb (length all) (2 * count) → half_within all x ≡ test
unfolding half_within
half_by all x count test e t = ap (λ (k : ℕ). leb (length all) (2 * k)) (sym e) ∙ sym t
