-- Fewer than half of the numbers are below the median. Assumes nothing.
use Prim.Native.Nat.{ℕ, zero, suc, ◌*◌, ◌≤◌, ◌<◌}
use mathlib.Core.List.Memᴰ
use mathlib.Core.List.{List, [], ◌∷◌}
use mathlib.Core.Logic.{◌⊎◌, inl, inr, ⊎_elim}
use mathlib.Core.Path.{◌≡◌, refl, sym, ap, ◌∙◌}
use native.Mathlib.Omega.{arith}
use borrow.Author.Tests.{le-leb, lt-leb, eqb-true, eqb-false, leb-true, leb-false}
use lib.Dec.{leb, eqb}
use lib.ListN.{length}
use Rattle.basics.specs.Lines.{one}
use Rattle.basics.proofs.Bools.{by-test}
use Rattle.fleet.specs.Figures.{within}
use Rattle.fleet.specs.Meaning.{OneOf, IsMedian}
use Rattle.fleet.proofs.Members.{one-some}

-- a number that doesn't exceed k + 1 and isn't it doesn't exceed k
one_less : (k x : ℕ) → (x ≡ suc k → ⊥) → one (leb x (suc k)) ≡ one (leb x k)
one_less k x other =
    by-test (leb x k)
    (λ e. let l : x ≤ k = leb-true x k e in ap one (le-leb x (suc k) (let z : x ≤ suc k = omega arith in z)) ∙ sym (ap one e))
    (λ e. let l : k < x = leb-false x k e in ap one (lt-leb x (suc k) (let z : suc k < x = above l other in z)) ∙ sym (ap one e))
  where
    above : k < x → (x ≡ suc k → ⊥) → suc k < x
    above l o = omega arith

-- k + 1 is one of the numbers, or no more of them don't exceed it than k
within_less : (k : ℕ) (xs : List ℕ) → OneOf (suc k) xs ⊎ (within (suc k) xs ≡ within k xs)
within_less k [] = inr refl
within_less k (x ∷ xs) =
    by-test (eqb x (suc k))
    (λ e. inl (Memᴰ.head (sym (eqb-true x (suc k) e))))
    (λ e. ⊎_elim (λ i. inl (Memᴰ.tail i)) (λ (same : within (suc k) xs ≡ within k xs). inr (let z = one_less k x (eqb-false x (suc k) e) in omega arith)) (within_less k xs))

within_none : (xs : List ℕ) → OneOf 0 xs ⊎ (within 0 xs ≡ 0)
within_none [] = inr refl
within_none (zero ∷ xs) = inl (Memᴰ.head refl)
within_none (suc x ∷ xs) = ⊎_elim (λ i. inl (Memᴰ.tail i)) (λ (none : within 0 xs ≡ 0). inr (let z = ap one (lt-leb (suc x) 0 (omega arith)) in omega arith)) (within_none xs)

-- one of the numbers that is below the median
member_below : (xs : List ℕ) (m : ℕ) → IsMedian xs m → (k : ℕ) → OneOf k xs → k < m → 2 * within k xs < length xs
member_below xs m h k i l =
    by-test (leb (length xs) (2 * within k xs))
    (λ e. let f = h.first k i (leb-true _ _ e) in absurd (omega arith))
    (λ e. leb-false _ _ e)

-- AT LEAST HALF ARE NOT BELOW THE MEDIAN EITHER: fewer than half don't exceed any k below it, one of the numbers or not
pub fewer_below : (xs : List ℕ) (m : ℕ) → IsMedian xs m → (k : ℕ) → k < m → 2 * within k xs < length xs
fewer_below xs m h zero l =
    ⊎_elim (λ i. member_below xs m h 0 i l) (λ (e : within 0 xs ≡ 0). let s = one-some h.member in omega arith) (within_none xs)
fewer_below xs m h (suc k) l =
    ⊎_elim (λ i. member_below xs m h (suc k) i l)
    (λ (e : within (suc k) xs ≡ within k xs). let f = fewer_below xs m h k (omega arith) in omega arith)
    (within_less k xs)
