-- Laws of counting the places that have something. Assumes nothing.
use Prim.Native.Nat.{ℕ, zero, suc, ◌+◌, ◌-◌, ◌≤◌, ◌<◌}
use mathlib.Core.Path.{◌≡◌, subst}
use mathlib.Core.Logic.{◌↔◌}
use native.Mathlib.Omega.{arith}
use lib.Dec.{leb}
use borrow.Author.Tests.{leb-true, leb-false}
use Rattle.basics.proofs.Bools.{by-test}
use Rattle.rules.specs.Totals.{Number, none, more, other}

-- what is true of the same places has the same number
pub number-map : (P Q : ℕ → Type 0) (n c : ℕ) → ((x : ℕ) → x < n → P x ↔ Q x) → Number P n c → Number Q n c
number-map P Q _ _ f none = none
number-map P Q _ _ f (more {n} {c} p h) = more ((f n (omega arith)).0 p) (number-map P Q n c (λ x lt. f x (omega arith)) h)
number-map P Q _ _ f (other {n} {c} p h) = other (λ q. p ((f n (omega arith)).1 q)) (number-map P Q n c (λ x lt. f x (omega arith)) h)

-- n places more, all of which have it
pub number-all : (P : ℕ → Type 0) (a n c : ℕ) → ((x : ℕ) → a ≤ x → x < a + n → P x) → Number P a c → Number P (a + n) (c + n)
number-all P a zero c f h =
    let e : c ≡ c + 0 = omega arith in
    let g : a ≡ a + 0 = omega arith in
    subst (λ k. Number P k (c + 0)) g (subst (Number P a) e h)
number-all P a (suc n) c f h =
    let e : c + n + 1 ≡ c + suc n = omega arith in
    let g : suc (a + n) ≡ a + suc n = omega arith in
    subst (λ k. Number P k (c + suc n)) g (subst (Number P (suc (a + n))) e (more (f (a + n) (omega arith) (omega arith)) (number-all P a n c (λ x le lt. f x le (omega arith)) h)))

-- n places more, none of which has it
pub number-none : (P : ℕ → Type 0) (a n c : ℕ) → ((x : ℕ) → a ≤ x → P x → ⊥) → Number P a c → Number P (a + n) c
number-none P a zero c f h = let g : a ≡ a + 0 = omega arith in subst (λ k. Number P k c) g h
number-none P a (suc n) c f h =
    let g : suc (a + n) ≡ a + suc n = omega arith in
    subst (λ k. Number P k c) g (other (f (a + n) (omega arith)) (number-none P a n c f h))

-- n places fewer, none of which had it
number_cut : (P : ℕ → Type 0) (a k m c : ℕ) → m ≡ a + k → ((x : ℕ) → a ≤ x → P x → ⊥) → Number P m c → Number P a c
number_cut P a zero m c e f h = let g : m ≡ a = omega arith in subst (λ x. Number P x c) g h
number_cut P a (suc k) _ _ e f none = absurd (omega arith)
number_cut P a (suc k) _ _ e f (more {n} {c} p h) = absurd (f n (omega arith) p)
number_cut P a (suc k) _ _ e f (other {n} {c} p h) = number_cut P a k n c (omega arith) f h

-- how many there are goes by no bound that all of them keep
pub number-to : (P : ℕ → Type 0) (a b c : ℕ) → ((x : ℕ) → P x → x < a) → ((x : ℕ) → P x → x < b) → Number P a c → Number P b c
number-to P a b c f g h =
    by-test (leb a b)
    (λ e. let le = leb-true a b e in
    let q : a + (b - a) ≡ b = omega arith in
    subst (λ k. Number P k c) q (number-none P a (b - a) c (λ x low p. let z = f x p in omega arith) h))
    (λ e. let gt = leb-false a b e in
    number_cut P b (a - b) a c (omega arith) (λ x low p. let z = g x p in omega arith) h)

pub number-most : (P : ℕ → Type 0) (n c : ℕ) → Number P n c → c ≤ n
number-most P _ _ none = omega arith
number-most P _ _ (more {n} {c} p h) = let z = number-most P n c h in omega arith
number-most P _ _ (other {n} {c} p h) = let z = number-most P n c h in omega arith

-- where there is one, one can be shown
pub number-some : (P : ℕ → Type 0) (n c : ℕ) → Number P n c → 1 ≤ c → (x : ℕ) × P x
number-some P _ _ none le = absurd (omega arith)
number-some P _ _ (more {n} {c} p h) le = (n, p)
number-some P _ _ (other {n} {c} p h) le = number-some P n c h le

-- and one that is there is counted
pub number_has : (P : ℕ → Type 0) (n c x : ℕ) → Number P n c → x < n → P x → 1 ≤ c
number_has P _ _ x none lt p = absurd (omega arith)
number_has P _ _ x (more {n} {c} q h) lt p = omega arith
number_has P _ _ x (other {n} {c} q h) lt p =
    by-test (leb n x)
    (λ e. let le = leb-true n x e in let same : x ≡ n = omega arith in absurd (q (subst P same p)))
    (λ e. let l = leb-false n x e in number_has P n c x h (omega arith) p)
