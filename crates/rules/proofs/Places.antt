-- Laws of places and counts, and of tests against what they say. Assumes nothing.
use Prim.Native.Nat.{ℕ, zero, suc, ◌≤◌, ◌<◌}
use mathlib.Core.Bool.{Bool, true, false, not, ◌&&◌, ◌||◌, false≢true}
use mathlib.Core.Path.{◌≡◌, refl, sym, ap, subst, ◌∙◌}
use mathlib.Core.Logic.{◌↔◌}
use native.Mathlib.Omega.{arith}
use lib.Dec.{ltb, leb, eqb}
use borrow.Author.Tests.{ltb-true, ltb-false, leb-true, le-leb, eqb-true, eq-eqb}
use Rattle.basics.specs.Lines.{one}
use Rattle.basics.proofs.Bools.{and_both, both_and, by-test}
use Rattle.basics.specs.Order.{implies}
use Rattle.rules.specs.Recording.{count}

-- ---- places
-- a place below i + 1 is below i or is i
pub below : {P : Type 0} (k i : ℕ) → k < suc i → (k < i → P) → (k ≡ i → P) → P
below {P} k i h p q =
    by-test (ltb k i) (λ e. p (ltb-true k i e)) (λ e. q (let z = ltb-false k i e in let y : k ≡ i = omega arith in y))

-- two places are one if neither is below the other
pub same_place : (m n : ℕ) → (m < n → ⊥) → (n < m → ⊥) → m ≡ n
same_place m n f g =
    by-test (ltb m n) (λ e. absurd (f (ltb-true m n e))) (λ d.
    by-test (ltb n m) (λ e. absurd (g (ltb-true n m e))) (λ e.
    let x = ltb-false m n d in let y = ltb-false n m e in let z : m ≡ n = omega arith in z))

-- a fact of all places from k up to i, and of i, is one up to i + 1
pub more : (P : ℕ → Type 0) (k i : ℕ) → ((m : ℕ) → k ≤ m → m < i → P m) → P i → (m : ℕ) → k ≤ m → m < suc i → P m
more P k i f p m le h = below m i h (f m le) (λ e. subst P (sym e) p)

pub less : (P : ℕ → Type 0) (k i : ℕ) → ((m : ℕ) → k ≤ m → m < suc i → P m) → (m : ℕ) → k ≤ m → m < i → P m
less P k i f m le h = f m le (omega arith)

pub alone : (P : ℕ → Type 0) (i : ℕ) → P i → (m : ℕ) → i ≤ m → m < suc i → P m
alone P i p = more P i i (λ m le lt. absurd (omega arith)) p

pub count_none : (p : ℕ → Bool) (n : ℕ) → ((m : ℕ) → m < n → p m ≡ false) → count p n ≡ 0
count_none p zero h = refl
count_none p (suc n) h =
    let a = count_none p n (λ m lt. h m (omega arith)) in
    let b : one (p n) ≡ 0 = ap one (h n (omega arith)) in
    omega arith

-- ---- tests
pub clash : {A : Type 0} {b : Bool} → b ≡ true → b ≡ false → A
clash e f = absurd (false≢true (sym f ∙ e))

pub and_pair : {a b : Bool} → a ≡ true → b ≡ true → (a && b) ≡ true
and_pair {a} {b} e f = both_and a b e f

pub not_off : {b : Bool} → b ≡ false → not b ≡ true
not_off e = ap not e

pub or_split : {A : Type 0} (a b : Bool) → (a || b) ≡ true → (a ≡ true → A) → (b ≡ true → A) → A
or_split true b e f g = f refl
or_split false b e f g = g e

pub or_left : {a : Bool} (b : Bool) → a ≡ true → (a || b) ≡ true
or_left b e = ap (λ x. x || b) e

pub or_right : (a : Bool) {b : Bool} → b ≡ true → (a || b) ≡ true
or_right true e = refl
or_right false e = e

-- what a test says
pub itself : (b : Bool) → (b ≡ true) ↔ (b ≡ true)
itself b = (λ e. e, λ e. e)

pub not_iff : {A : Type 0} (b : Bool) → (b ≡ true) ↔ A → (not b ≡ true) ↔ (A → ⊥)
not_iff true p = (λ e. absurd (false≢true e), λ f. absurd (f (p.0 refl)))
not_iff false p = (λ e x. false≢true (p.1 x), λ f. refl)

pub off_iff : (b : Bool) → (not b ≡ true) ↔ (b ≡ false)
off_iff true = (λ e. sym e, λ e. sym e)
off_iff false = (λ e. refl, λ e. refl)

pub leb_iff : (m n : ℕ) → (leb m n ≡ true) ↔ (m ≤ n)
leb_iff m n = (leb-true m n, le-leb m n)

pub eqb_iff : (m n : ℕ) → (eqb m n ≡ true) ↔ (m ≡ n)
eqb_iff m n = (eqb-true m n, eq-eqb m n)

pub and_iff : {A B : Type 0} (a b : Bool) → (a ≡ true) ↔ A → (b ≡ true) ↔ B → ((a && b) ≡ true) ↔ (A × B)
and_iff a b p q = (λ e. let z = and_both a b e in (p.0 z.0, q.0 z.1), λ x. and_pair (p.1 x.0) (q.1 x.1))

pub implies_iff : {A B : Type 0} (a b : Bool) → (a ≡ true) ↔ A → (a ≡ true → (b ≡ true) ↔ B) → (implies a b ≡ true) ↔ (A → B)
implies_iff true b p q = (λ e x. (q refl).0 e, λ f. (q refl).1 (f (p.0 refl)))
implies_iff false b p q = (λ e x. absurd (false≢true (p.1 x)), λ f. refl)

-- two premises
pub both_imply_iff : {A B C : Type 0} (a b c : Bool) → (a ≡ true) ↔ A → (b ≡ true) ↔ B → (a ≡ true → b ≡ true → (c ≡ true) ↔ C) → (implies (a && b) c ≡ true) ↔ (A → B → C)
both_imply_iff true true c p q r = (λ e x y. (r refl refl).0 e, λ f. (r refl refl).1 (f (p.0 refl) (q.0 refl)))
both_imply_iff true false c p q r = (λ e x y. absurd (false≢true (q.1 y)), λ f. refl)
both_imply_iff false b c p q r = (λ e x y. absurd (false≢true (p.1 x)), λ f. refl)
