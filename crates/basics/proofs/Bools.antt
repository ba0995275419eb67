-- Laws of tests and choices, for every crate. Assumes nothing.
use mathlib.Core.Path.{◌≡◌, refl}
use mathlib.Core.Bool.{Bool, true, false, cond, ◌&&◌, false≢true}
use Rattle.basics.specs.Order.{implies}

-- what holds of both choices, each where its test led there, holds of the choice
pub choice {ℓ} : {A : Type ℓ} (P : A → Type 0) (t : Bool) {a b : A} → (t ≡ true → P a) → (t ≡ false → P b) → P (cond t a b)
choice P true f g = f refl
choice P false f g = g refl

-- a function of a choice is the choice of its values
pub push : {A B : Type 0} (f : A → B) (t : Bool) (a b : A) → f (cond t a b) ≡ cond t (f a) (f b)
push f true a b = refl
push f false a b = refl

pub cond-true : {A : Type 0} {t : Bool} (a b : A) → t ≡ true → cond t a b ≡ a
cond-true a b e = rw e

pub cond-false : {A : Type 0} {t : Bool} (a b : A) → t ≡ false → cond t a b ≡ b
cond-false a b e = rw e

-- a test with the equation that it holds or fails
pub by-test {ℓ} : {P : Type ℓ} (t : Bool) → (t ≡ true → P) → (t ≡ false → P) → P
by-test true f g = f refl
by-test false f g = g refl

pub not-true : (t : Bool) → (t ≡ true → ⊥) → t ≡ false
not-true true f = absurd (f refl)
not-true false f = refl

pub not-false : (t : Bool) → (t ≡ false → ⊥) → t ≡ true
not-false true f = refl
not-false false f = absurd (f refl)

-- both parts of a conjunction, and back
pub and_both : (a b : Bool) → (a && b) ≡ true → (a ≡ true) × (b ≡ true)
and_both true b e = (refl, e)
and_both false b e = absurd (false≢true e)

pub both_and : (a b : Bool) → a ≡ true → b ≡ true → (a && b) ≡ true
both_and true b e f = f
both_and false b e f = absurd (false≢true e)

-- what an implication gives, and how it is shown
pub implied : (a b : Bool) → implies a b ≡ true → a ≡ true → b ≡ true
implied true b e h = e
implied false b e h = absurd (false≢true h)

pub implying : (a b : Bool) → (a ≡ true → b ≡ true) → implies a b ≡ true
implying true b f = f refl
implying false b f = refl
