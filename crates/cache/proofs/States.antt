-- What each state is, and how the words for states go together. Only these laws and the tests in code look at the states' numbers.
use Prim.Native.Nat.{ℕ}
use mathlib.Core.Bool.{Bool, true, false, not, ◌||◌}
use mathlib.Core.Path.{◌≡◌, refl, sym, ap, ◌∙◌}
use lib.Dec.{eqb}
use borrow.Author.Tests.{eqb-true}
use Rattle.cache.specs.States.{invalid, unowned, owned_shared, owned_private, legal, valid, private, owns}

-- a state's four words, in a row
pub record Is (x : ℕ) (isValid isOwner isPrivate : Bool) : Type 0 where
  pub known : legal x ≡ true
  pub validity : valid x ≡ isValid
  pub ownership : owns x ≡ isOwner
  pub privacy : private x ≡ isPrivate

pub is_invalid : Is invalid false false false
unfolding legal valid private owns
is_invalid = record { known = refl; validity = refl; ownership = refl; privacy = refl }

pub is_unowned : Is unowned true false false
unfolding legal valid private owns
is_unowned = record { known = refl; validity = refl; ownership = refl; privacy = refl }

pub is_shared : Is owned_shared true true false
unfolding legal valid private owns
is_shared = record { known = refl; validity = refl; ownership = refl; privacy = refl }

pub is_private : Is owned_private true true true
unfolding legal valid private owns
is_private = record { known = refl; validity = refl; ownership = refl; privacy = refl }

or_right : (a b : Bool) → b ≡ true → (a || b) ≡ true
or_right true b e = refl
or_right false b e = e

pub private-owns : (x : ℕ) → private x ≡ true → owns x ≡ true
unfolding owns
private-owns x e = or_right (eqb x owned_shared) (private x) e

pub owner-valid : (x : ℕ) → owns x ≡ true → valid x ≡ true
unfolding owns private valid
owner-valid x e = by_shared (eqb x owned_shared) refl
  where
    by_shared : (t : Bool) → eqb x owned_shared ≡ t → not (eqb x invalid) ≡ true
    by_shared true s = ap (λ (y : ℕ). not (eqb y invalid)) (eqb-true x owned_shared s)
    by_shared false s = ap (λ (y : ℕ). not (eqb y invalid)) (eqb-true x owned_private (ap (λ (u : Bool). u || eqb x owned_private) (sym s) ∙ e))

-- a slot that is not valid is invalid
pub not_valid : (x : ℕ) → valid x ≡ false → x ≡ invalid
unfolding valid
not_valid x e = eqb-true x invalid (back (eqb x invalid) e)
  where
    back : (t : Bool) → not t ≡ false → t ≡ true
    back true e = refl
    back false e = sym e
