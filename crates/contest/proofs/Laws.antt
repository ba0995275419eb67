-- Laws of 001's equations. Assumes nothing.
use Prim.Native.Nat.{ℕ, zero, suc, ◌+◌, ◌<◌}
use mathlib.Core.Path.{◌≡◌, refl, sym, ap, ◌∙◌, ap₂}
use mathlib.Core.Bool.{Bool, true, false, ◌&&◌, ◌||◌, not, or-true, or-false, false≢true}
use native.Mathlib.Omega.{arith}
use native.Mathlib.Decide.{ℕ_discrete}
use native.Mathlib.Nat.{add-zero, zero-add, add-suc, suc-add}
use native.Mathlib.Numerals.{add-one}
use Rattle.std.specs.List.{list_any, range_with_len}
use Rattle.basics.specs.Lines.{active}
use Rattle.basics.proofs.Bools.{and_both, both_and, by-test}
use Rattle.slots.specs.Set.{mem}
use Rattle.slots.proofs.TopLaws.{last_or}
use Rattle.contest.specs.Contest.{drives, driven_below, driven, MayDrive, Settled}

-- (ID + ARB/) says that the slot does not lack the line, if that is active
keeps_says : (a b : Bool) → (a || not b) ≡ true → b ≡ true → a ≡ true
keeps_says true b e f = refl
keeps_says false true e f = e
keeps_says false false e f = f

says_keeps : (a b : Bool) → (b ≡ true → a ≡ true) → (a || not b) ≡ true
says_keeps a true f = rw (f refl)
says_keeps a false f = or-true a

-- what holds of each line above line k
by_line : (P : ℕ → Type 0) (k : ℕ) → (k < 1 → P 1) → (k < 2 → P 2) → (k < 3 → P 3) → (j : ℕ) → k < j → j < 4 → P j
by_line P k p1 p2 p3 zero h i = absurd (omega arith)
by_line P k p1 p2 p3 (suc zero) h i = p1 h
by_line P k p1 p2 p3 (suc (suc zero)) h i = p2 h
by_line P k p1 p2 p3 (suc (suc (suc zero))) h i = p3 h
by_line P k p1 p2 p3 (suc (suc (suc (suc j)))) h i = absurd (omega arith)

abbrev keeps : ℕ → ℕ → ℕ → Bool
keeps id l j = active j id || not (active j l)

Lacks-not : ℕ → ℕ → ℕ → Type 0
Lacks-not id l j = active j l ≡ true → active j id ≡ true

-- each of 001's equations says document 01's sentence, and the other way round
module _ (arb : Bool) (id l : ℕ) where
  peel : (b : Bool) (j : ℕ) → (b && keeps id l j) ≡ true → (b ≡ true) × Lacks-not id l j
  unfolding Lacks-not
  peel b j e = let p = and_both b (keeps id l j) e in (p.0, keeps_says (active j id) (active j l) p.1)

  said : (k : ℕ) → (arb && active k id) ≡ true → (k < 1 → Lacks-not id l 1) → (k < 2 → Lacks-not id l 2) → (k < 3 → Lacks-not id l 3) → MayDrive k arb id l
  unfolding Lacks-not
  said k e p1 p2 p3 =
      let p = and_both arb (active k id) e in
      record { contests = p.0; own = p.1; lacks_none = by_line (Lacks-not id l) k p1 p2 p3 }

  pub drives-says : (k : ℕ) → k < 4 → drives k arb id l ≡ true → MayDrive k arb id l
  unfolding drives
  drives-says zero h e =
      let p1 = peel (arb && active 0 id && keeps id l 3 && keeps id l 2) 1 e in
      let p2 = peel (arb && active 0 id && keeps id l 3) 2 p1.0 in
      let p3 = peel (arb && active 0 id) 3 p2.0 in
      said 0 p3.0 (λ _. p1.1) (λ _. p2.1) (λ _. p3.1)
  drives-says (suc zero) h e =
      let p2 = peel (arb && active 1 id && keeps id l 3) 2 e in
      let p3 = peel (arb && active 1 id) 3 p2.0 in
      said 1 p3.0 (λ g. absurd (omega arith)) (λ _. p2.1) (λ _. p3.1)
  drives-says (suc (suc zero)) h e =
      let p3 = peel (arb && active 2 id) 3 e in
      said 2 p3.0 (λ g. absurd (omega arith)) (λ g. absurd (omega arith)) (λ _. p3.1)
  drives-says (suc (suc (suc zero))) h e =
      said 3 e (λ g. absurd (omega arith)) (λ g. absurd (omega arith)) (λ g. absurd (omega arith))
  drives-says (suc (suc (suc (suc k)))) h e = absurd (omega arith)

  pub says-drives : (k : ℕ) → k < 4 → MayDrive k arb id l → drives k arb id l ≡ true
  unfolding drives
  says-drives k h m = go k h (λ j g i. says_keeps (active j id) (active j l) (m.lacks_none j g i)) (both_and arb (active k id) m.contests m.own)
    where
      go : (k : ℕ) → k < 4 → ((j : ℕ) → k < j → j < 4 → keeps id l j ≡ true) → (arb && active k id) ≡ true → drives k arb id l ≡ true
      go zero h f e = rw (e, f 3 (omega arith) (omega arith), f 2 (omega arith) (omega arith), f 1 (omega arith) (omega arith))
      go (suc zero) h f e = rw (e, f 3 (omega arith) (omega arith), f 2 (omega arith) (omega arith))
      go (suc (suc zero)) h f e = rw (e, f 3 (omega arith) (omega arith))
      go (suc (suc (suc zero))) h f e = e
      go (suc (suc (suc (suc k)))) h f e = absurd (omega arith)

-- a line's equation reads the lines above it alone
pub drives-same : (k : ℕ) (arb : Bool) (id v w : ℕ) → ((j : ℕ) → k < j → j < 4 → active j v ≡ active j w) → drives k arb id v ≡ drives k arb id w
unfolding drives
drives-same zero arb id v w f = rw (f 1 (omega arith) (omega arith), f 2 (omega arith) (omega arith), f 3 (omega arith) (omega arith))
drives-same (suc zero) arb id v w f = rw (f 2 (omega arith) (omega arith), f 3 (omega arith) (omega arith))
drives-same (suc (suc zero)) arb id v w f = rw (f 3 (omega arith) (omega arith))
drives-same (suc (suc (suc k))) arb id v w f = refl

pub driven-same : (n k set v w : ℕ) → ((j : ℕ) → k < j → j < 4 → active j v ≡ active j w) → driven_below n k set v ≡ driven_below n k set w
unfolding driven_below
driven-same zero k set v w f = refl
driven-same (suc n) k set v w f = ap₂ ◌||◌ (drives-same k (mem n set) n v w f) (driven-same n k set v w f)

-- the slots looked at from the first on, beside those below it
or-turned : (t r d : Bool) → ((t || r) || d) ≡ (r || (t || d))
or-turned true r d = sym (or-true r)
or-turned false r d = refl

module _ (k set l : ℕ) where
  from-on : (n a : ℕ) → (list_any (λ s. drives k (mem s set) s l) (range_with_len a n) || driven_below a k set l) ≡ driven_below (a + n) k set l
  unfolding driven_below
  from-on zero a = rw (add-zero a)
  from-on (suc n) a =
      let e : a + 1 ≡ suc a = add-one a in
      let f : suc (a + n) ≡ a + suc n = sym (add-suc a n) in
      let g : suc a + n ≡ suc (a + n) = suc-add a n in
      or-turned (drives k (mem a set) a l) (list_any (λ s. drives k (mem s set) s l) (range_with_len (a + 1) n)) (driven_below a k set l)
      ∙ ap (λ b. list_any (λ s. drives k (mem s set) s l) (range_with_len b n) || driven_below (suc a) k set l) e
      ∙ from-on n (suc a)
      ∙ ap (λ m. driven_below m k set l) (g ∙ f)

-- some slot below n drives the line, by std's words
pub any_driven : (n k set l : ℕ) → list_any (λ s. drives k (mem s set) s l) (range_with_len 0 n) ≡ driven_below n k set l
unfolding driven_below
any_driven n k set l = sym (or-false (list_any (λ s. drives k (mem s set) s l) (range_with_len 0 n))) ∙ from-on k set l n 0 ∙ rw zero-add

-- a line is driven exactly if a slot drives it
pub driven_by : (n k set l s : ℕ) → s < n → drives k (mem s set) s l ≡ true → driven_below n k set l ≡ true
unfolding driven_below
driven_by zero k set l s h e = absurd (omega arith)
driven_by (suc n) k set l s h e =
    elim (ℕ_discrete s n) [ yes q ↦ rw (← q, e) | no d ↦ rw (driven_by n k set l s (last_or h d) e) (or-true (drives k (mem n set) n l)) ]

pub driver : (n k set l : ℕ) → driven_below n k set l ≡ true → (s : ℕ) × (s < n) × (drives k (mem s set) s l ≡ true)
unfolding driven_below
driver zero k set l e = absurd (false≢true e)
driver (suc n) k set l e =
    by-test (drives k (mem n set) n l) (λ t. (n, omega arith, t))
    (λ t. let r = driver n k set l (rw t at e) in (r.0, omega (arith, r.1), r.2))

-- the equations of settled lines, by the line's number
pub line_of : {set l : ℕ} → Settled set l → (k : ℕ) → k < 4 → active k l ≡ driven k set l
line_of d zero h = d.line0
line_of d (suc zero) h = d.line1
line_of d (suc (suc zero)) h = d.line2
line_of d (suc (suc (suc zero))) h = d.line3
line_of d (suc (suc (suc (suc k)))) h = absurd (omega arith)

pub by_lines : {set l : ℕ} → ((k : ℕ) → k < 4 → active k l ≡ driven k set l) → Settled set l
by_lines f = record {
  line3 = f 3 (omega arith);
  line2 = f 2 (omega arith);
  line1 = f 1 (omega arith);
  line0 = f 0 (omega arith);
}
