-- The order of the numbers doesn't matter. Assumes nothing.
use Prim.Native.Nat.{ℕ, ◌+◌, ◌*◌, ◌≤◌}
use mathlib.Core.List.Memᴰ
use mathlib.Core.List.Permᴰ
use mathlib.Core.List.{List, [], ◌∷◌, Permᴰ}
use mathlib.Core.Logic.{⊎_elim}
use mathlib.Core.Path.{◌≡◌, refl, sym, ap, ◌∙◌}
use native.Mathlib.Omega.{arith}
use lib.Dec.{leb}
use lib.ListN.{length}
use Rattle.basics.specs.Lines.{one}
use Rattle.fleet.specs.declared.Summary.{Summary}
use Rattle.fleet.specs.Figures.{total_of, within, summary_of}
use Rattle.fleet.specs.Meaning.{OneOf, Summarizes}
use Rattle.fleet.proofs.Summaries.{summarizes, only}

-- one of the numbers is one of them in another order
member_moved : {x : ℕ} {xs ys : List ℕ} → Permᴰ xs ys → OneOf x xs → OneOf x ys
member_moved Permᴰ.nil i = i
member_moved (Permᴰ.cons e d) i = ⊎_elim (λ f. Memᴰ.head (f ∙ e)) (λ j. Memᴰ.tail (member_moved d j)) (Memᴰ.cases_cons i)
member_moved (Permᴰ.swap e f) i =
    ⊎_elim (λ g. Memᴰ.tail (Memᴰ.head (g ∙ e))) (λ j. ⊎_elim (λ g. Memᴰ.head (g ∙ f)) (λ k. Memᴰ.tail (Memᴰ.tail k)) (Memᴰ.cases_cons j)) (Memᴰ.cases_cons i)
member_moved (Permᴰ.trans d e) i = member_moved e (member_moved d i)

-- a sum over the numbers is the same sum in another order
module _ (f : List ℕ → ℕ) (g : ℕ → ℕ) (step : (x : ℕ) (xs : List ℕ) → f (x ∷ xs) ≡ g x + f xs) where
  sum_moved : {xs ys : List ℕ} → Permᴰ xs ys → f xs ≡ f ys
  sum_moved Permᴰ.nil = refl
  sum_moved (Permᴰ.cons {a} {b} {l₁} {l₂} e d) =
      let r = sum_moved d in let h = ap g e in let s = step a l₁ in let t = step b l₂ in
      omega arith
  sum_moved (Permᴰ.swap {a} {b} {a'} {b'} {l} e d) =
      let h = ap g e in
      let k = ap g d in
      let s = step a (b ∷ l) in
      let t = step b l in
      let u = step a' (b' ∷ l) in
      let v = step b' l in
      omega arith
  sum_moved (Permᴰ.trans d e) = sum_moved d ∙ sum_moved e

module _ {xs ys : List ℕ} (d : Permᴰ xs ys) where
  length_moved : length xs ≡ length ys
  length_moved = sum_moved length (λ _. 1) (λ x l. let z : length (x ∷ l) ≡ 1 + length l = omega arith in z) d

  within_moved : (m : ℕ) → within m xs ≡ within m ys
  within_moved m = sum_moved (within m) (λ x. one (leb x m)) (λ x l. refl) d

  total_moved : total_of xs ≡ total_of ys
  total_moved = sum_moved total_of (λ x. x) (λ x l. refl) d

  summarizes_moved : (s : Summary) → Summarizes xs s → Summarizes ys s
  summarizes_moved s h =
      let back = Permᴰ.symm d in
      let n = length_moved in
      let half : (x : ℕ) → length ys ≤ 2 * within x ys → length xs ≤ 2 * within x xs = λ x k. (let w = within_moved x in omega arith) in
      record {
        number = h.number ∙ n;
        lowest = record { member = member_moved d h.lowest.member; none_below = λ x i. h.lowest.none_below x (member_moved back i) };
        middle =
            record {
              member = member_moved d h.middle.member;
              half = let w = within_moved s.median in let k = h.middle.half in omega arith;
              first = λ x i k. h.middle.first x (member_moved back i) (half x k);
            };
        highest = record { member = member_moved d h.highest.member; none_above = λ x i. h.highest.none_above x (member_moved back i) };
        average =
            record {
              sum = rw (sym n) (h.average.sum ∙ total_moved);
              rest = let r = h.average.rest in omega arith;
            };
      }

-- THE ORDER OF THE NUMBERS DOESN'T MATTER
pub reordered : (xs ys : List ℕ) → Permᴰ xs ys → summary_of xs ≡ summary_of ys
reordered [] [] d = refl
reordered [] (y ∷ ys) d = let n = length_moved d in absurd (omega arith)
reordered (x ∷ xs) ys d =
    let n = length_moved d in
    only ys (summary_of (x ∷ xs)) (summary_of ys) (summarizes_moved d _ (summarizes (x ∷ xs) (omega arith))) (summarizes ys (omega arith))
