-- Laws of a sum that is kept as so many times the mean, and what is left. Assumes nothing.
use Prim.Native.Nat.{ℕ, zero, suc, ◌+◌, ◌-◌, ◌*◌, ◌/◌, ◌%◌, ◌^◌, ◌≤◌, ◌<◌}
use mathlib.Core.List.{List}
use mathlib.Core.Path.{◌≡◌, refl, sym, ap, ◌∙◌}
use native.Mathlib.Omega.{arith}
use native.Mathlib.Nat.{add-mul, add-zero, zero-mul, mul-le-mul_right, mod-lt, div-zero, mod-zero, div-add-mod', le-div_iff_mul-le, div-le_of_le-mul, div-eq_of_lt, mod-eq_of_lt, mul-add-div_right, mul-add-mod_self_right}
use lib.ListN.{length, get_or, drop}
use Rattle.fleet.specs.declared.Share.{Share}
use Rattle.fleet.specs.Figures.{total_of}
use Rattle.fleet.proofs.Walks.{onward, ended}

-- one number x more beside n times the mean m and the rest r
module _ (n m r x : ℕ) (h : r < n) where
  pub part_less : x % n < n
  part_less = mod-lt x (omega arith)

  split : (m + x / n) * n + x % n ≡ m * n + x
  split =
      let d = add-mul m (x / n) n in
      let e = div-add-mod' x n in
      omega arith

  pub carried_not : (m + x / n) * n + (r + x % n) ≡ m * n + r + x
  carried_not = omega (arith, split)

  pub carried : n - x % n ≤ r → (m + x / n + 1) * n + (r - (n - x % n)) ≡ m * n + r + x
  carried c =
      let d : (m + x / n + 1) * n ≡ (m + x / n) * n + 1 * n = add-mul (m + x / n) 1 n in
      let l = part_less in
      omega (arith, split)

  -- and the new mean fits
  module _ (room : (m * n + r + x) / n < 2 ^ 64) where
    pub mean_fits : m + x / n < 2 ^ 64
    mean_fits =
        let z : (m + x / n) * n ≤ m * n + r + x = omega (arith, split) in
        below ((le-div_iff_mul-le (let p : 0 < n = omega arith in p)).1 z) room
      where
        below : {a b : ℕ} → a ≤ b → b < 2 ^ 64 → a < 2 ^ 64
        below l k = omega arith

    pub carried_fits : n - x % n ≤ r → m + x / n + 1 < 2 ^ 64
    carried_fits c =
        let e = carried c in
        let z : (m + x / n + 1) * n ≤ m * n + r + x = omega arith in
        below ((le-div_iff_mul-le (let p : 0 < n = omega arith in p)).1 z) room
      where
        below : {a b : ℕ} → a ≤ b → b < 2 ^ 64 → a < 2 ^ 64
        below l k = omega arith

-- the parts of a sum that has so many times the mean, and less left
module _ (n sum q r : ℕ) (e : q * n + r ≡ sum) (h : r < n) where
  pub mean_of : q ≡ sum / n
  mean_of =
      let p : 0 < n = omega arith in
      sym (ap (λ (k : ℕ). k / n) (sym e) ∙ mul-add-div_right p q r ∙ ap (λ (k : ℕ). q + k) (div-eq_of_lt h) ∙ add-zero q)

  pub rest_of : r ≡ sum % n
  rest_of = sym (ap (λ (k : ℕ). k % n) (sym e) ∙ mul-add-mod_self_right q n r ∙ mod-eq_of_lt h)

-- the share holds the numbers before the place
pub record Sharing (xs : List ℕ) (next : ℕ) (s : Share) : Type 0 where
  pub upto : next ≤ length xs
  pub sum : s.mean * length xs + s.remainder + total_of (drop next xs) ≡ total_of xs
  pub few : (most : ℕ) → most ≡ 2 ^ 64 - 1 → s.mean * length xs + s.remainder ≤ next * most
  pub none : length xs ≡ 0 → s.mean ≡ 0
  pub less : 0 < length xs → s.remainder < length xs

pub sharing_start : (xs : List ℕ) → Sharing xs 0 (record { mean = 0; remainder = 0 })
sharing_start xs =
    record {
      upto = omega arith;
      sum = let z : 0 * length xs ≡ 0 = zero-mul (length xs) in omega arith;
      few = λ most e. let z : 0 * length xs ≡ 0 = zero-mul (length xs) in let y : 0 * most ≡ 0 = zero-mul most in omega arith;
      none = λ _. refl;
      less = λ h. h;
    }

-- at most c for each of the numbers so far, and one more
most : (sum next n x c : ℕ) → sum ≤ next * c → next < n → x ≤ c → sum + x ≤ n * c
most sum next n x c h l k =
    let d : (next + 1) * c ≤ n * c = mul-le-mul_right c (let z : next + 1 ≤ n = omega arith in z) in
    let e : (next + 1) * c ≡ next * c + 1 * c = add-mul next 1 c in
    omega arith

module _ (xs : List ℕ) (next : ℕ) (s : Share) (s-holds : Sharing xs next s) (h : next < length xs) (fits : get_or xs next 0 < 2 ^ 64) where
  -- the share's new mean fits, since no number is above 2^64 - 1
  pub sharing_room : (s.remainder < length xs) × ((s.mean * length xs + s.remainder + get_or xs next 0) / length xs < 2 ^ 64)
  sharing_room =
      let p : 0 < length xs = omega arith in
      let few = s-holds.few (2 ^ 64 - 1) refl in
      (s-holds.less p, below (div-le_of_le-mul (length xs) (most (s.mean * length xs + s.remainder) next (length xs) (get_or xs next 0) (2 ^ 64 - 1) few h (omega arith))))
    where
      below : {k : ℕ} → k ≤ 2 ^ 64 - 1 → k < 2 ^ 64
      below l = omega arith

  pub sharing_on : (t : Share) → (t.remainder < length xs) × (t.mean * length xs + t.remainder ≡ s.mean * length xs + s.remainder + get_or xs next 0) → Sharing xs (next + 1) t
  sharing_on t e =
      let sum = s-holds.sum in
      let same = e.1 in
      let more : total_of (drop next xs) ≡ get_or xs next 0 + total_of (drop (next + 1) xs) = onward xs next total_of h in
      record { upto = omega arith; sum = omega arith; few = λ m me. few_on m me (s-holds.few m me) e.1; none = λ (z : length xs ≡ 0). absurd (omega arith); less = λ _. e.0 }
    where
      few_on : (m : ℕ) → m ≡ 2 ^ 64 - 1 → s.mean * length xs + s.remainder ≤ next * m
          → t.mean * length xs + t.remainder ≡ s.mean * length xs + s.remainder + get_or xs next 0 → t.mean * length xs + t.remainder ≤ (next + 1) * m
      few_on m me few same =
          let z = most (s.mean * length xs + s.remainder) next (next + 1) (get_or xs next 0) m few (omega arith) (omega arith) in
          omega arith

-- all the numbers are taken in: the share is the sum divided by their number, and what is left
pub sharing_end : (xs : List ℕ) (next : ℕ) (s : Share) → Sharing xs next s → length xs ≤ next → (s.mean ≡ total_of xs / length xs) × (s.remainder ≡ total_of xs % length xs)
sharing_end xs next s h l = go (length xs) refl
  where
    all : s.mean * length xs + s.remainder ≡ total_of xs
    all = let z = ended xs next total_of l in let sum = h.sum in omega arith

    go : (n : ℕ) → length xs ≡ n → (s.mean ≡ total_of xs / length xs) × (s.remainder ≡ total_of xs % length xs)
    go zero e =
        let z : s.mean * length xs ≡ 0 = rw (h.none e) (zero-mul (length xs)) in
        let r : s.remainder ≡ total_of xs = omega (arith, all) in
        (h.none e ∙ sym (rw e (div-zero (total_of xs))), r ∙ sym (rw e (mod-zero (total_of xs))))
    go (suc n) e =
        let p : 0 < length xs = omega arith in
        (mean_of _ _ _ _ all (h.less p), rest_of _ _ _ _ all (h.less p))
