-- Laws of an account's entries, for the callers of `gather` and `spread`, and what the copies make. Assumes nothing.
use mathlib.Core.Path.{◌≡◌, refl, ap, ◌∙◌}
use Prim.Native.Nat.{ℕ, zero, suc, ◌≤◌, ◌<◌, min}
use native.Mathlib.Omega.{arith}
use mathlib.Core.List.{List, [], ◌∷◌, ◌++◌}
use lib.ListN.{length, get_or, take, drop, set, replicate, length-replicate}
use Rattle.entries.specs.declared.Entry.{Entry}
use Rattle.entries.specs.Entries.{zero_entry, first_of, sixteen_of, spread_of}

-- ---- what was gathered
first-length : (n : ℕ) (es : List Entry) → length (first_of n es) ≡ n
unfolding first_of
first-length zero es = refl
first-length (suc n) [] = ap suc (first-length n [])
first-length (suc n) (e ∷ es) = ap suc (first-length n es)

first_at : (n : ℕ) (es : List Entry) (k : ℕ) → k < n → get_or (first_of n es) k zero_entry ≡ get_or es k zero_entry
unfolding first_of
first_at zero es k l = absurd (omega arith)
first_at (suc n) [] zero l = refl
first_at (suc n) [] (suc k) l = first_at n [] k (omega arith)
first_at (suc n) (e ∷ es) zero l = refl
first_at (suc n) (e ∷ es) (suc k) l = first_at n es k (omega arith)

first-all : (n : ℕ) (es : List Entry) → length es ≡ n → first_of n es ≡ es
unfolding first_of
first-all zero [] l = refl
first-all zero (e ∷ es) l = absurd (omega arith)
first-all (suc n) [] l = absurd (omega arith)
first-all (suc n) (e ∷ es) l = ap {B = List Entry} (λ r. e ∷ r) (first-all n es (omega arith))

-- there are sixteen, whatever the account's length
pub sixteen-length : (es : List Entry) → length (sixteen_of es) ≡ 16
unfolding sixteen_of
sixteen-length es = first-length 16 es

-- slot k's entry is the account's, or nothing where the account has none
pub sixteen_at : (es : List Entry) (k : ℕ) → k < 16 → get_or (sixteen_of es) k zero_entry ≡ get_or es k zero_entry
unfolding sixteen_of
sixteen_at es k l = first_at 16 es k l

-- an account of sixteen is its own
pub sixteen_of_lem : (es : List Entry) → length es ≡ 16 → sixteen_of es ≡ es
unfolding sixteen_of
sixteen_of_lem es l = first-all 16 es l

-- ---- what is put back
-- the account keeps its length
pub spread_length : (es ns : List Entry) → length (spread_of es ns) ≡ length es
unfolding spread_of
spread_length [] ns = refl
spread_length (e ∷ es) [] = refl
spread_length (e ∷ es) (n ∷ ns) = ap suc (spread_length es ns)

-- as many new entries as the account has are all of it
pub spread_all : (es ns : List Entry) → length es ≡ length ns → spread_of es ns ≡ ns
unfolding spread_of
spread_all [] [] l = refl
spread_all [] (n ∷ ns) l = absurd (omega arith)
spread_all (e ∷ es) [] l = absurd (omega arith)
spread_all (e ∷ es) (n ∷ ns) l = ap {B = List Entry} (λ r. n ∷ r) (spread_all es ns (omega arith))

spread_first : (n : ℕ) (es : List Entry) → spread_of es (first_of n es) ≡ es
unfolding first_of spread_of
spread_first n [] = refl
spread_first zero (e ∷ es) = refl
spread_first (suc n) (e ∷ es) = ap {B = List Entry} (λ r. e ∷ r) (spread_first n es)

-- putting back what was gathered changes nothing
pub spread_back : (es : List Entry) → spread_of es (sixteen_of es) ≡ es
unfolding sixteen_of
spread_back es = spread_first 16 es

-- ---- the two copies: the front of one account and the rest of the other
nothing : (m : ℕ) → replicate m zero_entry ≡ first_of m []
unfolding first_of
nothing zero = refl
nothing (suc m) = ap {B = List Entry} (λ r. zero_entry ∷ r) (nothing m)

front_first : (n : ℕ) (es : List Entry) (k : ℕ) → k ≡ min (length es) n → take k es ++ drop k (replicate n zero_entry) ≡ first_of n es
unfolding first_of
front_first zero es zero e = refl
front_first zero es (suc k) e = absurd (omega arith)
front_first (suc n) [] zero e = nothing (suc n)
front_first (suc n) [] (suc k) e = absurd (omega arith)
front_first (suc n) (x ∷ es) zero e = absurd (omega arith)
front_first (suc n) (x ∷ es) (suc k) e = ap {B = List Entry} (λ r. x ∷ r) (front_first n es k (omega arith))

pub front-sixteen : (es : List Entry) (k : ℕ) → k ≡ min (length es) 16 → take k es ++ drop k (replicate 16 zero_entry) ≡ sixteen_of es
unfolding sixteen_of
front-sixteen es k e = front_first 16 es k e

pub front-spread : (es ns : List Entry) (k : ℕ) → k ≡ min (length es) (length ns) → take k ns ++ drop k es ≡ spread_of es ns
unfolding spread_of
front-spread [] ns zero e = refl
front-spread [] ns (suc k) e = absurd (omega arith)
front-spread (x ∷ es) [] zero e = refl
front-spread (x ∷ es) [] (suc k) e = absurd (omega arith)
front-spread (x ∷ es) (n ∷ ns) zero e = absurd (omega arith)
front-spread (x ∷ es) (n ∷ ns) (suc k) e = ap {B = List Entry} (λ r. n ∷ r) (front-spread es ns k (omega arith))

-- ---- entry by entry: the first k of the new entries put in
unfoldable pub over_of : ℕ → List Entry → List Entry → List Entry
over_of zero es ns = es
over_of (suc k) [] ns = []
over_of (suc k) (e ∷ es) [] = e ∷ es
over_of (suc k) (e ∷ es) (n ∷ ns) = n ∷ over_of k es ns

pub over_none : (es ns : List Entry) → over_of 0 es ns ≡ es
unfolding over_of
over_none es ns = refl

pub over_length : (k : ℕ) (es ns : List Entry) → length (over_of k es ns) ≡ length es
unfolding over_of
over_length zero es ns = refl
over_length (suc k) [] ns = refl
over_length (suc k) (e ∷ es) [] = refl
over_length (suc k) (e ∷ es) (n ∷ ns) = ap suc (over_length k es ns)

-- one more
pub over_next : (k : ℕ) (es ns : List Entry) → k < length es → k < length ns → set (over_of k es ns) k (get_or ns k zero_entry) ≡ over_of (suc k) es ns
unfolding over_of
over_next k [] ns l m = absurd (omega arith)
over_next k (e ∷ es) [] l m = absurd (omega arith)
over_next zero (e ∷ es) (n ∷ ns) l m = refl
over_next (suc k) (e ∷ es) (n ∷ ns) l m = ap {B = List Entry} (λ r. n ∷ r) (over_next k es ns (omega arith) (omega arith))

-- no more is left where either has come to its end
pub over_all : (k : ℕ) (es ns : List Entry) → min (length es) (length ns) ≤ k → over_of k es ns ≡ spread_of es ns
unfolding over_of spread_of
over_all zero [] ns l = refl
over_all zero (e ∷ es) [] l = refl
over_all zero (e ∷ es) (n ∷ ns) l = absurd (omega arith)
over_all (suc k) [] ns l = refl
over_all (suc k) (e ∷ es) [] l = refl
over_all (suc k) (e ∷ es) (n ∷ ns) l = ap {B = List Entry} (λ r. n ∷ r) (over_all k es ns (omega arith))

-- gathering is putting the account's entries over nothing
over_zeros : (n : ℕ) (es : List Entry) → spread_of (replicate n zero_entry) es ≡ first_of n es
unfolding first_of spread_of
over_zeros zero es = refl
over_zeros (suc n) [] = ap {B = List Entry} (λ r. zero_entry ∷ r) (over_zeros_none n)
  where
    over_zeros_none : (m : ℕ) → replicate m zero_entry ≡ first_of m []
    over_zeros_none zero = refl
    over_zeros_none (suc m) = ap {B = List Entry} (λ r. zero_entry ∷ r) (over_zeros_none m)
over_zeros (suc n) (e ∷ es) = ap {B = List Entry} (λ r. e ∷ r) (over_zeros n es)

pub over_sixteen : (k : ℕ) (es : List Entry) → min (length es) 16 ≤ k → over_of k (replicate 16 zero_entry) es ≡ sixteen_of es
unfolding sixteen_of
over_sixteen k es l =
    let m : min (length (replicate 16 zero_entry)) (length es) ≤ k = omega (arith, length-replicate 16 zero_entry) in
    over_all k (replicate 16 zero_entry) es m ∙ over_zeros 16 es
