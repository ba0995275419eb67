-- Laws of the bytes of a record that stands in a torn record and the piece behind it. Assumes nothing.
use Prim.Native.Nat.{ℕ, ◌+◌, ◌-◌, ◌*◌, ◌≤◌, ◌<◌}
use mathlib.Core.List.{List, ◌++◌}
use mathlib.Core.Path.{◌≡◌, sym, ap, ◌∙◌}
use native.Mathlib.Omega.{arith}
use lib.Dec.{ltb}
use lib.ListN.{length, get_or, set, take, drop, replicate, length-append, length-take, length-replicate, get_or-replicate, get_or-append, get_or-eq_default}
use lib.Seq.{length-take-le, get_or-append-add, get_or-take, get_or-drop, get_or-set_same, get_or-set_other, ext_get_or}
use borrow.Author.Tests.{ltb-true, ltb-false}
use Rattle.basics.proofs.Bools.{by-test}
use Rattle.rules.specs.Recording.{sixteen}
use Rattle.feeding.specs.State.{padded}

-- ---- a byte of a torn record's first bytes and the piece behind them
module _ (torn piece : List ℕ) (held : ℕ) (long : length torn ≡ 16) (part : held < 16) where
  abbrev all : List ℕ
  all = take held torn ++ piece

  held_size : length (take held torn) ≡ held
  held_size = length-take-le held torn (omega arith)

  pub in_torn : (at : ℕ) → at < held → get_or torn at 0 ≡ get_or all at 0
  in_torn at lt = let s = held_size in sym (get_or-append (take held torn) piece 0 at (omega arith) ∙ get_or-take held torn at 0 lt)

  pub in_piece : (at : ℕ) → held ≤ at → get_or piece (at - held) 0 ≡ get_or all at 0
  in_piece at le =
      let s = held_size in
      let e : at ≡ length (take held torn) + (at - held) = omega arith in
      sym (ap (λ (k : ℕ). get_or all k 0) e ∙ get_or-append-add (take held torn) piece (at - held) 0)

  pub in_none : (at : ℕ) → held ≤ at → length piece ≤ at - held → 0 ≡ get_or all at 0
  in_none at le past =
      let s = held_size in
      let t = length-append (take held torn) piece in
      sym (get_or-eq_default all 0 (omega arith))

-- ---- sixteen of them
module _ (all : List ℕ) (place : ℕ) where
  abbrev here : List ℕ
  here = sixteen all place

  few : length here ≤ 16
  few = let e = length-take 16 (drop (place * 16) all) in omega arith

  read : (i : ℕ) → i < 16 → get_or here i 0 ≡ get_or all (place * 16 + i) 0
  read i lt = get_or-take 16 (drop (place * 16) all) i 0 lt ∙ get_or-drop (place * 16) all i 0

  pub padded-long : length (padded here) ≡ 16
  unfolding padded
  padded-long = let f = few in let a = length-append here (replicate (16 - length here) 0) in let z = length-replicate {A = ℕ} (16 - length here) 0 in omega arith

  padded-byte : (i : ℕ) → i < 16 → get_or (padded here) i 0 ≡ get_or all (place * 16 + i) 0
  unfolding padded
  padded-byte i lt =
      by-test (ltb i (length here))
      (λ e. get_or-append here (replicate (16 - length here) 0) 0 i (ltb-true i (length here) e) ∙ read i lt)
      (λ e.
      let le = ltb-false i (length here) e in
      let at : i ≡ length here + (i - length here) = omega arith in
      ap (λ (k : ℕ). get_or (here ++ replicate (16 - length here) 0) k 0) at
      ∙ get_or-append-add here (replicate (16 - length here) 0) (i - length here) 0
      ∙ get_or-replicate (16 - length here) (i - length here) 0 0 (omega arith)
      ∙ sym (get_or-eq_default here 0 le)
      ∙ read i lt)

  -- sixteen bytes that are those of the place, one by one
  pub sixteen_are : (next : List ℕ) → length next ≡ 16 → ((k : ℕ) → k < 16 → get_or next k 0 ≡ get_or all (place * 16 + k) 0) → next ≡ padded here
  sixteen_are next size h =
      let s = padded-long in
      ext_get_or 0 next (padded here) (omega arith) (λ k lt. h k (omega arith) ∙ sym (padded-byte k (omega arith)))

-- one byte more
pub set_more : (next : List ℕ) (i v : ℕ) (f : ℕ → ℕ) → i < length next → ((k : ℕ) → k < i → get_or next k 0 ≡ f k) → v ≡ f i → (k : ℕ) → k < i + 1 → get_or (set next i v) k 0 ≡ f k
set_more next i v f in_bounds h e k lt =
    by-test (ltb k i)
    (λ t. let l = ltb-true k i t in get_or-set_other next i k v 0 (λ same. let z : k ≡ i = same in omega arith) ∙ h k l)
    (λ t. let l = ltb-false k i t in
    let same : k ≡ i = omega arith in
    ap (λ (n : ℕ). get_or (set next i v) n 0) same ∙ get_or-set_same next i v 0 in_bounds ∙ e ∙ ap f (sym same))
