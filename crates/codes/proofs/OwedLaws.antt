-- What the words owed can be, and that a START owes some exactly if its code has a meaning. Assumes nothing.
use Prim.Native.Nat.{ℕ, ◌<◌, ◌≤◌}
use mathlib.Core.Path.{◌≡◌, refl, sym, ◌∙◌, ap}
use mathlib.Core.Bool.{Bool}
use native.Mathlib.Omega.{arith}
use lib.Dec.{eqb, ltb}
use borrow.Author.Tests.{eqb-true, eq-eqb, ltb-true, lt-ltb}
use Rattle.basics.specs.Answers.{Answer, accepted, refused, refusal_number}
use Rattle.basics.specs.declared.refusal.Refusal.{Refusal}
use Rattle.basics.proofs.Refusals.{some_number}
use Rattle.codes.specs.declared.Unit.{Unit}
use Rattle.codes.specs.declared.Unit.TheVariants.{Byte, Halfword, Word, Two, Four, Eight, Sixteen}
use Rattle.std.specs.Prelude.{Option, Some, None}
use Rattle.codes.specs.declared.Meaning.{Meaning}
use Rattle.codes.specs.Units.{words_in}
use Rattle.codes.specs.Start.{unit_of, meaning, decode_of, nothing_meant}
use Rattle.codes.specs.Owed.{words_by, words_of}

-- what holds of the six counts holds of the words that any unit owes
size_counts : (P : ℕ → Type 0) → P 0 → P 1 → P 2 → P 4 → P 8 → P 16 → (s : Option Unit) → P (words_by s)
size_counts P p0 p1 p2 p4 p8 p16 (Some Byte) = p1
size_counts P p0 p1 p2 p4 p8 p16 (Some Halfword) = p1
size_counts P p0 p1 p2 p4 p8 p16 (Some Word) = p1
size_counts P p0 p1 p2 p4 p8 p16 (Some Two) = p2
size_counts P p0 p1 p2 p4 p8 p16 (Some Four) = p4
size_counts P p0 p1 p2 p4 p8 p16 (Some Eight) = p8
size_counts P p0 p1 p2 p4 p8 p16 (Some Sixteen) = p16
size_counts P p0 p1 p2 p4 p8 p16 None = p0

-- the words owed are 0, 1, 2, 4, 8 or 16
pub owed_counts : (P : ℕ → Type 0) → P 0 → P 1 → P 2 → P 4 → P 8 → P 16 → (tm0 : Bool) (ad : ℕ) → P (words_of tm0 ad)
unfolding words_of
owed_counts P p0 p1 p2 p4 p8 p16 tm0 ad = size_counts P p0 p1 p2 p4 p8 p16 (unit_of tm0 ad)

pub owed_most : (tm0 : Bool) (ad : ℕ) → words_of tm0 ad ≤ 16
owed_most =
    owed_counts (λ n. n ≤ 16) (omega arith) (omega arith) (omega arith) (omega arith) (omega arith) (omega arith)

-- a code with a meaning owes the words of its unit
pub owed_unit : (tm1 tm0 : Bool) (ad : ℕ) → (decode_of tm1 tm0 ad).number ≡ 0 → words_of tm0 ad ≡ words_in (decode_of tm1 tm0 ad).value.operation.unit
unfolding decode_of words_of
owed_unit tm1 tm0 ad = go (unit_of tm0 ad)
  where
    go : (s : Option Unit) → (meaning tm1 ad s).number ≡ 0 → words_by s ≡ words_in (meaning tm1 ad s).value.operation.unit
    go (Some u) e = refl
    go None e = absurd (let z : ◌≡◌ {A = ℕ} 4 0 = e in omega arith)

pub owed_means : (tm1 tm0 : Bool) (ad : ℕ) (m : Meaning) → decode_of tm1 tm0 ad ≡ accepted m → words_of tm0 ad ≡ words_in m.operation.unit
owed_means tm1 tm0 ad m e =
    owed_unit tm1 tm0 ad (ap (λ (a : Answer Meaning). a.number) e) ∙ ap (λ (a : Answer Meaning). words_in a.value.operation.unit) e

-- and one that is refused owes none
pub owed_none : (tm1 tm0 : Bool) (ad : ℕ) (r : Refusal) → decode_of tm1 tm0 ad ≡ refused (refusal_number r) nothing_meant → words_of tm0 ad ≡ 0
unfolding decode_of words_of
owed_none tm1 tm0 ad r e = go (unit_of tm0 ad) e
  where
    go : (s : Option Unit) → meaning tm1 ad s ≡ refused (refusal_number r) nothing_meant → words_by s ≡ 0
    go (Some u) e = let n : 0 ≡ refusal_number r = ap (λ (a : Answer Meaning). a.number) e in absurd (omega (arith, some_number r))
    go None e = refl

-- the test whether words are owed is the test whether the code is accepted
pub owed_accepted : (tm1 tm0 : Bool) (ad : ℕ) → ltb 0 (words_of tm0 ad) ≡ eqb (decode_of tm1 tm0 ad).number 0
unfolding decode_of words_of
owed_accepted tm1 tm0 ad = go (unit_of tm0 ad)
  where
    go : (s : Option Unit) → ltb 0 (words_by s) ≡ eqb (meaning tm1 ad s).number 0
    go (Some Byte) = refl
    go (Some Halfword) = refl
    go (Some Word) = refl
    go (Some Two) = refl
    go (Some Four) = refl
    go (Some Eight) = refl
    go (Some Sixteen) = refl
    go None = refl

pub accepted_owed : (tm1 tm0 : Bool) (ad : ℕ) → (decode_of tm1 tm0 ad).number ≡ 0 → 0 < words_of tm0 ad
accepted_owed tm1 tm0 ad e = ltb-true _ _ (owed_accepted tm1 tm0 ad ∙ eq-eqb _ _ e)

pub some-accepted : (tm1 tm0 : Bool) (ad : ℕ) → 0 < words_of tm0 ad → (decode_of tm1 tm0 ad).number ≡ 0
some-accepted tm1 tm0 ad h = eqb-true _ _ (sym (owed_accepted tm1 tm0 ad) ∙ lt-ltb _ _ h)
