-- Each field of the record that sixteen bytes hold, said of the bytes themselves: what a reader of single bytes computes.
-- `xs` holds sixteen bytes or more, and byte k of it is `get_or xs k 0`. Assumes nothing.
use Prim.Native.Nat.{ℕ, zero, suc, ◌+◌, ◌*◌, ◌%◌, ◌/◌, ◌^◌, ◌<◌, ◌≤◌}
use mathlib.Core.Path.{◌≡◌, refl, sym, ap, ◌∙◌}
use mathlib.Core.List.{List, [], ◌∷◌, ◌++◌}
use native.Mathlib.Omega.{arith}
use native.Mathlib.Nat.{not-suc-le-zero, le_of_suc-le-suc}
use lib.Dec.{eqb}
use lib.ListN.{length, take, drop, get_or}
use Rattle.record.specs.Digits.{number, digits}
use Rattle.record.specs.Layout.{fields, bytes, fields_in, record_in, spare_in}
use Rattle.record.specs.declared.Record.{Record}
use Rattle.record.proofs.Digits.{digits_append}
use Rattle.record.proofs.Groups.{five, six, front_fields, middle_fields, rear_fields}

-- each element is a byte
abbrev pub AllBytes : List ℕ → Type 0
AllBytes xs = (k : ℕ) → get_or xs k 0 < 256

-- the values of f at i, i + 1, .., n of them
abbrev from : (ℕ → ℕ) → ℕ → ℕ → List ℕ
from f i zero = []
from f i (suc n) = f i ∷ from f (suc i) n

from_suc : (f : ℕ → ℕ) (i n : ℕ) → from f (suc i) n ≡ from (λ k. f (suc k)) i n
from_suc f i zero = refl
from_suc f i (suc n) = ap (λ (r : List ℕ). f (suc i) ∷ r) (from_suc f (suc i) n)

-- the first elements of a list, one by one
pub first_of : (n : ℕ) (xs : List ℕ) → n ≤ length xs → take n xs ≡ from (λ k. get_or xs k 0) 0 n
first_of zero xs h = refl
first_of (suc n) [] h = absurd (not-suc-le-zero h)
first_of (suc n) (x ∷ xs) h =
    ap (λ (r : List ℕ). x ∷ r) (first_of n xs (le_of_suc-le-suc h) ∙ sym (from_suc (λ k. get_or (x ∷ xs) k 0) 0 n))

-- the fields of the sixteen bytes b 0 to b 15, in the order of document 01, the spare bits last
abbrev pub fields_of : (ℕ → ℕ) → List ℕ
fields_of b =
    (b 0 * 16777216 + b 1 * 65536 + b 2 * 256 + b 3)
    ∷ (b 4 / 128 % 2) ∷ (b 4 / 64 % 2) ∷ (b 4 / 4 % 16) ∷ (b 4 / 2 % 2) ∷ (b 4 % 2)
    ∷ (b 5 / 128 % 2) ∷ (b 5 / 64 % 2) ∷ (b 5 / 32 % 2) ∷ (b 5 / 16 % 2)
    ∷ (b 5 % 16 * 268435456 + b 6 * 1048576 + b 7 * 4096 + b 8 * 16 + b 9 / 16)
    ∷ (b 9 / 8 % 2) ∷ (b 9 / 4 % 2) ∷ (b 9 / 2 % 2) ∷ (b 9 % 2)
    ∷ (b 10 * 33554432 + b 11 * 131072 + b 12 * 512 + b 13 * 2 + b 14 / 128)
    ∷ (b 14 % 128 * 256 + b 15) ∷ []

-- the record that they hold
abbrev pub record_of : (ℕ → ℕ) → Record
record_of b =
    record {
      stamp = b 0 * 16777216 + b 1 * 65536 + b 2 * 256 + b 3;
      reset = eqb (b 4 / 128 % 2) 1;
      rqst = eqb (b 4 / 64 % 2) 1;
      arb = b 4 / 4 % 16;
      start = eqb (b 4 / 2 % 2) 1;
      ack = eqb (b 4 % 2) 1;
      tm1 = eqb (b 5 / 128 % 2) 1;
      tm0 = eqb (b 5 / 64 % 2) 1;
      sp = eqb (b 5 / 32 % 2) 1;
      spv = eqb (b 5 / 16 % 2) 1;
      ad = b 5 % 16 * 268435456 + b 6 * 1048576 + b 7 * 4096 + b 8 * 16 + b 9 / 16;
      vtm1 = eqb (b 9 / 8 % 2) 1;
      vtm0 = eqb (b 9 / 4 % 2) 1;
      vack = eqb (b 9 / 2 % 2) 1;
      vsack = eqb (b 9 % 2) 1;
      vad = b 10 * 33554432 + b 11 * 131072 + b 12 * 512 + b 13 * 2 + b 14 / 128;
    }

pub cons : {x y : ℕ} {xs ys : List ℕ} → x ≡ y → xs ≡ ys → x ∷ xs ≡ y ∷ ys
cons e f = rw (e, f)

pub append : {xs xs' ys ys' : List ℕ} → xs ≡ xs' → ys ≡ ys' → xs ++ ys ≡ xs' ++ ys'
append e f = rw (e, f)

module _ (xs : List ℕ) where
  -- byte k
  abbrev b : ℕ → ℕ
  b k = get_or xs k 0

  abbrev front_bytes : ℕ
  front_bytes = number five (b 0 ∷ b 1 ∷ b 2 ∷ b 3 ∷ b 4 ∷ [])

  abbrev middle_bytes : ℕ
  middle_bytes = number five (b 5 ∷ b 6 ∷ b 7 ∷ b 8 ∷ b 9 ∷ [])

  abbrev rear_bytes : ℕ
  rear_bytes = number six (b 10 ∷ b 11 ∷ b 12 ∷ b 13 ∷ b 14 ∷ b 15 ∷ [])

  module _ (enough : 16 ≤ length xs) (byte : AllBytes xs) where
    number-bytes : number bytes (take 16 xs) ≡ front_bytes * 2 ^ 88 + (middle_bytes * 2 ^ 48 + rear_bytes)
    number-bytes = ap (number bytes) (first_of 16 xs enough) ∙ omega arith

    rear_lt : rear_bytes < 2 ^ 48
    rear_lt = omega (arith, byte 10, byte 11, byte 12, byte 13, byte 14, byte 15)

    middle-lt : middle_bytes * 2 ^ 48 + rear_bytes < 2 ^ 88
    middle-lt = omega (arith, byte 5, byte 6, byte 7, byte 8, byte 9, rear_lt)

    fields-bytes : fields_in (take 16 xs) ≡ digits front_fields front_bytes ++ digits middle_fields middle_bytes ++ digits rear_fields rear_bytes
    unfolding fields_in
    fields-bytes =
        ap (digits fields) number-bytes ∙ digits_append front_fields (middle_fields ++ rear_fields) front_bytes (middle_bytes * 2 ^ 48 + rear_bytes) middle-lt
        ∙ ap (λ (r : List ℕ). digits front_fields front_bytes ++ r) (digits_append middle_fields rear_fields middle_bytes rear_bytes rear_lt)

    front_is : digits front_fields front_bytes ≡ take 6 (fields_of b)
    front_is =
        cons (omega (arith, byte 0, byte 1, byte 2, byte 3, byte 4))
        (cons (omega arith) (cons (omega arith) (cons (omega arith) (cons (omega arith) (cons (omega arith) refl)))))

    middle_is : digits middle_fields middle_bytes ≡ take 9 (drop 6 (fields_of b))
    middle_is =
        cons (omega (arith, byte 6, byte 7, byte 8, byte 9))
        (cons (omega (arith, byte 6, byte 7, byte 8, byte 9))
        (cons (omega (arith, byte 6, byte 7, byte 8, byte 9))
        (cons (omega (arith, byte 6, byte 7, byte 8, byte 9))
        (cons (omega (arith, byte 6, byte 7, byte 8, byte 9))
        (cons (omega arith) (cons (omega arith) (cons (omega arith) (cons (omega arith) refl))))))))

    rear_is : digits rear_fields rear_bytes ≡ drop 15 (fields_of b)
    rear_is = cons (omega (arith, byte 10, byte 11, byte 12, byte 13, byte 14, byte 15)) (cons (omega (arith, byte 15)) refl)

    -- all seventeen fields
    pub fields_are : fields_in (take 16 xs) ≡ fields_of (λ k. get_or xs k 0)
    fields_are = fields-bytes ∙ append (append front_is middle_is) rear_is

    pub record_is : record_in (take 16 xs) ≡ record_of (λ k. get_or xs k 0)
    unfolding record_in
    record_is = rw fields_are

    pub spare_is : spare_in (take 16 xs) ≡ get_or xs 14 0 % 128 * 256 + get_or xs 15 0
    unfolding spare_in
    spare_is = rw fields_are
