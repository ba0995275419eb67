-- Laws of packing: the bytes that the writer stores are the record's, the rest of the buffer stays, and the refusals. Assumes nothing.
use Prim.Native.Nat.{ℕ, ◌+◌, ◌*◌, ◌-◌, ◌%◌, ◌/◌, ◌^◌, ◌<◌, ◌≤◌}
use mathlib.Core.Path.{◌≡◌, refl, sym, ap, ◌∙◌}
use mathlib.Core.List.{List, [], ◌∷◌, ◌++◌, append_assoc, append-nil}
use mathlib.Core.Bool.{true, false}
use native.Mathlib.Omega.{arith}
use borrow.Author.Tests.{lt-ltb, le-ltb, ltb-true, ltb-false}
use lib.Dec.{ltb}
use lib.ListN.{length, take, drop, length-drop, drop_of_length-le}
use lib.Seq.{take_all, drop-drop}
use Rattle.basics.specs.Lines.{one}
use Rattle.basics.proofs.Bools.{by-test}
use Rattle.record.specs.Digits.{number, digits}
use Rattle.record.specs.Layout.{fields, values, bytes, packed}
use Rattle.record.specs.Packing.{too_wide, too_few, pack_refusal, pack_into}
use Rattle.record.specs.declared.Record.{Record}
use Rattle.record.proofs.Digits.{digits_append, number_append, number_lt}
use Rattle.record.proofs.Groups.{five, six, front_fields, middle_fields, rear_fields}
use Rattle.record.proofs.Widths.{fit, one-lt, arb-lt, vad_lt}
use Rattle.record.proofs.Bytes.{cons, append}

-- a record's sixteen bytes, said of its fields
abbrev pub bytes_of : Record → List ℕ
bytes_of r =
    (r.stamp / 16777216) ∷ (r.stamp / 65536 % 256) ∷ (r.stamp / 256 % 256) ∷ (r.stamp % 256)
    ∷ (one r.reset * 128 + one r.rqst * 64 + r.arb * 4 + one r.start * 2 + one r.ack)
    ∷ ((one r.tm1 * 8 + one r.tm0 * 4 + one r.sp * 2 + one r.spv) * 16 + r.ad / 268435456)
    ∷ (r.ad / 1048576 % 256) ∷ (r.ad / 4096 % 256) ∷ (r.ad / 16 % 256)
    ∷ (r.ad % 16 * 16 + (one r.vtm1 * 8 + one r.vtm0 * 4 + one r.vack * 2 + one r.vsack))
    ∷ (r.vad / 33554432) ∷ (r.vad / 131072 % 256) ∷ (r.vad / 512 % 256) ∷ (r.vad / 2 % 256) ∷ (r.vad % 2 * 128)
    ∷ 0 ∷ []

module _ (r : Record) where
  abbrev front_values : List ℕ
  front_values = r.stamp ∷ one r.reset ∷ one r.rqst ∷ r.arb ∷ one r.start ∷ one r.ack ∷ []

  abbrev middle_values : List ℕ
  middle_values =
      one r.tm1 ∷ one r.tm0 ∷ one r.sp ∷ one r.spv ∷ r.ad ∷ one r.vtm1 ∷ one r.vtm0 ∷ one r.vack ∷ one r.vsack ∷ []

  abbrev rear_values : List ℕ
  rear_values = r.vad ∷ 0 ∷ []

  abbrev front : ℕ
  front = number front_fields front_values

  abbrev middle : ℕ
  middle = number middle_fields middle_values

  abbrev rear : ℕ
  rear = number rear_fields rear_values

  number_groups : number fields (values r) ≡ front * 2 ^ 88 + (middle * 2 ^ 48 + rear)
  number_groups =
      number_append front_fields (middle_fields ++ rear_fields) front_values (middle_values ++ rear_values) refl
      ∙ ap (λ (n : ℕ). front * 2 ^ 88 + n) (number_append middle_fields rear_fields middle_values rear_values refl)

  module _ (n : too_wide r ≡ false) where
    low-lt : middle * 2 ^ 48 + rear < 2 ^ 88
    low-lt =
        rw (← number_append middle_fields rear_fields middle_values rear_values refl)
        (number_lt (middle_fields ++ rear_fields) (middle_values ++ rear_values) (fit r n).1.1.1.1.1.1)

    rear_lt : rear < 2 ^ 48
    rear_lt = number_lt rear_fields rear_values (fit r n).1.1.1.1.1.1.1.1.1.1.1.1.1.1.1

    packed_groups : packed r ≡ digits five front ++ digits five middle ++ digits six rear
    unfolding packed
    packed_groups =
        ap (digits bytes) number_groups ∙ digits_append five (five ++ six) front (middle * 2 ^ 48 + rear) low-lt
        ∙ ap (λ (l : List ℕ). digits five front ++ l) (digits_append five six middle rear rear_lt)

    front_bytes : digits five front ≡ take 5 (bytes_of r)
    front_bytes =
        let h : r.stamp < 2 ^ 32 = (fit r n).0 in
        let a : r.arb < 16 = arb-lt r n in
        let s = one-lt r.start in
        let k = one-lt r.ack in
        let q = one-lt r.rqst in
        let t = one-lt r.reset in
        cons (omega arith) (cons (omega arith) (cons (omega arith) (cons (omega arith) (cons (omega arith) refl))))

    middle-bytes : digits five middle ≡ take 5 (drop 5 (bytes_of r))
    middle-bytes =
        let a : r.ad < 2 ^ 32 = (fit r n).1.1.1.1.1.1.1.1.1.1.0 in
        let l1 = one-lt r.tm1 in
        let l2 = one-lt r.tm0 in
        let l3 = one-lt r.sp in
        let l4 = one-lt r.spv in
        let l5 = one-lt r.vtm1 in
        let l6 = one-lt r.vtm0 in
        let l7 = one-lt r.vack in
        let l8 = one-lt r.vsack in
        cons (omega arith) (cons (omega arith) (cons (omega arith) (cons (omega arith) (cons (omega arith) refl))))

    rear_bytes_lem : digits six rear ≡ drop 10 (bytes_of r)
    rear_bytes_lem =
        let v : r.vad < 2 ^ 33 = vad_lt r n in
        cons (omega arith) (cons (omega arith) (cons (omega arith) (cons (omega arith) (cons (omega arith) (cons (omega arith) refl)))))

    pub packed_is : packed r ≡ bytes_of r
    packed_is = packed_groups ∙ append (append front_bytes middle-bytes) rear_bytes_lem

-- the part from an offset to the end, changed and back: its front is vs and the rest is as it was
pub part_back : (xs vs ys : List ℕ) (at k : ℕ) → at + k ≤ length xs → ys ≡ vs ++ drop k (take (length xs - at) (drop at xs)) → take at xs ++ (ys ++ drop (length xs - at) (drop at xs)) ≡ take at xs ++ vs ++ drop (at + k) xs
part_back xs vs ys at k h e =
    let t : take (length xs - at) (drop at xs) ≡ drop at xs = take_all (length xs - at) (drop at xs) (simp length-drop (omega arith)) in
    let d : drop (length xs - at) (drop at xs) ≡ [] = drop_of_length-le (drop at xs) {i = length xs - at} (simp length-drop (omega arith)) in
    let m : ys ++ drop (length xs - at) (drop at xs) ≡ vs ++ drop (at + k) xs = rw (d, append-nil, e, t, drop-drop) in
    ap (λ (r : List ℕ). take at xs ++ r) m ∙ sym (append_assoc (take at xs) vs (drop (at + k) xs))

-- the packer's three answers
module _ (buf : List ℕ) (at : ℕ) (r : Record) where
  pub refused_wide : too_wide r ≡ true → (2 ≡ pack_refusal buf at r) × (buf ≡ pack_into buf at r)
  unfolding pack_refusal pack_into
  refused_wide e = (sym (rw e), sym (rw e))

  pub refused-few : too_wide r ≡ false → too_few (length buf) at ≡ true → (6 ≡ pack_refusal buf at r) × (buf ≡ pack_into buf at r)
  unfolding pack_refusal pack_into
  refused-few e f = (sym (rw (e, f)), sym (rw (e, f)))

  pub written : too_wide r ≡ false → too_few (length buf) at ≡ false → (0 ≡ pack_refusal buf at r) × (take at buf ++ packed r ++ drop (at + 16) buf ≡ pack_into buf at r)
  unfolding pack_refusal pack_into
  written e f = (sym (rw (e, f)), sym (rw (e, f)))

-- "fewer than 16 bytes from the given offset"
pub past_end : (size at : ℕ) → size < at → true ≡ too_few size at
unfolding too_few
past_end size at h = sym (lt-ltb size (at + 16) (omega arith))

pub few_left : (size at : ℕ) → at ≤ size → ltb (size - at) 16 ≡ too_few size at
unfolding too_few
few_left size at h =
    by-test (ltb (size - at) 16)
    (λ e. let l : size - at < 16 = ltb-true (size - at) 16 e in e ∙ sym (lt-ltb size (at + 16) (omega arith)))
    (λ e. let l : 16 ≤ size - at = ltb-false (size - at) 16 e in e ∙ sym (le-ltb size (at + 16) (omega arith)))

pub room : (size at : ℕ) → too_few size at ≡ false → at + 16 ≤ size
unfolding too_few
room size at e = ltb-false size (at + 16) e
