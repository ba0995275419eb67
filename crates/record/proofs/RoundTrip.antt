-- Packing and unpacking undo each other, a record has exactly one packing, and the answers' numbers lose nothing. Assumes nothing.
use Prim.Native.Nat.{ℕ, zero, suc, ◌+◌, ◌%◌, ◌^◌, ◌<◌, ◌≤◌}
use mathlib.Core.Path.{◌≡◌, refl, sym, ap, subst, ◌∙◌}
use mathlib.Core.List.{List, ◌++◌, append_assoc}
use mathlib.Core.Bool.{Bool, true, false}
use native.Mathlib.Omega.{arith}
use native.Mathlib.Nat.{mod-eq_of_lt}
use borrow.Author.Tests.{eqb-true, lt-leb}
use lib.Dec.{eqb}
use lib.ListN.{length, take, drop, replicate, length-append, length-drop, take-append-drop}
use lib.Seq.{length-take-le, take_all, drop_at, take_at, drop-drop, get_or-drop}
use Rattle.basics.specs.Lines.{one}
use Rattle.std.specs.Prelude.{Result}
use Rattle.basics.specs.Answers.{Answer, accepted, call_number}
use Rattle.basics.specs.declared.refusal.Refusal.{Refusal}
use Rattle.basics.proofs.Refusals.{one_result, one_call}
use Rattle.basics.proofs.Bools.{by-test, cond-true, cond-false}
use Rattle.record.specs.Digits.{number, digits}
use Rattle.record.specs.Layout.{fields, values, bytes, packed, fields_in, record_in, spare_in}
use Rattle.record.specs.Packing.{too_wide, too_few, blank, pack_refusal, pack_into, unpacked_answer, parsed, unpack_of}
use Rattle.record.specs.declared.Record.{Record}
use Rattle.record.proofs.Digits.{Fit, digits-fit, number_digits, digits_number, number_lt}
use Rattle.record.proofs.Bytes.{AllBytes, first_of}
use Rattle.record.proofs.Widths.{fit, too_wide_is}
use Rattle.record.proofs.Packing.{refused_wide, refused-few, written, room}
use Rattle.record.proofs.Unpacking.{parsed_is, few, enough}

-- a line written as a bit and read back, and the other way round
one_back : (t : Bool) → eqb (one t) 1 ≡ t
one_back true = refl
one_back false = refl

one-two : (x : ℕ) → x < 2 → one (eqb x 1) ≡ x
one-two zero h = refl
one-two (suc zero) h = refl
one-two (suc (suc x)) h = absurd (omega arith)

one-mod : (n : ℕ) → one (eqb (n % 2) 1) ≡ n % 2
one-mod n = one-two (n % 2) (omega arith)

-- the fields that a packed record holds are the record's
fields-packed : (r : Record) → too_wide r ≡ false → fields_in (packed r) ≡ values r
unfolding fields_in packed
fields-packed r n =
    let N = number fields (values r) in
    let e : number bytes (digits bytes N) ≡ N = number_digits bytes N ∙ mod-eq_of_lt (number_lt fields (values r) (fit r n)) in
    ap (digits fields) e ∙ digits_number fields (values r) (fit r n)

record_packed : (r : Record) → too_wide r ≡ false → record_in (packed r) ≡ r
unfolding record_in
record_packed r n = rw (fields-packed r n) (simp one_back)

parsed-packed : (r : Record) → too_wide r ≡ false → parsed (packed r) ≡ accepted r
unfolding spare_in
parsed-packed r n = sym (parsed_is (packed r) (rw (fields-packed r n))) ∙ ap accepted (record_packed r n)

-- what was accepted had no spare bits and is the record that the bytes hold
parsed-from : (bs : List ℕ) (r : Record) → parsed bs ≡ accepted r → (spare_in bs ≡ 0) × (record_in bs ≡ r)
unfolding parsed
parsed-from bs r e =
    by-test (eqb (spare_in bs) 0)
    (λ t. (eqb-true (spare_in bs) 0 t, ap (λ (a : Answer Record). a.value) (sym (cond-true _ _ t) ∙ e)))
    (λ f. let z : ◌≡◌ {A = ℕ} 3 0 = ap (λ (a : Answer Record). a.number) (sym (cond-false _ _ f) ∙ e) in absurd (omega arith))

values_in : (bs : List ℕ) → spare_in bs ≡ 0 → values (record_in bs) ≡ fields_in bs
unfolding record_in fields_in spare_in
values_in bs e = rw e (simp one-mod)

-- a record that was read is not too wide
pub record_narrow : (bs : List ℕ) → too_wide (record_in bs) ≡ false
unfolding record_in fields_in
record_narrow bs =
    let r = record_in bs in
    let f = digits-fit fields (number bytes bs) in
    too_wide_is r f.0 f.1.1.1.1.1.1.1.1.1.1.0 ∙ rw (lt-leb 16 r.arb f.1.1.1.0, lt-leb (2 ^ 33) r.vad f.1.1.1.1.1.1.1.1.1.1.1.1.1.1.1.0)

packed_in : (bs : List ℕ) → Fit bytes bs → spare_in bs ≡ 0 → packed (record_in bs) ≡ bs
unfolding packed fields_in
packed_in bs f e =
    let N = number bytes bs in
    let m : number fields (values (record_in bs)) ≡ N = ap (number fields) (values_in bs e) ∙ number_digits fields N ∙ mod-eq_of_lt (number_lt bytes bs f) in
    ap (digits bytes) m ∙ digits_number bytes bs f

-- the front of a list of bytes fits the layout's sixteen
bytes_fit : (xs : List ℕ) → 16 ≤ length xs → AllBytes xs → Fit bytes (take 16 xs)
bytes_fit xs h f =
    rw (first_of 16 xs h)
    (f 0, (f 1, (f 2, (f 3, (f 4, (f 5, (f 6, (f 7, (f 8, (f 9, (f 10, (f 11, (f 12, (f 13, (f 14, (f 15, tt))))))))))))))))

-- a packed record is sixteen bytes
sixteen : (r : Record) → length (packed r) ≡ 16
unfolding packed
sixteen r = refl

digits-bytes : (m n : ℕ) → AllBytes (digits (replicate m 8) n)
digits-bytes zero n k = omega arith
digits-bytes (suc m) n zero = omega arith
digits-bytes (suc m) n (suc k) = digits-bytes m n k

packed-bytes : (r : Record) → AllBytes (packed r)
unfolding packed
packed-bytes r = digits-bytes 16 (number fields (values r))

-- what packing leaves at the offset, and all around it
module _ (buf : List ℕ) (at : ℕ) (r : Record) (n : too_wide r ≡ false) (h : too_few (length buf) at ≡ false) where
  before_at : length (take at buf) ≡ at
  before_at = let l = room (length buf) at h in length-take-le at buf (omega arith)

  length-kept : length (pack_into buf at r) ≡ length buf
  length-kept =
      let l = room (length buf) at h in
      rw (← (written buf at r n h).1) (simp (length-append, length-drop) (omega (arith, sixteen r, before_at)))

  there : take 16 (drop at (pack_into buf at r)) ≡ packed r
  there =
      rw (← (written buf at r n h).1)
      (rw (append_assoc (take at buf) (packed r) (drop (at + 16) buf), drop_at (take at buf) (packed r ++ drop (at + 16) buf) at before_at)
      (take_at (packed r) (drop (at + 16) buf) 16 (sixteen r)))

  unpacked : unpack_of (pack_into buf at r) at ≡ accepted r
  unpacked = enough (pack_into buf at r) at (rw length-kept h) ∙ ap parsed there ∙ parsed-packed r n

  before-kept : take at (pack_into buf at r) ≡ take at buf
  before-kept = rw (← (written buf at r n h).1, append_assoc) (take_at (take at buf) (packed r ++ drop (at + 16) buf) at before_at)

  after_kept : drop (at + 16) (pack_into buf at r) ≡ drop (at + 16) buf
  after_kept =
      rw (← (written buf at r n h).1)
      (drop_at (take at buf ++ packed r) (drop (at + 16) buf) (at + 16) (simp length-append (omega (arith, sixteen r, before_at))))

abbrev Kept : List ℕ → List ℕ → ℕ → Type 0
Kept xs ys at = (length ys ≡ length xs) × (take at ys ≡ take at xs) × (drop (at + 16) ys ≡ drop (at + 16) xs)

kept : (buf : List ℕ) (at : ℕ) (r : Record) → Kept buf (pack_into buf at r) at
kept buf at r =
    by-test (too_wide r)
    (λ w. subst (λ (ys : List ℕ). Kept buf ys at) (refused_wide buf at r w).1 (refl, refl, refl))
    (λ n. by-test (too_few (length buf) at)
    (λ t. subst (λ (ys : List ℕ). Kept buf ys at) (refused-few buf at r n t).1 (refl, refl, refl))
    (λ h. (length-kept buf at r n h, before-kept buf at r n h, after_kept buf at r n h)))

-- an accepted buffer had the bytes
had_room : (buf : List ℕ) (at : ℕ) (r : Record) → unpack_of buf at ≡ accepted r → too_few (length buf) at ≡ false
had_room buf at r e =
    by-test (too_few (length buf) at)
    (λ t. let z : ◌≡◌ {A = ℕ} 6 0 = ap (λ (a : Answer Record). a.number) (few buf at t ∙ e) in absurd (omega arith))
    (λ f. f)

module _ (buf : List ℕ) (at : ℕ) (r : Record) (f : AllBytes buf) (e : unpack_of buf at ≡ accepted r) where
  packed_again : (pack_refusal buf at r ≡ 0) × (pack_into buf at r ≡ buf)
  packed_again =
      let h = had_room buf at r e in
      let l = room (length buf) at h in
      let xs = drop at buf in
      let g = parsed-from (take 16 xs) r (sym (enough buf at h) ∙ e) in
      let b : Fit bytes (take 16 xs) = bytes_fit xs (simp length-drop (omega arith)) (λ i. rw (get_or-drop at buf i 0) (f (at + i))) in
      let n : too_wide r ≡ false = ap too_wide (sym g.1) ∙ record_narrow (take 16 xs) in
      let p : packed r ≡ take 16 xs = ap packed (sym g.1) ∙ packed_in (take 16 xs) b g.0 in
      let w = written buf at r n h in (
        sym w.0,
        sym w.1
            ∙ rw (p, append_assoc (take at buf) (take 16 xs) (drop (at + 16) buf), ← drop-drop 16 at buf, take-append-drop 16 xs, take-append-drop at buf),
      )

-- sixteen bytes that are accepted are the record's packing
only_packing : (bs : List ℕ) (r : Record) → length bs ≡ 16 → AllBytes bs → parsed bs ≡ accepted r → bs ≡ packed r
only_packing bs r l f e =
    let t : take 16 bs ≡ bs = take_all 16 bs (omega arith) in
    let b : Fit bytes bs = rw t at (bytes_fit bs (omega arith) f) in
    let g = parsed-from bs r e in
    sym (packed_in bs b g.0) ∙ ap packed g.1

-- Document 01's record, whole
pub record RoundTrip : Type 0 where
  -- a record that fits, packed at any offset of any buffer with room, is unpacked there
  pub unpack_of_pack : (buf : List ℕ) (at : ℕ) (r : Record) → too_wide r ≡ false → too_few (length buf) at ≡ false → unpack_of (pack_into buf at r) at ≡ accepted r
  -- only its sixteen bytes change, refused or not
  pub rest-kept : (buf : List ℕ) (at : ℕ) (r : Record) → (length (pack_into buf at r) ≡ length buf) × (take at (pack_into buf at r) ≡ take at buf) × (drop (at + 16) (pack_into buf at r) ≡ drop (at + 16) buf)
  -- what was unpacked is packed again without a refusal, and the buffer stays as it is
  pub pack_of_unpack : (buf : List ℕ) (at : ℕ) (r : Record) → AllBytes buf → unpack_of buf at ≡ accepted r → (pack_refusal buf at r ≡ 0) × (pack_into buf at r ≡ buf)
  -- a record has exactly one packing: its sixteen bytes unpack to it, what unpacks to the same record is the same, and so is what packs alike
  pub a_packing : (r : Record) → too_wide r ≡ false → (length (packed r) ≡ 16) × AllBytes (packed r) × (parsed (packed r) ≡ accepted r)
  pub one_packing : (bs cs : List ℕ) (r : Record) → length bs ≡ 16 → length cs ≡ 16 → AllBytes bs → AllBytes cs → parsed bs ≡ accepted r → parsed cs ≡ accepted r → bs ≡ cs
  pub one_record : (r s : Record) → too_wide r ≡ false → too_wide s ≡ false → packed r ≡ packed s → r ≡ s
  -- the answers' numbers and values lose nothing
  pub numbers_differ : (p q : Result (Unit {0}) Refusal) → call_number p ≡ call_number q → p ≡ q
  pub answers_differ : (u v : Result Record Refusal) → unpacked_answer u ≡ unpacked_answer v → u ≡ v

pub round_trip : RoundTrip
round_trip =
    record {
      unpack_of_pack = unpacked;
      rest-kept = kept;
      pack_of_unpack = packed_again;
      a_packing = λ r n. (sixteen r, packed-bytes r, parsed-packed r n);
      one_packing = λ bs cs r l m f g d e. only_packing bs r l f d ∙ sym (only_packing cs r m g e);
      one_record = λ r s n m e. sym (record_packed r n) ∙ ap record_in e ∙ record_packed s m;
      numbers_differ = one_call;
      answers_differ = one_result blank;
    }
