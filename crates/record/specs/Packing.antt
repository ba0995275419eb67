-- Document 01: "A record is packed at any offset of a lent buffer: only its 16 bytes change." Refusals 2 and 6 of packing, 6 and 3 of unpacking.
use Rattle.std.specs.Prelude.{ℕ, ◌+◌, ◌^◌, List, [], ◌∷◌, ◌++◌, Bool, false, cond, not, ◌||◌, eqb, ltb, leb, length, take, drop, Result}
use Rattle.basics.specs.Order.{unless}
use Rattle.basics.specs.Answers.{Answer, accepted, refused, answered}
use Rattle.basics.specs.declared.refusal.Refusal.{Refusal}
use Rattle.record.specs.Layout.{fields, values, packed, record_in, spare_in}
use Rattle.record.specs.declared.Record.{Record}

-- one of the values is wider than its bits
abbrev pub wider_than : List ℕ → List ℕ → Bool
wider_than [] vs = false
wider_than (w ∷ ws) [] = false
wider_than (w ∷ ws) (v ∷ vs) = leb (2 ^ w) v || wider_than ws vs

-- "a field wider than its bits"
unfoldable pub too_wide : Record → Bool
too_wide r = wider_than fields (values r)

-- "fewer than 16 bytes from the given offset" of a buffer of so many bytes
unfoldable pub too_few : ℕ → ℕ → Bool
too_few size at = ltb size (at + 16)

-- the packer's refusal, in document 01's order: 2 before 6
unfoldable pub pack_refusal : List ℕ → ℕ → Record → ℕ
pack_refusal buf at r = unless (not (too_wide r)) 2 (unless (not (too_few (length buf) at)) 6 0)

-- "only its 16 bytes change", and nothing on a refusal
unfoldable pub pack_into : List ℕ → ℕ → Record → List ℕ
pack_into buf at r = cond (eqb (pack_refusal buf at r) 0) (take at buf ++ packed r ++ drop (at + 16) buf) buf

-- all zeros: every line inactive, stamp 0
abbrev pub blank : Record
blank =
    record {
      stamp = 0;
      reset = false;
      rqst = false;
      arb = 0;
      start = false;
      ack = false;
      tm1 = false;
      tm0 = false;
      sp = false;
      spv = false;
      ad = 0;
      vtm1 = false;
      vtm0 = false;
      vack = false;
      vsack = false;
      vad = 0;
    }

-- document 01's number and values for each answer of the unpacker
abbrev pub unpacked_answer : Result Record Refusal → Answer Record
unpacked_answer = answered blank

-- what sixteen bytes say: "spare bits not zero on unpacking" is 3
unfoldable pub parsed : List ℕ → Answer Record
parsed bs = cond (eqb (spare_in bs) 0) (accepted (record_in bs)) (refused 3 blank)

-- fewer than sixteen bytes have no spare bits to read: 6
unfoldable pub unpack_of : List ℕ → ℕ → Answer Record
unpack_of buf at = cond (too_few (length buf) at) (refused 6 blank) (parsed (take 16 (drop at buf)))

-- the record at the front of a part, whatever its spare bits, and these bits: all zeros where there are fewer than sixteen bytes
unfoldable pub lines_of : List ℕ → Record
lines_of part = cond (too_few (length part) 0) blank (record_in (take 16 part))

unfoldable pub spare_of : List ℕ → ℕ
spare_of part = cond (too_few (length part) 0) 0 (spare_in (take 16 part))
