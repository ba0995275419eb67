-- Document 01, "The line record": "16 bytes, bit-packed, most significant first: stamp 32; RESET, RQST 1 each; ARB 4; START, ACK, TM1, TM0,
-- SP, SPV 1 each; AD 32; VTM1, VTM0, VACK, VSACK 1 each; VAD 33; spare 15, zero."
use Rattle.std.specs.Prelude.{ℕ, List, [], ◌∷◌, Bool, eqb, get_or, replicate}
use Rattle.basics.specs.Lines.{one}
use Rattle.record.specs.Digits.{number, digits}
use Rattle.record.specs.declared.Record.{Record}

-- the fields' widths, in the order of document 01
abbrev pub fields : List ℕ
fields = 32 ∷ 1 ∷ 1 ∷ 4 ∷ 1 ∷ 1 ∷ 1 ∷ 1 ∷ 1 ∷ 1 ∷ 32 ∷ 1 ∷ 1 ∷ 1 ∷ 1 ∷ 33 ∷ 15 ∷ []

-- the fields of a record in that order, the spare bits zero
abbrev pub values : Record → List ℕ
values r =
    r.stamp ∷ one r.reset ∷ one r.rqst ∷ r.arb ∷ one r.start ∷ one r.ack ∷ one r.tm1
    ∷ one r.tm0 ∷ one r.sp ∷ one r.spv ∷ r.ad ∷ one r.vtm1 ∷ one r.vtm0 ∷ one r.vack
    ∷ one r.vsack ∷ r.vad ∷ 0 ∷ []

-- sixteen bytes
abbrev pub bytes : List ℕ
bytes = replicate 16 8

-- the sixteen bytes of a record
unfoldable pub packed : Record → List ℕ
packed r = digits bytes (number fields (values r))

-- the fields that sixteen bytes hold, the spare bits last
unfoldable pub fields_in : List ℕ → List ℕ
fields_in bs = digits fields (number bytes bs)

-- field k of them
abbrev pub field : ℕ → List ℕ → ℕ
field k bs = get_or (fields_in bs) k 0

-- a field of one line
abbrev pub line : ℕ → List ℕ → Bool
line k bs = eqb (field k bs) 1

-- the record that sixteen bytes hold, whatever their spare bits
unfoldable pub record_in : List ℕ → Record
record_in bs =
    record {
      stamp = field 0 bs;
      reset = line 1 bs;
      rqst = line 2 bs;
      arb = field 3 bs;
      start = line 4 bs;
      ack = line 5 bs;
      tm1 = line 6 bs;
      tm0 = line 7 bs;
      sp = line 8 bs;
      spv = line 9 bs;
      ad = field 10 bs;
      vtm1 = line 11 bs;
      vtm0 = line 12 bs;
      vack = line 13 bs;
      vsack = line 14 bs;
      vad = field 15 bs;
    }

-- their spare bits
unfoldable pub spare_in : List ℕ → ℕ
spare_in bs = field 16 bs
