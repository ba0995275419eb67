-- The lines of a Value Change Dump (IEEE 1364) of a recording: "Each of the 81 lines is a signal of one bit .. Their order is the record's (document 01,
-- "The line record")".
use Rattle.std.specs.Prelude.{ℕ, Bool, List, [], ◌∷◌, ◌++◌}
use Prim.Native.String.{String}
use Rattle.io.specs.Digits.{last_digits}
use Rattle.basics.specs.Lines.{one}
use Rattle.record.specs.declared.Record.{Record}

-- lines of one name: how many there are, and their value in a record as a number
pub record Signal : Type 0 where
  pub name : String
  pub bits : ℕ
  pub value : Record → ℕ

-- a line alone
abbrev pub line : String → (Record → Bool) → Signal
line name active = record { name = name; bits = 1; value = λ r. one (active r) }

-- several, the highest first
abbrev pub bus : String → ℕ → (Record → ℕ) → Signal
bus name bits value = record { name = name; bits = bits; value = value }

-- "RESET, RQST, ARB[3] to ARB[0], START, ACK, TM1, TM0, SP, SPV, AD[31] to AD[0], VTM1, VTM0, VACK, VSACK, VAD[32] to VAD[0]"
abbrev pub signals : List Signal
signals =
    line "RESET" (λ r. r.reset)
    ∷ line "RQST" (λ r. r.rqst)
    ∷ bus "ARB" 4 (λ r. r.arb)
    ∷ line "START" (λ r. r.start)
    ∷ line "ACK" (λ r. r.ack)
    ∷ line "TM1" (λ r. r.tm1)
    ∷ line "TM0" (λ r. r.tm0)
    ∷ line "SP" (λ r. r.sp)
    ∷ line "SPV" (λ r. r.spv)
    ∷ bus "AD" 32 (λ r. r.ad)
    ∷ line "VTM1" (λ r. r.vtm1)
    ∷ line "VTM0" (λ r. r.vtm0)
    ∷ line "VACK" (λ r. r.vack)
    ∷ line "VSACK" (λ r. r.vsack)
    ∷ bus "VAD" 33 (λ r. r.vad)
    ∷ []

-- the levels of these lines in a record, `0` or `1` each
abbrev pub levels_of : List Signal → Record → List ℕ
levels_of [] r = []
levels_of (s ∷ ss) r = last_digits 2 s.bits (s.value r) ++ levels_of ss r

-- of all 81
unfoldable pub levels : Record → List ℕ
levels r = levels_of signals r

-- "the code of line k, counted from 0, is the character 33 + k": that of line 0
abbrev pub first_code : ℕ
first_code = 33
