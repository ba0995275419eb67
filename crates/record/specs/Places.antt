-- Where each field stands, read off document 01's order by hand, byte by byte: an exchange of two fields that packing and unpacking share would
-- cancel out in the round trip. The bytes below are in hex, and so is the value of a line alone in its byte:
--   bytes 0 to 3    the stamp
--   byte 4          RESET 80, RQST 40, ARB3 to ARB0 20 10 08 04, START 02, ACK 01
--   byte 5          TM1 80, TM0 40, SP 20, SPV 10, AD31 to AD28 08 04 02 01
--   bytes 6 to 8    AD27 to AD4
--   byte 9          AD3 to AD0 80 40 20 10, VTM1 08, VTM0 04, VACK 02, VSACK 01
--   bytes 10 to 13  VAD32 to VAD1
--   byte 14         VAD0 80, the highest seven spare bits
--   byte 15         the other eight
use Rattle.std.specs.Prelude.{ℕ, ◌^◌, ◌≡◌, List, true, set, replicate}
use Rattle.record.specs.Layout.{record_in, spare_in}

-- sixteen bytes of which byte k alone is not 0
abbrev pub only : ℕ → ℕ → List ℕ
only k byte = set (replicate 16 0) k byte

-- the highest and the lowest line of each field
pub record Places : Type 0 where
  pub stamp31 : (record_in (only 0 0x80)).stamp ≡ 2 ^ 31
  pub stamp0 : (record_in (only 3 0x01)).stamp ≡ 1
  pub reset : (record_in (only 4 0x80)).reset ≡ true
  pub rqst : (record_in (only 4 0x40)).rqst ≡ true
  pub arb3 : (record_in (only 4 0x20)).arb ≡ 8
  pub arb0 : (record_in (only 4 0x04)).arb ≡ 1
  pub start : (record_in (only 4 0x02)).start ≡ true
  pub ack : (record_in (only 4 0x01)).ack ≡ true
  pub tm1 : (record_in (only 5 0x80)).tm1 ≡ true
  pub tm0 : (record_in (only 5 0x40)).tm0 ≡ true
  pub sp : (record_in (only 5 0x20)).sp ≡ true
  pub spv : (record_in (only 5 0x10)).spv ≡ true
  pub ad31 : (record_in (only 5 0x08)).ad ≡ 2 ^ 31
  pub ad0 : (record_in (only 9 0x10)).ad ≡ 1
  pub vtm1 : (record_in (only 9 0x08)).vtm1 ≡ true
  pub vtm0 : (record_in (only 9 0x04)).vtm0 ≡ true
  pub vack : (record_in (only 9 0x02)).vack ≡ true
  pub vsack : (record_in (only 9 0x01)).vsack ≡ true
  pub vad32 : (record_in (only 10 0x80)).vad ≡ 2 ^ 32
  pub vad0 : (record_in (only 14 0x80)).vad ≡ 1
  pub spare14 : spare_in (only 14 0x40) ≡ 2 ^ 14
  pub spare0 : spare_in (only 15 0x01) ≡ 1
