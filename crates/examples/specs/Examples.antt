-- Document 01, "Checked examples": "Of the cases below only those marked P are proved, gathered as one table under a single statement".
use Rattle.std.specs.Prelude.{◌+◌, ◌^◌, ◌≡◌, [], ◌∷◌, ◌++◌, true, false, Some, get_or, replicate}
use Rattle.basics.specs.Answers.{accepted, refused}
use Rattle.record.specs.declared.Record.{Record}
use Rattle.record.specs.Layout.{packed}
use Rattle.record.specs.Packing.{blank}
use Rattle.codes.specs.declared.Unit.TheVariants.{Halfword, Eight, Sixteen}
use Rattle.codes.specs.Start.{decode_of, nothing_meant}
use Rattle.codes.specs.Parity.{parity_of}
use Rattle.contest.specs.Contest.{winner_of}
use Rattle.rules.specs.Rules.{difference, rule2}
use Rattle.cycle.specs.State.{fresh}
use Rattle.reached.specs.Cases.{replies_of, p7_inputs, p7_replies, p8_inputs, p8_replies}
use Rattle.cache.specs.Tables.{Tables, tables}
use Rattle.cache.specs.Calls.{refusal, read_of, after_read, after_write, after_evict}

-- "stamp FFFFFFFE, RQST, ARB 10", every other line inactive
abbrev pub p1_record : Record
p1_record =
    record {
      stamp = 0xFFFFFFFE;
      reset = blank.reset;
      rqst = true;
      arb = 10;
      start = blank.start;
      ack = blank.ack;
      tm1 = blank.tm1;
      tm0 = blank.tm0;
      sp = blank.sp;
      spv = blank.spv;
      ad = blank.ad;
      vtm1 = blank.vtm1;
      vtm0 = blank.vtm0;
      vack = blank.vack;
      vsack = blank.vsack;
      vad = blank.vad;
    }

-- "memory 7": one block, every slot invalid; "slot 3 writes 9"; "slot 4 reads 9"
abbrev pub p9_fresh : Tables
p9_fresh = tables (replicate 16 0) (replicate 16 0) (7 ∷ [])

abbrev pub p9_written : Tables
p9_written = after_write p9_fresh 0 3 9

abbrev pub p9_read : Tables
p9_read = after_read p9_written 0 4

pub record Examples : Type 0 where
  -- P1 "stamp FFFFFFFE, RQST, ARB 10: bytes FF FF FF FE 68, then eleven 00."
  pub p1 : packed p1_record ≡ (0xFF ∷ 0xFF ∷ 0xFF ∷ 0xFE ∷ 0x68 ∷ []) ++ replicate 11 0
  -- P2 "read, TM0 0, AD 0000100E: block of 8 at 00001000. AD 1E: 16 words at 0. AD 3E: refusal 4." Beside it the lanes of document 02, wish 4: four
  pub p2_eight : decode_of false false 0x100E ≡ accepted (record { operation = record { write = false; unit = Eight; address = 0x1000 }; lanes = 15 })
  pub p2_sixteen : decode_of false false 0x1E ≡ accepted (record { operation = record { write = false; unit = Sixteen; address = 0 }; lanes = 15 })
  pub p2_none : decode_of false false 0x3E ≡ refused 4 nothing_meant
  -- P3 "write, TM0 0, AD 00002003: halfword at 00002002." It is halfword 1: lanes 2 and 3
  pub p3 : decode_of true false 0x2003 ≡ accepted (record { operation = record { write = true; unit = Halfword; address = 0x2002 }; lanes = 12 })
  -- P4 "parity of 0: inactive; 80000000: active; FFFFFFFF: inactive."
  pub p4_none : parity_of 0 ≡ false
  pub p4_one : parity_of 0x80000000 ≡ true
  pub p4_all : parity_of 0xFFFFFFFF ≡ false
  -- P5 "contest 5 and 10: 10; 0 alone: 0."
  pub p5_two : winner_of (2 ^ 5 + 2 ^ 10) ≡ Some 10
  pub p5_zero : winner_of (2 ^ 0) ≡ Some 0
  -- P6 "stamps FFFFFFFE to 3: difference 5. 0 to 80000000 passes; 0 to 80000001, and equal stamps, break rule 2."
  pub p6_wraps : difference 0xFFFFFFFE 3 ≡ 5
  pub p6-most : rule2 true (difference 0 0x80000000) ≡ true
  pub p6-more : rule2 true (difference 0 0x80000001) ≡ false
  pub p6-equal : rule2 true (difference 7 7) ≡ false
  -- P7 "limit 1, one word each; 5 and 10 want from cycle 1 until they start, 15 from 4; finishes in 8 and 10: STARTs in 3 (10), 9 (5), 12 (15)."
  pub p7 : replies_of (fresh 1) p7_inputs ≡ p7_replies
  -- P8 "START in 3, no event: timeout ACK in 259."
  pub p8 : replies_of (fresh 1) p8_inputs ≡ p8_replies
  -- P9 "memory 7; slot 3 writes 9; slot 4 reads 9: states 2 and 1, memory 7; slot 3 evicts: memory 9."
  pub p9_writes : refusal p9_fresh 0 3 ≡ 0
  pub p9_reads : read_of p9_written 0 4 ≡ accepted 9
  pub p9_owner : get_or p9_read.states 3 0 ≡ 2
  pub p9_reader : get_or p9_read.states 4 0 ≡ 1
  pub p9_kept : p9_read.memory ≡ 7 ∷ []
  pub p9_evicts : refusal p9_read 0 3 ≡ 0
  pub p9_memory : (after_evict p9_read 0 3).memory ≡ 9 ∷ []
