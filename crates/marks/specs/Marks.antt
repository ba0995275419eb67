-- Document 02, wish 1: "The caller names 1 to 32 marks in order, each a slot and an interrupt number. A mark is a successful word write to the low 1 MB
-- of that slot's space (address F, slot, 0), its number in AD5 to AD2 (001, 3.3); it counts from its START, once its ACK is seen. Each mark is looked
-- for after the one before." Said of the recording itself: nothing here is about the judge.
use Rattle.std.specs.Prelude.{ℕ, suc, ◌+◌, ◌*◌, ◌/◌, ◌%◌, ◌^◌, ◌≤◌, ◌<◌, Bool, true, false, not, ◌&&◌, ◌≡◌, get_or, eqb}
use Rattle.basics.specs.Answers.{Answer}
use Rattle.record.specs.declared.Record.{Record}
use Rattle.codes.specs.declared.Meaning.{Meaning}
use Rattle.codes.specs.declared.Unit.{Unit}
use Rattle.codes.specs.declared.Unit.TheVariants.{Byte, Halfword, Word, Two, Four, Eight, Sixteen}
use Rattle.codes.specs.Start.{decode_of}
use Rattle.rules.specs.Recording.{Lines, Opened}
use Rattle.marks.specs.declared.Mark.{Mark}
use Rattle.marks.specs.declared.Marks.{Marks}

-- what stands where there is no mark
abbrev pub zero_mark : Mark
zero_mark = record { slot = 0; number = 0 }

-- mark p of those that the caller names, counted from 0
abbrev pub mark_at : Marks → ℕ → Mark
mark_at m p = get_or m.marks p zero_mark

-- ---- a mark's START
abbrev pub is_word : Unit → Bool
is_word Byte = false
is_word Halfword = false
is_word Word = true
is_word Two = false
is_word Four = false
is_word Eight = false
is_word Sixteen = false

-- F, slot, 0: the top twelve bits of an address in the low 1 MB of the slot's space
abbrev pub space : ℕ → ℕ
space slot = 0xF00 + slot * 16

-- what a START's code means, by the decoder, is a word write to that space with the number in AD5 to AD2; AD19 to AD6 are free (001, 3.3:
-- the address "folds around")
unfoldable pub writes_to : Mark → Answer Meaning → Bool
writes_to m a =
    eqb a.number 0
    && a.value.operation.write
    && is_word a.value.operation.unit
    && eqb (a.value.operation.address / 2 ^ 20) (space m.slot)
    && eqb (a.value.operation.address / 4 % 16) m.number

-- a START of the mark: no attention cycle, and not in a RESET record
unfoldable pub is_start_of : Mark → Record → Bool
is_start_of m r = r.start && not r.ack && not r.reset && writes_to m (decode_of r.tm1 r.tm0 r.ad)

-- ---- a mark's write
-- the mark is written: START at record k, and the ACK that ends that transfer, at record i, is a success (TM1 TM0 11). `Opened`: no RESET, START or ACK
-- came between
pub record Written (r : Lines) (m : Mark) (k i : ℕ) : Type 0 where
  pub begins : is_start_of m (r k) ≡ true
  pub opened : Opened r i k
  pub alive : (r i).reset ≡ false
  pub plain : (r i).start ≡ false
  pub ends : (r i).ack ≡ true
  pub tm1 : (r i).tm1 ≡ true
  pub tm0 : (r i).tm0 ≡ true

-- the first write to the mark whose START is at record `from` or behind it
pub record FirstWrite (r : Lines) (m : Mark) (from k i : ℕ) : Type 0 where
  pub behind : from ≤ k
  pub written : Written r m k i
  pub none : (l j : ℕ) → from ≤ l → l < k → Written r m l j → ⊥

-- WHERE MARK p IS: its START is record k, its ACK record i. Mark 0 is the first of its kind, mark p + 1 the first of its kind behind mark p's ACK
pub data MarkAt (r : Lines) (m : Marks) : ℕ → ℕ → ℕ → Type 0 where
  first : {k i : ℕ} → FirstWrite r (mark_at m 0) 0 k i → MarkAt r m 0 k i
  next : {p k i l j : ℕ} → MarkAt r m p k i → FirstWrite r (mark_at m (suc p)) (suc i) l j → MarkAt r m (suc p) l j
