-- Document 02, wish 4: "Decoding a START must also answer which of the four byte lanes of the enclosing word carry the unit: one for a byte, two for a
-- halfword, four for a word and for each word of a block. For a byte, lane k is address modulo 4; halfword 1 is lanes 2 and 3."
use Rattle.std.specs.Prelude.{ℕ, ◌+◌, ◌-◌, ◌*◌, ◌%◌, ◌^◌, ◌<◌, Bool, false, ◌&&◌, ◌||◌, ◌≡◌, leb, ltb}
use Rattle.basics.specs.Lines.{one, active, active_below}
use Rattle.codes.specs.declared.Unit.{Unit}
use Rattle.codes.specs.declared.Unit.TheVariants.{Byte, Halfword, Word, Two, Four, Eight, Sixteen}
use Rattle.codes.specs.declared.Operation.{Operation}
use Rattle.codes.specs.declared.Meaning.{Meaning}
use Rattle.codes.specs.Units.{bytes_in, words_in}

-- ---- which lanes carry a unit
-- the byte at address b is one of the unit's at address a
abbrev pub in_unit : Unit → ℕ → ℕ → Bool
in_unit u a b = leb a b && ltb b (a + bytes_in u)

-- where "the word enclosing them" begins (001, 2.6)
abbrev pub enclosing : ℕ → ℕ
enclosing a = a - a % 4

-- lane k carries the unit in word j of its transfer, both counted from 0: byte k of that word is one of the unit's
abbrev pub carries : Unit → ℕ → ℕ → ℕ → Bool
carries u a j k = in_unit u a (enclosing a + (4 * j + k))

-- the lanes that carry it in the enclosing word, lane k in bit k; in a block's other words they are the same (`lane` below)
unfoldable pub lanes_of : Unit → ℕ → ℕ
lanes_of u a = one (carries u a 0 0) + 2 * one (carries u a 0 1) + 4 * one (carries u a 0 2) + 8 * one (carries u a 0 3)

-- an operation, and beside it its lanes
abbrev pub with_lanes : Operation → Meaning
with_lanes op = record { operation = op; lanes = lanes_of op.unit op.address }

-- ---- what the wish says of them
-- "one for a byte, two for a halfword, four for a word and for each word of a block"
abbrev pub lane_count : Unit → ℕ
lane_count Byte = 1
lane_count Halfword = 2
lane_count Word = 4
lane_count Two = 4
lane_count Four = 4
lane_count Eight = 4
lane_count Sixteen = 4

-- of an operation and the lanes that the decoder gives beside it, sentence by sentence
pub record Carried (op : Operation) (lanes : ℕ) : Type 0 where
  -- in each word j of the transfer bit k says whether lane k carries the unit; there are four lanes
  pub lane : (j k : ℕ) → j < words_in op.unit → k < 4 → active k lanes ≡ carries op.unit op.address j k
  pub four : lanes < 16
  pub many : active_below 4 lanes ≡ lane_count op.unit
  -- "For a byte, lane k is address modulo 4", and that lane alone
  pub byte : op.unit ≡ Byte → lanes ≡ 2 ^ (op.address % 4)
  -- halfword 0 is lanes 0 and 1, "halfword 1 is lanes 2 and 3"
  pub halfword0 : op.unit ≡ Halfword → op.address % 4 ≡ 0 → lanes ≡ 1 + 2
  pub halfword1 : op.unit ≡ Halfword → op.address % 4 ≡ 2 → lanes ≡ 4 + 8
  -- a word's are all four, and so are a block's
  pub words : lane_count op.unit ≡ 4 → lanes ≡ 1 + 2 + 4 + 8

-- the two halfwords of a word share no lane, and together have the word's
pub record Halves (a : ℕ) : Type 0 where
  pub apart : (k : ℕ) → k < 4 → (active k (lanes_of Halfword a) && active k (lanes_of Halfword (a + 2))) ≡ false
  pub whole : (k : ℕ) → k < 4 → (active k (lanes_of Halfword a) || active k (lanes_of Halfword (a + 2))) ≡ active k (lanes_of Word a)
