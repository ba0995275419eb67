-- The checked examples of document 01 that are about the bus, and the cases beside them, hold by computing, through the lines of the answer.
-- Assumes nothing.
use mathlib.Core.Path.{◌≡◌, refl}
use Rattle.basics.specs.Lines.{bit, active}
use Rattle.slots.specs.Set.{including, without, top_below}
use Rattle.cycle.specs.State.{fresh}
use Rattle.cycle.specs.Arbitration.{attends, formed, parked, forming, leaves, starting, serving, arbitration_of}
use Rattle.cycle.specs.Transfers.{opened, attention, short_of, watched, struck, going_on, progress_of}
use Rattle.cycle.specs.Cycle.{state_by, reply_by, moved_by, cycle_by, cycle_of}
use Rattle.cycle.specs.Nodes.{joined_of, add_of, gathered, sets_of}
use Rattle.cycle.specs.Runs.{cycle_in, next, start_in, Asks}
use Rattle.reached.specs.Cases.{replies_of, p7_inputs, p7_replies, p8_inputs, p8_replies, hold_inputs, hold_replies, attention_inputs, attention_replies, late_inputs, late_replies, word_inputs, word_replies, extra_inputs, extra_replies, finish_inputs, finish_replies}

computed : (replies_of (fresh 1) p7_inputs ≡ p7_replies) × (replies_of (fresh 1) p8_inputs ≡ p8_replies) × (replies_of (fresh 2) hold_inputs ≡ hold_replies) × (replies_of (fresh 1) attention_inputs ≡ attention_replies) × (replies_of (fresh 1) late_inputs ≡ late_replies) × (replies_of (fresh 1) word_inputs ≡ word_replies) × (replies_of (fresh 1) extra_inputs ≡ extra_replies) × (replies_of (fresh 1) finish_inputs ≡ finish_replies) × Asks 10 (fresh 1) p7_inputs
unfolding replies_of p7_inputs p7_replies p8_inputs p8_replies hold_inputs hold_replies attention_inputs attention_replies late_inputs late_replies word_inputs word_replies extra_inputs extra_replies finish_inputs finish_replies start_in next cycle_in cycle_of cycle_by moved_by state_by reply_by arbitration_of forming formed parked serving starting leaves attends opened attention short_of watched struck going_on progress_of without including top_below active bit gathered add_of joined_of sets_of
computed = (refl, refl, refl, refl, refl, refl, refl, refl, (refl, (refl, (refl, tt))))

-- P7: STARTs in 3 (10), 9 (5), 12 (15), and ACKs in 8 and 10
pub P7 : replies_of (fresh 1) p7_inputs ≡ p7_replies
P7 = computed.0

-- P8: START in 3 and no event: the ACK with timeout in 259, and no other
pub P8 : replies_of (fresh 1) p8_inputs ≡ p8_replies
P8 = computed.1

-- limit 2, 12 holds, 4 and 12 want: STARTs 12, 12, 4
pub hold : replies_of (fresh 2) hold_inputs ≡ hold_replies
hold = computed.2

-- two attention cycles, by a starter that no longer wants and by one with words 0, and a stray strobe after each
pub attentions : replies_of (fresh 1) attention_inputs ≡ attention_replies
attentions = computed.3

-- a finish at age 256 wins over the watchdog
pub late : replies_of (fresh 1) late_inputs ≡ late_replies
late = computed.4

-- the watchdog restarts with a word, even in the 256th cycle
pub word_restarts : replies_of (fresh 1) word_inputs ≡ word_replies
word_restarts = computed.5

-- and not with an extra strobe
pub extra_restarts_not : replies_of (fresh 1) extra_inputs ≡ extra_replies
extra_restarts_not = computed.6

-- a finish in the 256th cycle after a word wins over the watchdog
pub finish-after-word : replies_of (fresh 1) finish_inputs ≡ finish_replies
finish-after-word = computed.7

-- in P7 slot 10 wants until it starts, in cycle 3, and not after: so it asks, as demand 3 has it, through the whole run
pub P7-asks : Asks 10 (fresh 1) p7_inputs
P7-asks = computed.8
