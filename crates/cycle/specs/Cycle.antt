-- One bus cycle, and a call of the step. Document 01: "RQST is active exactly if the wave is not empty after the cycle. The answer gives
-- RQST, START, ACK, starter, status (none unless a transfer ends) and note." "A refusal returns its number, hands back any state
-- unchanged, gives 0 for every other value and writes nothing."
use Rattle.std.specs.Prelude.{ℕ, Bool, true, false, cond, not, List, eqb, Option, Some, None, Result}
use Rattle.basics.specs.declared.refusal.Refusal.{Refusal}
use Rattle.basics.specs.Answers.{Answer, accepted, refused, answered}
use Rattle.cycle.specs.declared.Bus.{Bus}
use Rattle.cycle.specs.declared.Arbitration.{Arbitration}
use Rattle.cycle.specs.declared.Progress.{Progress}
use Rattle.cycle.specs.declared.Reply.{Reply}
use Rattle.cycle.specs.declared.Moved.{Moved}
use Rattle.cycle.specs.declared.Event.{Event}
use Rattle.cycle.specs.State.{fresh, silent}
use Rattle.cycle.specs.Bounds.{in_bounds, lawful_words}
use Rattle.cycle.specs.Arbitration.{arbitration_of}
use Rattle.cycle.specs.Transfers.{progress_of}

-- START is active exactly if somebody starts
abbrev pub starts_of : Option ℕ → Bool
starts_of None = false
starts_of (Some s) = true

-- the state after a cycle in which arbitration comes to a and the transfer to p; the hold limit stays
unfoldable pub state_by : Bus → Arbitration → Progress → Bus
state_by b a p =
    record {
      wave = a.wave;
      settling = a.settling;
      turn = a.turn;
      owner = a.owner;
      limit = b.limit;
      transfer = p.transfer;
    }

-- "The answer gives RQST, START, ACK, starter, status .. and note"
unfoldable pub reply_by : Arbitration → Progress → Reply
reply_by a p =
    record {
      rqst = not (eqb a.wave 0);
      start = starts_of a.starter;
      ack = p.ack;
      starter = a.starter;
      status = p.status;
      note = p.note;
    }

unfoldable pub moved_by : Bus → Arbitration → Progress → Moved
moved_by b a p = record { bus = state_by b a p; reply = reply_by a p }

-- the cycle once its starter is known
unfoldable pub cycle_by : Bus → Event → ℕ → List ℕ → Arbitration → Moved
cycle_by b e wants words a = moved_by b a (progress_of b.transfer e a.starter wants words)

-- a cycle with no reset
unfoldable pub cycle_of : Bus → Event → ℕ → ℕ → List ℕ → Moved
cycle_of b e wants holds words = cycle_by b e wants words (arbitration_of b.transfer b wants holds words)

-- "Reset: the state becomes fresh, all lines are inactive, the rest is skipped"
abbrev pub reset_of : Bus → Moved
reset_of b = record { bus = fresh b.limit; reply = silent }

-- the state unchanged, and zeros
abbrev pub unmoved : Bus → Moved
unmoved b = record { bus = b; reply = silent }

-- a call over the sets and the sixteen nodes' words: refusal 5 before 3, then a reset or a cycle
unfoldable pub step_of : Bus → Bool → Event → ℕ → ℕ → List ℕ → Answer Moved
step_of b reset e wants holds words =
    cond (in_bounds b)
    (cond (lawful_words words)
    (accepted (cond reset (reset_of b) (cycle_of b e wants holds words)))
    (refused 3 (unmoved b)))
    (refused 5 (unmoved b))

-- document 01's number and values for each case of the step's answer on the state b
abbrev pub answer_of : Bus → Result Moved Refusal → Answer Moved
answer_of b result = answered (unmoved b) result
