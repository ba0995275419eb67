-- Document 01: "The state holds the wave (a set of slots), settling count 0 to 2, starts in this turn (below the limit), owner or none, hold limit,
-- and a transfer that is idle or open with its words owed (1 to 16) and age (0 to 255). With an empty wave the settling count and the turn
-- are 0." Refusal 5: "a state .. outside the bounds below". Refusal 3: "hold limit not 1 to 16, a node's words not 0, 1, 2, 4, 8, 16".
-- A wave of sixteen slots and an age of 0 to 255 are what their types u16 and u8 hold, so these two are not asked again.
use Rattle.std.specs.Prelude.{ℕ, zero, suc, Bool, true, cond, not, ◌&&◌, ◌||◌, List, get_or, eqb, ltb, leb, Option, Some, None, Result}
use Rattle.basics.specs.declared.refusal.Refusal.{Refusal}
use Rattle.basics.specs.Answers.{Answer, accepted, refused, answered}
use Rattle.cycle.specs.declared.Bus.{Bus}
use Rattle.cycle.specs.declared.Transfer.{Transfer}
use Rattle.cycle.specs.declared.Transfer.TheVariants.{Idle, Open}
use Rattle.basics.specs.Numbers.{slot_count, lawful_limit}
use Rattle.cycle.specs.State.{fresh}

-- "settling count 0 to 2, starts in this turn (below the limit) .. hold limit"
unfoldable pub lawful_counts : ℕ → ℕ → ℕ → Bool
lawful_counts limit settling turn = lawful_limit limit && leb settling 2 && ltb turn limit

-- "owner or none"
unfoldable pub lawful_owner : Option ℕ → Bool
lawful_owner None = true
lawful_owner (Some s) = ltb s slot_count

-- "idle or open with its words owed (1 to 16)"
unfoldable pub lawful_transfer : Transfer → Bool
lawful_transfer Idle = true
lawful_transfer (Open owed age) = leb 1 owed && leb owed 16

-- "With an empty wave the settling count and the turn are 0"
unfoldable pub lawful_rest : ℕ → ℕ → ℕ → Bool
lawful_rest wave settling turn = not (eqb wave 0) || (eqb settling 0 && eqb turn 0)

unfoldable pub in_bounds : Bus → Bool
in_bounds b =
    lawful_counts b.limit b.settling b.turn
    && lawful_owner b.owner
    && lawful_transfer b.transfer
    && lawful_rest b.wave b.settling b.turn

-- "words not 0, 1, 2, 4, 8, 16"
unfoldable pub lawful_word : ℕ → Bool
lawful_word n = eqb n 0 || eqb n 1 || eqb n 2 || eqb n 4 || eqb n 8 || eqb n 16

-- the words of the slots below k
unfoldable pub lawful_below : ℕ → List ℕ → Bool
lawful_below zero words = true
lawful_below (suc k) words = lawful_word (get_or words k 0) && lawful_below k words

-- of all sixteen nodes, whether they want or not
abbrev pub lawful_words : List ℕ → Bool
lawful_words words = lawful_below 16 words

-- a fresh bus for a given hold limit; refusal 3 for a limit not 1 to 16
unfoldable pub fresh_of : ℕ → Answer Bus
fresh_of limit = cond (lawful_limit limit) (accepted (fresh limit)) (refused 3 (fresh 0))

-- document 01's number and values for each case of the constructor's answer
abbrev pub fresh_answer : Result Bus Refusal → Answer Bus
fresh_answer result = answered (fresh 0) result
