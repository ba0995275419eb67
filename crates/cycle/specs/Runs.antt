-- Runs of the bus: cycles one after another, none of them a reset. Document 01: "Demand 3 speaks of the cycle rules above; a refused call is
-- no cycle." So an input of a run is any slave event and any table of sixteen nodes whose words are lawful: any requests, holds and slave
-- answers.
use Rattle.std.specs.Prelude.{ℕ, suc, ◌<◌, ◌≤◌, ◌≡◌, Bool, true, false, cond, List, [], ◌∷◌, length, get_or, eqb, Option, Some, None}
use Rattle.slots.specs.Set.{mem}
use Rattle.cycle.specs.declared.Bus.{Bus}
use Rattle.cycle.specs.declared.Event.{Event}
use Rattle.cycle.specs.declared.Node.{Node}
use Rattle.cycle.specs.declared.Reply.{Reply}
use Rattle.cycle.specs.declared.Moved.{Moved}
use Rattle.cycle.specs.Bounds.{lawful_words}
use Rattle.cycle.specs.Cycle.{cycle_of}
use Rattle.cycle.specs.Nodes.{blank, sets_of}

-- what comes in, in a cycle with no reset
pub record Input : Type 0 where
  pub event : Event
  pub nodes : List Node
  pub sixteen : length nodes ≡ 16
  pub lawful : lawful_words (sets_of nodes).words ≡ true

abbrev pub wants_in : Input → ℕ
wants_in i = (sets_of i.nodes).wants

abbrev pub holds_in : Input → ℕ
holds_in i = (sets_of i.nodes).holds

abbrev pub words_in : Input → List ℕ
words_in i = (sets_of i.nodes).words

-- the cycle with this input
unfoldable pub cycle_in : Bus → Input → Moved
cycle_in b i = cycle_of b i.event (wants_in i) (holds_in i) (words_in i)

-- the state after it
unfoldable pub next : Bus → Input → Bus
next b i = (cycle_in b i).bus

-- the state after some cycles
unfoldable pub after : Bus → List Input → Bus
after b [] = b
after b (i ∷ is) = after (next b i) is

-- the slot whose START the reply's lines show: START is active, and the starter is this slot
abbrev pub start_by : Reply → Option ℕ
start_by r = cond r.start r.starter None

unfoldable pub start_in : Bus → Input → Option ℕ
start_in b i = start_by (cycle_in b i).reply

-- the slot that starts, if one does, before the later ones
unfoldable pub and_then : Option ℕ → List ℕ → List ℕ
and_then None l = l
and_then (Some s) l = s ∷ l

-- who starts in these cycles, in their order
unfoldable pub starters : Bus → List Input → List ℕ
starters b [] = []
starters b (i ∷ is) = and_then (start_in b i) (starters (next b i) is)

-- the wave is over by the end of these cycles
unfoldable pub over_in : Bus → List Input → Bool
over_in b [] = eqb b.wave 0
over_in b (i ∷ is) = cond (eqb b.wave 0) true (over_in (next b i) is)

-- who starts in these cycles before the wave is over
unfoldable pub served : Bus → List Input → List ℕ
served b [] = []
served b (i ∷ is) = cond (eqb b.wave 0) [] (and_then (start_in b i) (served (next b i) is))

-- how many of these STARTs are m's
unfoldable pub count : ℕ → List ℕ → ℕ
count m [] = 0
count m (s ∷ l) = cond (eqb s m) (suc (count m l)) (count m l)

-- m's turn goes on while m starts; once another has started, m never does again
unfoldable pub turn_goes_on : ℕ → List ℕ → Bool
turn_goes_on m [] = true
turn_goes_on m (s ∷ l) = cond (eqb s m) (turn_goes_on m l) (eqb (count m l) 0)

-- m's STARTs are consecutive, and m has no second turn
unfoldable pub one_turn : ℕ → List ℕ → Bool
one_turn m [] = true
one_turn m (s ∷ l) = cond (eqb s m) (turn_goes_on m l) (one_turn m l)

-- after a START of s nobody above s starts
abbrev pub Falling : List ℕ → Type 0
Falling [] = Unit {0}
Falling (s ∷ l) = ((m : ℕ) → s < m → count m l ≡ 0) × Falling l

-- these are STARTs of the wave w: each member has one turn, of one START at least (once the wave is over) and of the limit at most, the
-- highest member first, and nobody else starts
pub record Turns (limit w : ℕ) (over : Bool) (starts : List ℕ) : Type 0 where
  pub outsiders : (m : ℕ) → mem m w ≡ false → count m starts ≡ 0
  pub together : (m : ℕ) → one_turn m starts ≡ true
  pub most : (m : ℕ) → count m starts ≤ limit
  pub least : over ≡ true → (m : ℕ) → mem m w ≡ true → 1 ≤ count m starts
  pub highest_first : Falling starts

-- the STARTs of others before m's own
unfoldable pub ahead : ℕ → List ℕ → ℕ
ahead m [] = 0
ahead m (s ∷ l) = cond (eqb s m) 0 (suc (ahead m l))

-- what has to go on unless it is done
abbrev pub Still : Bool → Type 0 → Type 0
Still true X = Unit {0}
Still false X = X

abbrev pub is_slot : ℕ → Option ℕ → Bool
is_slot m None = false
is_slot m (Some s) = eqb s m

-- node m wants the bus in each of these cycles, up to the one in which it starts
abbrev pub Asks : ℕ → Bus → List Input → Type 0
Asks m b [] = Unit {0}
Asks m b (i ∷ is) = ((get_or i.nodes m blank).wants ≡ true) × Still (is_slot m (start_in b i)) (Asks m (next b i) is)
