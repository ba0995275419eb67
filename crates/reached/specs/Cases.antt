-- The checked examples of document 01 that are about the bus: what comes in, and what the bus answers in each cycle.
use Rattle.std.specs.Prelude.{ℕ, ◌≡◌, refl, Bool, true, false, List, [], ◌∷◌, ◌++◌, length, set, replicate, Some, None}
use Rattle.codes.specs.declared.Status.{Status}
use Rattle.codes.specs.declared.Status.TheVariants.{Success, Timeout}
use Rattle.cycle.specs.declared.Bus.{Bus}
use Rattle.cycle.specs.declared.Reply.{Reply}
use Rattle.cycle.specs.declared.Node.{Node}
use Rattle.cycle.specs.declared.Event.{Event}
use Rattle.cycle.specs.declared.Event.TheVariants.{Nothing, Strobe, Finish}
use Rattle.cycle.specs.declared.Note.TheVariants.{Clear, Extra, Stray}
use Rattle.cycle.specs.Bounds.{lawful_word, lawful_below}
use Rattle.cycle.specs.Nodes.{blank, add_of, gathered, sets_of}
use Rattle.cycle.specs.Runs.{Input, cycle_in, next}

-- what the bus answers in each cycle
unfoldable pub replies_of : Bus → List Input → List Reply
replies_of b [] = []
replies_of b (i ∷ is) = (cycle_in b i).reply ∷ replies_of (next b i) is

-- a node that wants the bus for one word, one that wants it for two, one that wants it for none, and one that holds it too
abbrev pub asker : Node
asker = record { wants = true; holds = false; words = 1 }

abbrev pub pair_asker : Node
pair_asker = record { wants = true; holds = false; words = 2 }

abbrev pub attender : Node
attender = record { wants = true; holds = false; words = 0 }

abbrev pub holder : Node
holder = record { wants = true; holds = true; words = 1 }

-- a table in which slot s has the node n, and one in which slot t has the node o besides
abbrev pub single : ℕ → Node → List Node
single s n = set (replicate 16 blank) s n

abbrev pub two : ℕ → Node → ℕ → Node → List Node
two s n t o = set (single s n) t o

-- a cycle in which nobody starts and nothing ends, the same with a stray event, and with an extra strobe; one with a START, and one with an
-- attention cycle; and one with an ACK. The first line is RQST.
abbrev pub quiet : Bool → Reply
quiet rqst = record { rqst = rqst; start = false; ack = false; starter = None; status = None; note = Clear }

abbrev pub stray : Bool → Reply
stray rqst = record { rqst = rqst; start = false; ack = false; starter = None; status = None; note = Stray }

abbrev pub extra : Bool → Reply
extra rqst = record { rqst = rqst; start = false; ack = false; starter = None; status = None; note = Extra }

abbrev pub start : Bool → ℕ → Reply
start rqst s = record { rqst = rqst; start = true; ack = false; starter = Some s; status = None; note = Clear }

abbrev pub attention : Bool → ℕ → Reply
attention rqst s = record { rqst = rqst; start = true; ack = true; starter = Some s; status = None; note = Clear }

abbrev pub ended : Bool → Status → Reply
ended rqst s = record { rqst = rqst; start = false; ack = true; starter = None; status = Some s; note = Clear }

-- an input of these examples: its words are lawful by computing
abbrev Lawful : List Node → Type 0
Lawful nodes = lawful_below 16 (sets_of nodes).words ≡ true

abbrev given : (e : Event) (nodes : List Node) → length nodes ≡ 16 → Lawful nodes → Input
given e nodes l w = record { event = e; nodes = nodes; sixteen = l; lawful = w }

-- "limit 1, one word each; 5 and 10 want from cycle 1 until they start, 15 from 4; finishes in 8 and 10"
unfoldable pub p7_inputs : List Input
unfolding lawful_below lawful_word sets_of gathered add_of
p7_inputs =
    replicate 3 (given Nothing (two 5 asker 10 asker) refl refl)
    ++ replicate 4 (given Nothing (two 5 asker 15 asker) refl refl)
    ++ (given (Finish Success) (two 5 asker 15 asker) refl refl ∷ [])
    ++ (given Nothing (two 5 asker 15 asker) refl refl ∷ [])
    ++ (given (Finish Success) (single 15 asker) refl refl ∷ [])
    ++ replicate 2 (given Nothing (single 15 asker) refl refl)

-- "STARTs in 3 (10), 9 (5), 12 (15)"
unfoldable pub p7_replies : List Reply
p7_replies =
    quiet true ∷ quiet true ∷ start true 10 ∷ quiet true ∷ quiet true ∷ quiet true ∷ quiet true ∷ ended true Success ∷ start false 5
    ∷ ended true Success ∷ quiet true ∷ start false 15 ∷ []

-- "START in 3, no event"
unfoldable pub p8_inputs : List Input
unfolding lawful_below lawful_word sets_of gathered add_of
p8_inputs =
    replicate 3 (given Nothing (single 5 asker) refl refl)
    ++ replicate 256 (given Nothing (replicate 16 blank) refl refl)

-- "timeout ACK in 259"
unfoldable pub p8_replies : List Reply
p8_replies = quiet true ∷ quiet true ∷ start false 5 ∷ replicate 255 (quiet false) ++ (ended false Timeout ∷ [])

-- "Limit 2, 12 holds, 4 and 12 want"; a transfer ends in the cycle after its START
unfoldable pub hold_inputs : List Input
unfolding lawful_below lawful_word sets_of gathered add_of
hold_inputs =
    replicate 3 (given Nothing (two 4 asker 12 holder) refl refl)
    ++ (given (Finish Success) (two 4 asker 12 holder) refl refl ∷ [])
    ++ replicate 2 (given Nothing (two 4 asker 12 holder) refl refl)
    ++ (given (Finish Success) (two 4 asker 12 holder) refl refl ∷ [])
    ++ replicate 2 (given Nothing (two 4 asker 12 holder) refl refl)

-- "STARTs 12, 12, 4"
unfoldable pub hold_replies : List Reply
hold_replies =
    quiet true ∷ quiet true ∷ start true 12 ∷ ended true Success ∷ quiet true ∷ start true 12 ∷ ended true Success ∷ quiet true ∷ start false 4 ∷ []

-- ---- not among document 01's examples: the answers that these leave out

-- "A starter that no longer wants, or has words 0, makes an attention cycle; the transfer stays idle.": 10 wants only in cycles 1 and 2, and 5 has
-- words 0. A strobe in the cycle after finds nothing open.
unfoldable pub attention_inputs : List Input
unfolding lawful_below lawful_word sets_of gathered add_of
attention_inputs =
    replicate 2 (given Nothing (two 5 attender 10 asker) refl refl)
    ++ (given Nothing (single 5 attender) refl refl ∷ [])
    ++ (given Strobe (single 5 attender) refl refl ∷ [])
    ++ replicate 2 (given Nothing (single 5 attender) refl refl)
    ++ (given Strobe (replicate 16 blank) refl refl ∷ [])

-- START with ACK, and "status (none unless a transfer ends)"; "An event with nothing open before is noted as stray and drives no line."
unfoldable pub attention_replies : List Reply
attention_replies =
    quiet true ∷ quiet true ∷ attention true 10 ∷ stray true ∷ quiet true ∷ attention false 5 ∷ stray false ∷ []

-- P8 with a finish in the watchdog's cycle, at age 256
unfoldable pub late_inputs : List Input
unfolding lawful_below lawful_word sets_of gathered add_of
late_inputs =
    replicate 3 (given Nothing (single 5 asker) refl refl)
    ++ replicate 255 (given Nothing (replicate 16 blank) refl refl)
    ++ (given (Finish Success) (replicate 16 blank) refl refl ∷ [])

-- "A finish gives ACK and idles it": the watchdog's is "At age 256 without a finish"
unfoldable pub late_replies : List Reply
late_replies = quiet true ∷ quiet true ∷ start false 5 ∷ replicate 255 (quiet false) ++ (ended false Success ∷ [])

-- ---- document 02, wish 5: "The watchdog restarts with each word."

-- START in 3, two words: a strobe in 259, the 256th cycle after START, then no event
unfoldable pub word_inputs : List Input
unfolding lawful_below lawful_word sets_of gathered add_of
word_inputs =
    replicate 3 (given Nothing (single 5 pair_asker) refl refl)
    ++ replicate 255 (given Nothing (replicate 16 blank) refl refl)
    ++ (given Strobe (replicate 16 blank) refl refl ∷ [])
    ++ replicate 256 (given Nothing (replicate 16 blank) refl refl)

-- "The age returns to 0 with each strobe that takes an owed word .. and a strobe in the 256th cycle is taken before the timer fires.": so the
-- timeout ACK comes in 515, and no other
unfoldable pub word_replies : List Reply
word_replies = quiet true ∷ quiet true ∷ start false 5 ∷ replicate 511 (quiet false) ++ (ended false Timeout ∷ [])

-- P8 with a strobe in 4 and one in 259, where one word is owed
unfoldable pub extra_inputs : List Input
unfolding lawful_below lawful_word sets_of gathered add_of
extra_inputs =
    replicate 3 (given Nothing (single 5 asker) refl refl)
    ++ (given Strobe (replicate 16 blank) refl refl ∷ [])
    ++ replicate 254 (given Nothing (replicate 16 blank) refl refl)
    ++ (given Strobe (replicate 16 blank) refl refl ∷ [])

-- "Strobes that are extra restart nothing.": the timeout ACK comes in 259 all the same, where the strobe isn't noted
unfoldable pub extra_replies : List Reply
extra_replies = quiet true ∷ quiet true ∷ start false 5 ∷ extra false ∷ replicate 254 (quiet false) ++ (ended false Timeout ∷ [])

-- two words: a strobe in 4, and a finish in 260, the 256th cycle after it
unfoldable pub finish_inputs : List Input
unfolding lawful_below lawful_word sets_of gathered add_of
finish_inputs =
    replicate 3 (given Nothing (single 5 pair_asker) refl refl)
    ++ (given Strobe (replicate 16 blank) refl refl ∷ [])
    ++ replicate 255 (given Nothing (replicate 16 blank) refl refl)
    ++ (given (Finish Success) (replicate 16 blank) refl refl ∷ [])

-- "A finish still wins over both."
unfoldable pub finish_replies : List Reply
finish_replies = quiet true ∷ quiet true ∷ start false 5 ∷ replicate 256 (quiet false) ++ (ended false Success ∷ [])
