-- What demand 3's proof by itself does not hold fast, said where a reader sees it, of every bus and every input: the full strength of two of
-- demand 3's words (a weaker word would promise less), and six answers that are not about who starts. Proved in proofs/Asking.antt and Replies.antt.
use Rattle.std.specs.Prelude.{ℕ, ◌+◌, ◌-◌, ◌<◌, ◌≤◌, ◌≡◌, true, false, List, [], ◌∷◌, ◌++◌, ◌⊎◌, get_or, Some, None}
use Rattle.codes.specs.declared.Status.{Status}
use Rattle.codes.specs.declared.Status.TheVariants.{Timeout}
use Rattle.cycle.specs.declared.Bus.{Bus}
use Rattle.cycle.specs.declared.Event.TheVariants.{Nothing, Strobe, Finish}
use Rattle.cycle.specs.declared.Transfer.TheVariants.{Idle, Open}
use Rattle.cycle.specs.declared.Note.TheVariants.{Clear, Extra, Stray}
use Rattle.basics.specs.Numbers.{watchdog}
use Rattle.cycle.specs.Nodes.{blank}
use Rattle.cycle.specs.Runs.{Input, cycle_in, next, after, start_in, count, one_turn, Asks}

-- node m wants the bus in each of these cycles
abbrev pub Wanting : ℕ → List Input → Type 0
Wanting m [] = Unit {0}
Wanting m (i ∷ is) = ((get_or i.nodes m blank).wants ≡ true) × Wanting m is

pub record Meant (m : ℕ) : Type 0 where
  -- "asks and goes on asking until it starts": to want up to the own START, in cycle i, is all that is asked, whatever m wants later
  pub until_start : (b : Bus) (before : List Input) (i : Input) (later : List Input)
      → Wanting m (before ++ (i ∷ [])) → start_in (after b before) i ≡ Some m → Asks m b (before ++ (i ∷ later))
  -- "no second turn": once a START of another has followed one of m's, m starts no more
  pub only_turn : (before : List ℕ) (s : ℕ) (later : List ℕ) → (s ≡ m → ⊥) → one_turn m (before ++ (m ∷ s ∷ later)) ≡ true → count m later ≡ 0

pub record Answers (b : Bus) (i : Input) : Type 0 where
  -- "A starter that no longer wants, or has words 0, makes an attention cycle; the transfer stays idle.": START with ACK, and "status (none unless
  -- a transfer ends)"
  pub attention : (s : ℕ) → s < 16 → start_in b i ≡ Some s
      → let n = get_or i.nodes s blank in (n.wants ≡ false) ⊎ (n.words ≡ 0)
      → let r = (cycle_in b i).reply in (r.ack ≡ true) × (r.status ≡ None) × ((next b i).transfer ≡ Idle)
  -- "An event with nothing open before is noted as stray and drives no line.": without a START there is no ACK, and nothing ends
  pub stray : b.transfer ≡ Idle → (i.event ≡ Nothing → ⊥)
      → let r = (cycle_in b i).reply in (r.note ≡ Stray) × (start_in b i ≡ None → r.ack ≡ false) × (r.status ≡ None)
  -- "A finish gives ACK and idles it": with its own status, whatever the age, in the watchdog's cycle too
  pub finish : (owed age : ℕ) (s : Status) → b.transfer ≡ Open owed age → i.event ≡ Finish s
      → let r = (cycle_in b i).reply in (r.ack ≡ true) × (r.status ≡ Some s) × ((next b i).transfer ≡ Idle)
  -- document 02, wish 5: "The age returns to 0 with each strobe that takes an owed word .. a strobe in the 256th cycle is taken before the timer
  -- fires": whatever the age
  pub word : (owed age : ℕ) → b.transfer ≡ Open owed age → 1 < owed → i.event ≡ Strobe
      → let r = (cycle_in b i).reply in (r.ack ≡ false) × (r.note ≡ Clear) × ((next b i).transfer ≡ Open (owed - 1) 0)
  -- "Strobes that are extra restart nothing": the transfer ages by a cycle all the same, and the strobe is noted;
  pub extra : (owed age : ℕ) → b.transfer ≡ Open owed age → (age + 1 ≡ watchdog → ⊥) → owed ≤ 1 → i.event ≡ Strobe
      → let r = (cycle_in b i).reply in (r.ack ≡ false) × (r.note ≡ Extra) × ((next b i).transfer ≡ Open owed (age + 1))
  -- but in the 256th cycle the timer fires, as it does where nothing comes, and no strobe is noted
  pub timer : (owed age : ℕ) → b.transfer ≡ Open owed age → age + 1 ≡ watchdog → (i.event ≡ Nothing) ⊎ ((i.event ≡ Strobe) × (owed ≤ 1))
      → let r = (cycle_in b i).reply in (r.ack ≡ true) × (r.status ≡ Some Timeout) × (r.note ≡ Clear) × ((next b i).transfer ≡ Idle)
