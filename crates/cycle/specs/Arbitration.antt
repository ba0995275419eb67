-- Who starts in a cycle, and what becomes of the wave (document 01, "One bus cycle"). "In cycle n, 'before' means after cycle n-1":
-- the bus b, and the transfer t where it stands alone, are before the cycle. wants and holds are the sets of slots whose nodes want and hold.
use Rattle.std.specs.Prelude.{ℕ, ◌+◌, ◌-◌, Bool, cond, not, ◌&&◌, ◌||◌, List, get_or, eqb, ltb, Option, Some, None}
use Rattle.slots.specs.Set.{mem, without, top}
use Rattle.cycle.specs.declared.Bus.{Bus}
use Rattle.cycle.specs.declared.Arbitration.{Arbitration}
use Rattle.cycle.specs.declared.Transfer.{Transfer}
use Rattle.cycle.specs.declared.Transfer.TheVariants.{Idle, Open}

-- "A starter that no longer wants, or has words 0, makes an attention cycle"
unfoldable pub attends : ℕ → ℕ → List ℕ → Bool
attends s wants words = not (mem s wants) || eqb (get_or words s 0) 0

-- the settling count n of a wave with members, "else 0"
abbrev pub settled_at : ℕ → ℕ → ℕ
settled_at n wave = cond (eqb wave 0) 0 n

-- "all that want form it. A wave formed now gets settling count 1."
unfoldable pub formed : Bus → ℕ → Arbitration
formed b wants =
    record { wave = wants; settling = settled_at 1 wants; turn = 0; owner = b.owner; starter = None }

-- "it is parked and starts now, and the others that want form the wave"
unfoldable pub parked : ℕ → ℕ → Arbitration
parked o wants =
    record { wave = without o wants; settling = settled_at 1 (without o wants); turn = 0; owner = Some o; starter = Some o }

-- "Wave empty before: if the transfer was idle and the owner wants the bus, it is parked .. Otherwise all that want form it."
unfoldable pub forming : Transfer → Option ℕ → Bus → ℕ → Arbitration
forming Idle (Some o) b wants = cond (mem o wants) (parked o wants) (formed b wants)
forming Idle None b wants = formed b wants
forming (Open owed age) o b wants = formed b wants

-- nobody starts, and the settling count is n
abbrev pub waits : Bus → ℕ → Arbitration
waits b n = record { wave = b.wave; settling = n; turn = b.turn; owner = b.owner; starter = None }

-- "the highest member starts and becomes owner. It stays a member": its turn is counted up by this START
abbrev pub stays : Bus → ℕ → Arbitration
stays b h = record { wave = b.wave; settling = 2; turn = b.turn + 1; owner = Some h; starter = Some h }

-- "else it leaves now and the turn is 0. If members remain, the settling count is 2, else 0."
unfoldable pub leaves : Bus → ℕ → Arbitration
leaves b h =
    record { wave = without h b.wave; settling = settled_at 2 (without h b.wave); turn = 0; owner = Some h; starter = Some h }

-- "It stays a member only if it holds, the START isn't an attention cycle and its turn is still below the limit with this START counted"
unfoldable pub starting : Bus → ℕ → ℕ → ℕ → List ℕ → Arbitration
starting b h wants holds words =
    cond (mem h holds && not (attends h wants words) && ltb (b.turn + 1) b.limit) (stays b h) (leaves b h)

-- "If it was 0 and the transfer was idle, the highest member starts"
unfoldable pub serving : Transfer → Bus → ℕ → ℕ → List ℕ → Arbitration
serving Idle b wants holds words = starting b (top b.wave) wants holds words
serving (Open owed age) b wants holds words = waits b 0

-- "Wave empty before: .. Wave not empty before: a settling count above 0 falls by 1. If it was 0 .."
unfoldable pub arbitration_of : Transfer → Bus → ℕ → ℕ → List ℕ → Arbitration
arbitration_of t b wants holds words =
    cond (eqb b.wave 0) (forming t b.owner b wants)
    (cond (ltb 0 b.settling) (waits b (b.settling - 1)) (serving t b wants holds words))
