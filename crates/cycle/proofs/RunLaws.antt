-- A run's cycle, taken apart: what its arbitration comes to, and then the state and the START. Assumes nothing.
use Rattle.std.specs.Prelude.{Option}
use Prim.Native.Nat.{ℕ, suc, ◌^◌, ◌<◌}
use mathlib.Core.Path.{◌≡◌}
use mathlib.Core.List.{List, ◌∷◌}
use borrow.Author.Tests.{eq-eqb, ne_eqb}
use Rattle.cycle.specs.declared.Bus.{Bus}
use Rattle.cycle.specs.declared.Arbitration.{Arbitration}
use Rattle.cycle.specs.declared.Moved.{Moved}
use Rattle.cycle.specs.Arbitration.{arbitration_of}
use Rattle.cycle.specs.Cycle.{cycle_by}
use Rattle.cycle.specs.Runs.{Input, wants_in, holds_in, words_in, start_by, count}
use Rattle.cycle.proofs.NodeLaws.{wants_less}

-- what arbitration comes to in a cycle
unfoldable pub arb : Bus → Input → Arbitration
arb b i = arbitration_of b.transfer b (wants_in i) (holds_in i) (words_in i)

-- the cycle in which arbitration comes to a
abbrev cycle_with : Bus → Input → Arbitration → Moved
cycle_with b i a = cycle_by b i.event (wants_in i) (words_in i) a

unfoldable pub next_by : Bus → Input → Arbitration → Bus
next_by b i a = (cycle_with b i a).bus

unfoldable pub shown_by : Bus → Input → Arbitration → Option ℕ
shown_by b i a = start_by (cycle_with b i a).reply

pub wants_small : (i : Input) → wants_in i < 2 ^ 16
wants_small i = wants_less i.nodes

-- a START more, of m and of another
pub count-own : (s m : ℕ) (l : List ℕ) → s ≡ m → count m (s ∷ l) ≡ suc (count m l)
unfolding count
count-own s m l e = rw (eq-eqb s m e)

pub count-other : (s m : ℕ) (l : List ℕ) → (s ≡ m → ⊥) → count m (s ∷ l) ≡ count m l
unfolding count
count-other s m l d = rw (ne_eqb s m d)
