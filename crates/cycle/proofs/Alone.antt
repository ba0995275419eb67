-- A START comes only where no transfer was open before the cycle. Assumes nothing.
use Rattle.std.specs.Prelude.{Some}
use Prim.Native.Nat.{ℕ}
use mathlib.Core.Path.{◌≡◌, ap, subst}
use mathlib.Core.Bool.{true, false≢true}
use Rattle.cycle.specs.declared.Bus.{Bus}
use Rattle.cycle.specs.declared.Arbitration.{Arbitration}
use Rattle.cycle.specs.declared.Transfer.TheVariants.{Idle}
use Rattle.cycle.specs.Arbitration.{formed}
use Rattle.cycle.specs.Cycle.{starts_of, cycle_of, cycle_by, moved_by, reply_by}
use Rattle.cycle.specs.Runs.{Input, cycle_in, start_in}
use Rattle.cycle.proofs.RunLaws.{arb, shown_by}
use Rattle.cycle.proofs.View.{Case, forms, parks, settles, holds_off, repeats, retires, view}

alone_by : (b : Bus) (i : Input) (r : Arbitration) → Case b i r → starts_of (shown_by b i r) ≡ true → b.transfer ≡ Idle
unfolding shown_by cycle_by moved_by reply_by formed
alone_by b i r (forms z e) h = absurd (false≢true (subst (λ (a : Arbitration). starts_of (shown_by b i a) ≡ true) e h))
alone_by b i r (parks o z t m e) h = t
alone_by b i r (settles n l e) h = absurd (false≢true (subst (λ (a : Arbitration). starts_of (shown_by b i a) ≡ true) e h))
alone_by b i r (holds_off n l w a t e) h = absurd (false≢true (subst (λ (a : Arbitration). starts_of (shown_by b i a) ≡ true) e h))
alone_by b i r (repeats n l t u e) h = t
alone_by b i r (retires n l t e) h = t

pub alone : (b : Bus) (i : Input) (s : ℕ) → start_in b i ≡ Some s → b.transfer ≡ Idle
unfolding start_in cycle_in cycle_of shown_by arb
alone b i s e = alone_by b i (arb b i) (view b i) (ap starts_of e)
