use mathlib.Core.Path.{ap, sym}
use Prim.Native.Nat.{ℕ, ◌%◌}
use lib.Dec.{eqb}
use Rattle.basics.proofs.Count.{active_ones}
use Rattle.codes.specs.Parity.{parity_of}
use Rattle.codes.proofs.parity.Goals as goal

pub returns : goal.returns
unfolding parity_of
returns c = ap (λ (n : ℕ). eqb (n % 2) 1) (sym (active_ones 32 c.args.ad c.ranges.ad.fits))
