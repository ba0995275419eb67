-- `rowlines::put_line` meets its contract: 0 and 1 are one digit. Assumes nothing.
use mathlib.Core.Path.{◌≡◌, refl}
use mathlib.Core.Bool.{Bool, true, false}
use mathlib.Core.List.{[], ◌∷◌}
use Prim.Native.Nat.{◌+◌}
use Rattle.basics.specs.Lines.{one}
use Rattle.text.specs.Decimal.{spelled, decimal_of}
use Rattle.text.proofs.PageLaws.{grown_then}
use Rattle.rowlines.proofs.put_line.Goals as goal

one_digit : (active : Bool) → decimal_of (one active) ≡ (48 + one active) ∷ []
unfolding decimal_of spelled
one_digit true = refl
one_digit false = refl

pub returns : goal.returns
returns g c = let put = rw (c.put.ensures, grown_then) at c.put-2.ensures in rw (one_digit c.args.active, ← c.one_if.ensures.0) put
