-- The STARTs of others in waves. Assumes nothing.
use mathlib.Core.Path.{refl}
use native.Mathlib.Omega.{arith}
use Rattle.quote.proofs.Laws.{turns-few}
use Rattle.quote.proofs.turns.Goals as goal

pub overflow_mul-result : goal.overflow_mul-result
overflow_mul-result c = rw (c.from.ensures, c.from-2.ensures) (let h = turns-few _ _ c.requires.0 c.requires.1 in omega arith)

pub returns : goal.returns
returns c = rw (c.from.ensures, c.from-2.ensures) (refl, turns-few _ _ c.requires.0 c.requires.1)
