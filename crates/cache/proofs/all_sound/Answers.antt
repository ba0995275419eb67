-- `cache::all_sound` meets its contract. Assumes nothing.
use mathlib.Core.Path.{ap, ◌∙◌}
use native.Mathlib.Nat.{le_antisymm}
use native.Mathlib.Omega.{arith}
use Rattle.cache.specs.Block.{all_sound}
use Rattle.cache.proofs.Loops.{sound-start, sound_more}
use Rattle.cache.proofs.all_sound.Goals as goal

pub loop-k-init : goal.loop-k-init
loop-k-init c = (omega arith, sound-start _ _ _ _ _)

pub loop-k-preserved : goal.loop-k-preserved
loop-k-preserved c = (omega arith, sound_more _ _ _ _ _ _ _ _ c.loop-k.invariant.1 c.is_sound-all.ensures)

pub returns : goal.returns
returns c = c.loop-k.invariant.1 ∙ ap (all_sound _ _ _ _ _) (le_antisymm c.loop-k.invariant.0 (omega arith))
