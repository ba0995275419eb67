-- `witness::sixteen_at` meets its contract: after i turns the first i bytes are there. Assumes nothing.
use Prim.Native.Nat.{◌+◌, ◌*◌}
use mathlib.Core.List.{◌++◌}
use mathlib.Core.Path.{refl, ◌∙◌}
use native.Mathlib.Omega.{arith}
use lib.ListN.{get_or, length-set}
use Rattle.feeding.specs.State.{torn_of}
use Rattle.witness.proofs.Bytes.{set_more, sixteen_are}
use Rattle.witness.proofs.sixteen_at.Goals as goal

pub loop-i-init : goal.loop-i-init
loop-i-init c = (omega arith, (refl, (c.requires, λ k lt. absurd (omega arith))))

pub loop-i-preserved : goal.loop-i-preserved
loop-i-preserved c = let a = c.args in
    (omega arith, (length-set c.loop-i.byte-items c.loop-i.i _ ∙ c.loop-i.invariant.1.0, (c.loop-i.invariant.1.1.0, set_more c.loop-i.byte-items c.loop-i.i _ (λ k. get_or (torn_of a.before ++ a.piece.now) (a.place * 16 + k) 0) (omega arith) c.loop-i.invariant.1.1.1 c.byte_at.ensures)))

pub returns : goal.returns
returns c = let a = c.args in
    sixteen_are (torn_of a.before ++ a.piece.now) a.place c.loop-i.byte-items c.loop-i.invariant.1.0 (λ k lt. c.loop-i.invariant.1.1.1 k (omega arith))
