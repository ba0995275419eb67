-- `bus::transfers::open_by` meets its contract: who makes no attention cycle is a member, so a slot 0 to 15. Assumes nothing.
use Prim.Native.Nat.{ℕ}
use mathlib.Core.Path.{◌≡◌, refl, sym, ◌∙◌}
use mathlib.Core.Bool.{Bool, true, false, not, ◌||◌}
use mathlib.Core.List.{List}
use lib.Dec.{eqb}
use lib.ListN.{get_or}
use Rattle.std.proofs.Common.{rules}
use Rattle.slots.specs.Set.{mem}
use Rattle.slots.proofs.MemberLaws.{mem-small}
use Rattle.cycle.specs.Arbitration.{attends}
use Rattle.bus.proofs.transfers.open_by.Goals as goal

attends-mem : (i wants : ℕ) (words : List ℕ) → attends i wants words ≡ false → mem i wants ≡ true
unfolding attends
attends-mem i wants words a = go (mem i wants) a
  where
    go : (c : Bool) → (not c || eqb (get_or words i 0) 0) ≡ false → c ≡ true
    go true e = refl
    go false e = sym e

pub bounds-sets-slot : goal.bounds-sets-slot
bounds-sets-slot c = let a = c.args in
    mem-small c.in-Some.slot a.sets.wants (search rules)
    (attends-mem c.in-Some.slot a.sets.wants a.sets.words (sym c.makes_attention.ensures ∙ c.if-not-makes_attention.true))
