-- `judge::after::aged` meets its contract. Assumes nothing.
use native.Mathlib.Omega.{arith}
use Prim.Native.Nat.{◌+◌, ◌≤◌}
use mathlib.Core.Bool.{true}
use mathlib.Core.Path.{◌≡◌, subst}
use borrow.Author.Tests.{leb-true}
use Rattle.rules.specs.declared.Transfer.{Transfer}
use Rattle.rules.specs.Rules.{rule12}
use Rattle.rules.specs.State.{is_open, open_age}
use Rattle.rules.specs.Bounds.{SoundOpen, SoundTransfer}
use Rattle.judge.proofs.after.aged.Goals.{After-one_if}
use Rattle.judge.proofs.after.aged.Goals as goal

-- the open transfer's bounds, and its age after this record
sound_of : (c : After-one_if) → SoundOpen c.in-Open.words c.in-Open.strobes c.in-Open.age c.in-Open.busy
sound_of c = subst SoundTransfer c.in-Open.is c.requires.0

young-of : (c : After-one_if) → c.in-Open.age + c.args.d ≤ 256
young-of c = leb-true _ _ (subst (λ (t : Transfer). rule12 (is_open t) (open_age t) c.args.d ≡ true) c.in-Open.is c.requires.1)

pub overflow_add-with : goal.overflow_add-with
overflow_add-with c = let h = sound_of c in omega arith

pub overflow_add-age : goal.overflow_add-age
overflow_add-age c = omega (arith, young-of c)

pub overflow_add-longer : goal.overflow_add-longer
overflow_add-longer c = let h = sound_of (goal.at.overflow_add-longer c).After-one_if in omega (arith, young-of (goal.at.overflow_add-longer c).After-one_if)

pub overflow_cast-result : goal.overflow_cast-result
overflow_cast-result c = omega (arith, young-of (goal.at.overflow_cast-result c).After-one_if, c.age_after-older.ensures.1)

pub returns-in-Open : goal.returns-in-Open
returns-in-Open c = simp (c.in-Open.is, c.one_if.ensures.0, c.age_after-older.ensures.0, c.is_strobe-counts.ensures)
