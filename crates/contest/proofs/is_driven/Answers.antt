-- `contest::is_driven` meets its contract: some slot drives the line, in whichever order they are looked at. Assumes nothing.
use Prim.Native.Nat.{ℕ}
use mathlib.Core.Path.{refl, ◌∙◌}
use borrow.Author.Rules.{rules}
use borrow.Author.Tests.{tests}
use Rattle.std.proofs.lemmas.Iterator.{YieldsList-from_range}
use Rattle.std.proofs.lemmas.Iterator.Search.{any_from_yields_List}
use Rattle.slots.specs.Set.{mem}
use Rattle.contest.specs.Contest.{drives}
use Rattle.contest.proofs.Laws.{any_driven}
use Rattle.contest.proofs.is_driven.Goals as goal

pub returns : goal.returns
returns c = let a = c.args in
    any_from_yields_List (λ (s : ℕ). drives a.line (mem s a.set) s a.lines) _ _ _ c.any.ensures.ran (YieldsList-from_range 0 16 16 refl refl) (λ x b q k. search (rules, tests))
    ∙ any_driven 16 a.line a.set a.lines
