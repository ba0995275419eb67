-- `spurfleet::take_words` meets its contract: after each turn the words so far are taken in. Assumes nothing.
use mathlib.Core.Path.{refl, sym, ◌∙◌}
use native.Mathlib.Omega.{arith}
use Rattle.spurfleet.proofs.Wording.{taking_start, taking_on, taking_end}
use borrow.Author.Rules.{rules}
use Rattle.spurfleet.proofs.take_words.Goals as goal

pub loop-next-init : goal.loop-next-init
loop-next-init g c = (sym c.buffer-word.ensures, refl, taking_start _ _ c.requires)

pub keep-good-requires : goal.keep-good-requires
keep-good-requires g c = let t = c.loop-next.invariant.2 in let room = t.room in omega arith

pub loop-next-preserved : goal.loop-next-preserved
loop-next-preserved g c = (
  search rules,
  c.keep-good.auto.numbers ∙ c.loop-next.invariant.1,
  taking_on _ c.loop-next.next _ _ _ c.loop-next.invariant.2 c.loop-next-test.true _ _ _ c.figure_in-figure.ensures c.keep-good.ensures,
)

pub shape_of-numbers : goal.shape_of-numbers
shape_of-numbers g c = c.loop-next.invariant.1

pub returns : goal.returns
returns g c = taking_end _ _ _ _ c.loop-next.invariant.2 c.loop-next-test.false
