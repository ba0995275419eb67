-- `spurwhy`'s machine is fed as it promises. Assumes nothing.
use mathlib.Core.Path.{ap}
use Rattle.basics.specs.Answers.{Answer}
use Rattle.spurwhy.proofs.ExplainingMachine.feed.Goals as goal

pub returns : goal.returns
returns c = ap (λ (a : Answer _). a.value) c.feed.ensures
