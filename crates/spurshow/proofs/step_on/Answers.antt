-- `spurshow::step_on` meets its contract. Assumes nothing.
use Rattle.spurshow.proofs.Showing.{step_ok}
use Rattle.spurshow.proofs.step_on.Goals as goal

pub unwrap-requires : goal.unwrap-requires
unwrap-requires c = rw (step_ok c.args.asked c.args.walk c.args.lines _ c.requires.0 c.requires.1 c.step.ensures)

pub returns : goal.returns
returns c = let ok = step_ok c.args.asked c.args.walk c.args.lines _ c.requires.0 c.requires.1 c.step.ensures in cc
