use borrow.Author.Rules.{rules}
use Rattle.basics.specs.Lines.{active, bit}
use Rattle.codes.specs.Modes.{mode_at}
use Rattle.codes.proofs.Modes.{row_at_lem}
use Rattle.codes.proofs.mode_at.Goals as goal

pub returns : goal.returns
unfolding mode_at active bit
returns c = row_at_lem mode_at 16 c.args.row _ (search rules)
