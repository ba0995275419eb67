-- The answer is the theorem's own bound. Assumes nothing.
use mathlib.Core.Path.{◌≡◌}
use mathlib.Core.Bool.{true}
use Rattle.basics.specs.Numbers.{lawful_limit}
use native.Mathlib.Omega.{arith}
use Rattle.std.specs.Prelude.{Ok}
use Rattle.quote.proofs.Laws.{quote_is}
use Rattle.quote.proofs.Quoted.{promised}
use Rattle.quote.proofs.worst_wait.Goals as goal

pub returns : goal.returns
returns c =
    let lawful : lawful_limit c.args.limit ≡ true = grind (arith, c.is_limit-lawful.ensures, c.if-not-lawful.false) in
    promised _ _ (Ok _) (quote_is _ _ _ (omega arith) lawful c.worst_of.ensures)
