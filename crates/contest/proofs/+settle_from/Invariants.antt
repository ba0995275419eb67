-- `contest::settle_from` goes by recursion on the line number, which falls.
use Rattle.contest.proofs.+settle_from.Given as goal

abbrev pub decreases-settle_from : goal.decreases-settle_from
decreases-settle_from l = l.line
