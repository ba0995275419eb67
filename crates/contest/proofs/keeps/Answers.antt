-- `contest::keeps` meets its contract.
-- Assumes nothing.
use Rattle.contest.proofs.keeps.Goals as goal

pub returns : goal.returns
returns c = rw (c.has.ensures, c.member.ensures)
