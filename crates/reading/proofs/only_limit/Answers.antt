-- `reading::only_limit` meets its contract. Assumes nothing.
use Rattle.reading.proofs.only_limit.Goals as goal

pub returns : goal.returns
returns g c = (c.words_given.result, _, c.limit_given.ensures)
