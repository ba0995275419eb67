-- `reading::read_more` meets its contract. Assumes nothing.
use Rattle.reading.proofs.Reading.{took_read}
use Rattle.reading.proofs.read_more.Goals as goal

pub returns : goal.returns
returns g c = let got = c.read_once-got.ensures.value in
    (got.0, took_read g.M.Machine.feeder c.args.input _ _ _ _ _ got.1 c.is_err.ensures.value c.unwrap_or.ensures c.take_in.ensures)
