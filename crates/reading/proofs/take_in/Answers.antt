-- `reading::take_in` meets its contract. Assumes nothing.
use mathlib.Core.Path.{sym, ◌∙◌}
use Rattle.std.proofs.Common.{rules}
use Rattle.reading.proofs.Narrow.{handed_back}
use Rattle.reading.proofs.Reading.{taken_none, took_some}
use Rattle.reading.proofs.take_in.Goals as goal

pub returns-then-is_empty : goal.returns-then-is_empty
returns-then-is_empty g c = let a = c.args in sym (taken_none g.M.Machine.feeder a.input a.failed a.bytes.now (search rules))

pub returns : goal.returns
returns g c = let a = c.args in took_some g.M.Machine.feeder a.input a.failed _ _ a.bytes.now (search rules) (c.unwrap_or-state.ensures ∙ handed_back _ c.feed.result ∙ c.feed.ensures) c.wants_more.ensures
