-- `phases::fed` meets its contract: within its bounds the judge refuses nothing. Assumes nothing.
use Rattle.phases.proofs.Calls.{fed_ok, fed-taken}
use Rattle.phases.proofs.fed.Goals as goal

pub unwrap-requires : goal.unwrap-requires
unwrap-requires c = fed_ok c.args.stream c.args.bytes.now c.feed.result c.requires c.feed.ensures

pub returns : goal.returns
returns c = fed-taken c.args.stream c.args.bytes.now c.feed.result c.unwrap.result c.requires c.feed.ensures c.unwrap.ensures
