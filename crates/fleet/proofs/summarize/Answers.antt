-- `fleet::summarize` meets its contract. Assumes nothing.
use mathlib.Core.Path.{refl}
use Rattle.fleet.specs.Figures.{summary_of}
use Rattle.fleet.proofs.Summaries.{same-figures}
use Rattle.fleet.proofs.summarize.Goals as goal

pub returns : goal.returns
unfolding summary_of
returns c = same-figures _ (summary_of c.args.figures.now) refl c.least.ensures c.median.ensures c.greatest.ensures c.share_of-share.ensures.0 c.share_of-share.ensures.1
