-- `whylines::put_figures` meets its contract: each piece put behind the one before. Assumes nothing.
use Rattle.text.proofs.PageLaws.{grown_then}
use Rattle.whylines.specs.Lines.{why_line}
use Rattle.whylines.proofs.put_figures.Goals as goal

pub returns : goal.returns
unfolding why_line
returns g c = let both = rw (c.put_named.ensures, grown_then) at c.put_named-2.ensures in
    rw (both, grown_then) at c.put.ensures
