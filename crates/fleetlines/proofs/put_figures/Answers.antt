-- `fleetlines::put_figures` meets its contract: each figure put behind the one before. Assumes nothing.
use Rattle.text.proofs.PageLaws.{grown_then}
use Rattle.fleetlines.specs.Lines.{figures_text}
use Rattle.fleetlines.proofs.put_figures.Goals as goal

pub returns : goal.returns
unfolding figures_text
returns g c = let two = rw (c.put_named.ensures, grown_then) at c.put_named-2.ensures in
    let three = rw (two, grown_then) at c.put_named-3.ensures in
    let four = rw (three, grown_then) at c.put_named-4.ensures in
    rw (four, grown_then) at c.put_named-5.ensures
