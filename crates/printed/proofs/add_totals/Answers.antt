-- `printed::add_totals` meets its contract: each total put behind the one before. Assumes nothing.
use Rattle.text.proofs.PageLaws.{grown_then}
use Rattle.printed.specs.Lines.{totals_line}
use Rattle.printed.proofs.add_totals.Goals as goal

pub returns : goal.returns
unfolding totals_line
returns g c =
    rw (
      c.put.ensures,
      c.put_named-6.ensures,
      c.put_named-5.ensures,
      c.put_named-4.ensures,
      c.put_named-3.ensures,
      c.put_named-2.ensures,
      c.put_named.ensures,
      c.one_if.ensures.0,
    ) (simp grown_then)
