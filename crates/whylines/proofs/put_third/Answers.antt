-- `whylines::put_third` meets its contract, breach or not. Assumes nothing.
use mathlib.Core.Path.{ap}
use Rattle.rules.specs.declared.Verdict.{Verdict}
use Rattle.text.proofs.PageLaws.{grown_nil}
use Rattle.whylines.specs.Lines.{third_line}
use Rattle.whylines.proofs.LineLaws.{no_third}
use Rattle.whylines.proofs.put_third.Goals as goal

pub returns-in-Breach : goal.returns-in-Breach
returns-in-Breach g c = rw (ap (λ (v : Verdict). third_line v c.args.figures) c.in-Breach.is) c.put_figures.ensures

pub returns-in_default : goal.returns-in_default
returns-in_default g c = rw (no_third c.args.verdict c.args.figures c.in_default.not-Breach, grown_nil)
