use mathlib.Core.Path.{sym}
use native.Mathlib.Omega.{arith}
use Rattle.record.proofs.Widths.{too_wide_is}
use Rattle.record.proofs.is_too_wide.Goals as goal

pub returns : goal.returns
returns c = sym (too_wide_is c.args.lines (omega arith) (omega arith))
