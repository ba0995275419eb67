-- `text::has_room` meets its contract. Assumes nothing.
use mathlib.Core.Path.{sym}
use native.Mathlib.Omega.{arith}
use Rattle.text.proofs.PlaceLaws.{fits_not, fits_less}
use Rattle.text.proofs.has_room.Goals as goal

pub returns-then-bytes-size : goal.returns-then-bytes-size
returns-then-bytes-size c = let a = c.args in sym (fits_not a.size a.place a.bytes (omega arith))

pub returns : goal.returns
returns c = let a = c.args in fits_less a.size a.place a.bytes (omega arith)
