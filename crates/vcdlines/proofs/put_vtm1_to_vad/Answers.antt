-- `vcdlines::put_vtm1_to_vad` meets its contract: one signal behind the other. Assumes nothing.
use mathlib.Core.List.{append_assoc, append-nil}
use Rattle.text.proofs.PageLaws.{grown_then}
use Rattle.vcdlines.proofs.put_vtm1_to_vad.Goals as goal

pub returns : goal.returns
returns g c = let two = rw (c.put_level.ensures, grown_then) at c.put_level-2.ensures in
    let three = rw (two, grown_then) at c.put_level-3.ensures in
    let four = rw (three, grown_then) at c.put_level-4.ensures in
    let five = rw (four, grown_then) at c.add_digits.ensures in
    simp append-nil (simp append_assoc at five)
