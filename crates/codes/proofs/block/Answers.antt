use Prim.Native.Nat.{ℕ, ◌-◌, ◌%◌}
use mathlib.Core.Path.{◌≡◌, ◌∙◌, ap, sym}
use Rattle.std.specs.Prelude.{Some}
use Rattle.basics.specs.Answers.{accepted}
use Rattle.codes.specs.Units.{bytes_in}
use Rattle.codes.specs.Start.{block_of, meaning}
use Rattle.codes.proofs.LaneLaws.{block_lanes}
use Rattle.codes.proofs.block.Goals as goal

pub returns : goal.returns
returns c =
    let a = c.args in
    let u = c.in_ok-unit.unit in
    let e : Some u ≡ block_of a.ad = sym c.in_ok-unit.ensures.ok_part ∙ c.block_length.ensures in
    ap accepted c.means.ensures
    ∙ rw c.measured-bytes.ensures
    (ap (λ (l : ℕ). accepted (record { operation = record { write = a.write; unit = u; address = a.ad - a.ad % bytes_in u }; lanes = l })) (sym (block_lanes a.ad u e))
    ∙ ap (meaning a.write a.ad) e)
