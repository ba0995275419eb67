use mathlib.Core.Path.{sym, ap, ◌∙◌}
use Rattle.basics.specs.Answers.{accepted}
use lib.ListN.{take}
use Rattle.record.proofs.Bytes.{spare_is}
use Rattle.record.proofs.Unpacking.{parsed_is, parsed-spare}
use Rattle.record.proofs.read_part.Goals as goal

pub returns-then-spare_of-ne0 : goal.returns-then-spare_of-ne0
returns-then-spare_of-ne0 c = let e = spare_is c.args.part.now c.requires (λ k. (c.shared_slice_known-1.given k).fits) in
    parsed-spare (take 16 c.args.part.now) (λ z. c.if-spare_of-ne0.true (c.spare_of.ensures ∙ sym e ∙ z))

pub returns : goal.returns
returns c = let e = spare_is c.args.part.now c.requires (λ k. (c.shared_slice_known-1.given k).fits) in
    ap accepted c.read_record.ensures ∙ parsed_is (take 16 c.args.part.now) (e ∙ sym c.spare_of.ensures ∙ c.if-spare_of-ne0.false)
