use mathlib.Core.Path.{refl, ap, ◌∙◌}
use Rattle.basics.specs.Answers.{accepted}
use Rattle.codes.specs.declared.Unit.TheVariants.{Byte, Halfword, Word}
use Rattle.codes.specs.declared.Kind.{Kind}
use Rattle.codes.proofs.Modes.{arm_says, arm_means}
use Rattle.codes.proofs.decode.Goals as goal

pub returns-in-Byte : goal.returns-in-Byte
returns-in-Byte c =
    ap accepted c.means.ensures ∙ arm_means Byte _ _ _ _ _ Kind.Byte c.mode_of-write.ensures c.in-Byte.is refl (λ f. f)

pub returns-in-Halfword : goal.returns-in-Halfword
returns-in-Halfword c =
    ap accepted c.means-in-Halfword.ensures ∙ arm_means Halfword _ _ _ _ _ Kind.Halfword c.mode_of-write.ensures c.in-Halfword.is refl (λ f. f)

pub returns-in-Word : goal.returns-in-Word
returns-in-Word c =
    ap accepted c.means-in-Word.ensures ∙ arm_means Word _ _ _ _ _ Kind.Word c.mode_of-write.ensures c.in-Word.is refl (λ f. f)

pub returns-in-Block : goal.returns-in-Block
returns-in-Block c = c.block.ensures ∙ arm_says _ _ _ _ Kind.Block c.mode_of-write.ensures c.in-Block.is
