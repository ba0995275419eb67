-- `vcdlines::put_head` meets its contract: the definition computes to the bytes that the code has. Assumes nothing.
use Rattle.text.specs.Decimal.{spelled, decimal_of}
use Rattle.vcdlines.specs.Head.{head_text}
use Rattle.vcdlines.proofs.put_head.Goals as goal

pub returns : goal.returns
unfolding head_text decimal_of spelled
returns c = c.put_word.ensures
