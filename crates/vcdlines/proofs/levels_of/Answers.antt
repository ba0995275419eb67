-- `vcdlines::levels_of` meets its contract: the levels fill the array. Assumes nothing.
use native.Mathlib.Omega.{arith}
use mathlib.Core.Path.{◌∙◌}
use Rattle.text.proofs.PageLaws.{grown_then, page_put}
use Rattle.vcdlines.specs.Signals.{levels}
use Rattle.vcdlines.proofs.ChangeLaws.{in_fives, levels-length, fills}
use borrow.Author.Rules.{rules}
use Rattle.vcdlines.proofs.levels_of.Goals as goal

pub returns : goal.returns
returns c = let r = c.args.lines in
    let two = rw (c.put_reset_to_ack.ensures, c.new-page.ensures, grown_then) at c.put_tm1_to_ad.ensures in
    let three = rw (two, grown_then, ← in_fives r) at c.put_vtm1_to_vad.ensures in
    let put = page_put _ _ (levels r) _ _ three (omega (arith, levels-length r)) (rw c.front.ensures at c.put_into.ensures) in
    put.1 ∙ fills _ (levels r) (search (rules, levels-length r))
