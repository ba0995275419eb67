-- `text::put_named` meets its contract: from where the speller says on, the digits are the number's, and they go behind the name. Assumes nothing.
use Prim.Native.Nat.{◌-◌}
use mathlib.Core.Path.{◌≡◌, sym, ap, ◌∙◌}
use native.Mathlib.Omega.{arith}
use lib.ListN.{length, take, drop, length-drop}
use lib.Seq.{take_all}
use Rattle.text.specs.Decimal.{decimal_of}
use Rattle.text.specs.Places.{moved_by, put_at}
use Rattle.text.proofs.PlaceLaws.{both_moved, both_put, neither_put}
use Rattle.text.proofs.put_named.Goals.{After-moved-both, After-put_word-then-fit}
use Rattle.text.proofs.put_named.Goals as goal

-- the digits that are put are the number's
digits_are : (c : After-put_word-then-fit) → let n = c.args.n in let at = c.spell-first.result in take (20 - at) (drop at c.spell-first.new.digits) ≡ decimal_of n
digits_are c = let at = c.spell-first.result in
    let digits = c.spell-first.new.digits in
    let k : length digits ≡ 20 = c.spell-first.auto.digits in
    take_all (20 - at) (drop at digits) (simp length-drop (omega arith)) ∙ c.spell-first.ensures.1

-- and so many
digits-size : (c : After-moved-both) → let n = c.args.n in 20 - c.spell-first.result ≡ length (decimal_of n)
digits-size c = let k : length c.spell-first.new.digits ≡ 20 = c.spell-first.auto.digits in
    sym (ap length (sym c.spell-first.ensures.1) ∙ simp length-drop (omega arith))

-- so the number ends where the last place is
end_is : (c : After-moved-both) → let a = c.args in c.moved-both.result ≡ moved_by (length a.buffer.now) c.moved-behind.result (length (decimal_of a.n))
end_is c = let a = c.args in
    c.moved-both.ensures ∙ ap (moved_by (length a.buffer.now) c.moved-behind.result) (digits-size c)

pub returns-then-fit : goal.returns-then-fit
returns-then-fit c = let a = c.args in
    let digits = ap (put_at c.put_word.new.buffer c.moved-behind.result) (digits_are (goal.at.returns-then-fit c).After-put_word-then-fit) in (
      both_moved a.buffer.now a.place a.name.now (decimal_of a.n) c.moved-behind.ensures (end_is (goal.at.returns-then-fit c).After-moved-both),
      both_put a.buffer.now a.place a.name.now (decimal_of a.n) c.moved-behind.ensures (end_is (goal.at.returns-then-fit c).After-moved-both) c.if-fit.true c.put_word.ensures.1 (c.put_word-then-fit.ensures.1 ∙ digits),
    )

pub returns-else-fit : goal.returns-else-fit
returns-else-fit c = let a = c.args in (
  both_moved a.buffer.now a.place a.name.now (decimal_of a.n) c.moved-behind.ensures (end_is (goal.at.returns-else-fit c).After-moved-both),
  neither_put a.buffer.now a.place a.name.now (decimal_of a.n) c.moved-behind.ensures (end_is (goal.at.returns-else-fit c).After-moved-both) c.if-fit.false,
)
