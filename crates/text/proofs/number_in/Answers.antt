-- `text::number_in` meets its contract: what was read so far, with the bytes that are left, says what the word says.
-- Assumes nothing.
use Prim.Native.Nat.{suc}
use mathlib.Core.Path.{◌≡◌, sym, ◌∙◌}
use mathlib.Core.List.{[], ◌∷◌}
use native.Mathlib.Omega.{arith}
use native.Mathlib.Numerals.{add-one}
use Rattle.std.proofs.lemmas.Bool.Decides.{nat_tests}
use lib.ListN.{get_or, drop, drop_of_length-le}
use lib.Seq.{drop-cons}
use Rattle.text.proofs.NumberLaws.{Left, left_less, left_other, left_none, empty-word}
use Rattle.text.proofs.number_in.Goals.{After-is_digit}
use Rattle.text.proofs.number_in.Goals as goal

-- a byte and those behind it are left
left_at : (c : After-is_digit) → let word = c.args.word.now in let i = c.loop-byte.byte-index in Left word c.loop-byte.value (get_or word i 0 ∷ drop (suc i) word)
left_at c = rw (drop-cons c.args.word.now c.loop-byte.byte-index 0 c.loop-byte-test.true) at c.loop-byte.invariant.1

pub returns-then-empty : goal.returns-then-empty
returns-then-empty c = empty-word c.args.word.now (grind (arith, nat_tests))

pub loop-byte-preserved : goal.loop-byte-preserved
loop-byte-preserved c = let word = c.args.word.now in
    let i = c.loop-byte.byte-index in
    let d = sym c.is_digit.ensures ∙ c.if-not-is_digit.false in (
      c.with_digit-value.ensures.1,
      rw (c.with_digit-value.ensures.0, add-one) (left_less word c.loop-byte.value (get_or word i 0) (drop (suc i) word) d (left_at (goal.at.loop-byte-preserved c).After-is_digit)),
    )

pub returns-then-not-is_digit : goal.returns-then-not-is_digit
returns-then-not-is_digit c = let word = c.args.word.now in
    let i = c.loop-byte.byte-index in
    let d = sym c.is_digit.ensures ∙ c.if-not-is_digit.true in
    left_other word c.loop-byte.value (get_or word i 0) (drop (suc i) word) d (left_at (goal.at.returns-then-not-is_digit c).After-is_digit)

pub returns : goal.returns
returns c = let word = c.args.word.now in
    let i = c.loop-byte.byte-index in
    let e : drop i word ≡ [] = drop_of_length-le word {i = i} (omega arith) in
    let l : Left word c.loop-byte.value [] = rw e at c.loop-byte.invariant.1 in
    left_none word c.loop-byte.value c.loop-byte.invariant.0 (grind (arith, nat_tests)) l
