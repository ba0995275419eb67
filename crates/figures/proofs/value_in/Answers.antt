-- `figures::value_in` meets its contract: the value so far, with the digits that are left behind it, is the word's. Assumes nothing.
use Prim.Native.Nat.{suc, ◌+◌, ◌*◌, ◌-◌, ◌≤◌, ◌<◌, ◌^◌}
use mathlib.Core.Path.{◌≡◌, refl}
use mathlib.Core.List.{[], ◌∷◌}
use native.Mathlib.Omega.{arith}
use native.Mathlib.Numerals.{add-one}
use lib.ListN.{get_or, drop, drop_of_length-le}
use lib.Seq.{drop-cons}
use Rattle.figures.proofs.FigureLaws.{Left, left_less, left_room}
use Rattle.figures.proofs.value_in.Goals.{In-loop-byte}
use Rattle.figures.proofs.value_in.Goals as goal

-- a digit and those behind it are left
left_at : (c : In-loop-byte) → let word = c.args.word.now in let next = c.loop-byte.byte-index in Left word c.loop-byte.value next (get_or word next 0 ∷ drop (suc next) word)
left_at c = rw (drop-cons c.args.word.now c.loop-byte.byte-index 0 c.loop-byte-test.true) at c.loop-byte.invariant

-- and there is room for it
room_at : (c : In-loop-byte) → let b = get_or c.args.word.now c.loop-byte.byte-index 0 in (48 ≤ b) × (c.loop-byte.value * 10 + (b - 48) < 10 ^ 19)
room_at c = let word = c.args.word.now in
    left_room word c.loop-byte.value c.loop-byte.byte-index (get_or word c.loop-byte.byte-index 0) (drop (suc c.loop-byte.byte-index) word) (left_at c) (omega (arith, c.loop-byte-test.true, c.requires.1))

pub loop-byte-init : goal.loop-byte-init
loop-byte-init c = (omega arith, c.requires.0, refl)

pub overflow_mul-value : goal.overflow_mul-value
overflow_mul-value c = omega (arith, (room_at c).1)

pub overflow_sub-value : goal.overflow_sub-value
overflow_sub-value c = omega (arith, (room_at (goal.at.overflow_sub-value c).In-loop-byte).0)

pub overflow_cast-value : goal.overflow_cast-value
overflow_cast-value c = omega (arith, (room_at (goal.at.overflow_cast-value c).In-loop-byte).1)

pub overflow_add-value : goal.overflow_add-value
overflow_add-value c = omega (arith, (room_at (goal.at.overflow_add-value c).In-loop-byte).1)

pub loop-byte-preserved : goal.loop-byte-preserved
loop-byte-preserved c = let word = c.args.word.now in
    let next = left_less word c.loop-byte.value c.loop-byte.byte-index (get_or word c.loop-byte.byte-index 0) (drop (suc c.loop-byte.byte-index) word) (left_at (goal.at.loop-byte-preserved c).In-loop-byte) in
    rw add-one next

pub returns : goal.returns
returns c = let word = c.args.word.now in
    let e : drop c.loop-byte.byte-index word ≡ [] = drop_of_length-le word {i = c.loop-byte.byte-index} (omega arith) in
    let l : Left word c.loop-byte.value c.loop-byte.byte-index [] = rw e at c.loop-byte.invariant in
    l.2
