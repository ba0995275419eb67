use mathlib.Core.Path.{sym}
use native.Mathlib.Omega.{arith}
use Rattle.codes.proofs.Laws.{line_on, line_off, is_two, is_four, is_eight, is_sixteen, no_length}
use Rattle.codes.proofs.block_length.Goals as goal

pub returns-in-14 : goal.returns-in-14
returns-in-14 c = sym (is_sixteen _ (line_on 2 _ (omega arith)) (line_on 3 _ (omega arith)) (line_on 4 _ (omega arith)) (line_off 5 _ (omega arith)))

pub returns-in-0-to-7 : goal.returns-in-0-to-7
returns-in-0-to-7 c = sym (is_two _ (line_off 2 _ (omega arith)))

pub returns-in-8-to-11 : goal.returns-in-8-to-11
returns-in-8-to-11 c = sym (is_four _ (line_on 2 _ (omega arith)) (line_off 3 _ (omega arith)))

pub returns-in-12-to-13 : goal.returns-in-12-to-13
returns-in-12-to-13 c = sym (is_eight _ (line_on 2 _ (omega arith)) (line_on 3 _ (omega arith)) (line_off 4 _ (omega arith)))

pub returns-in_default : goal.returns-in_default
returns-in_default c = sym (no_length _ (line_on 2 _ (omega arith)) (line_on 3 _ (omega arith)) (line_on 4 _ (omega arith)) (line_on 5 _ (omega arith)))
