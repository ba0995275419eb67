-- `walk::step` meets its contract. Assumes nothing.
use Rattle.std.proofs.Common.{ℕ, ◌+◌, sym, ap, ◌∙◌, arith}
use Rattle.std.proofs.lemmas.Result.{err_from_is_err_and}
use Rattle.basics.specs.Answers.{accepted}
use Rattle.walk.specs.Walks.{onward}
use Rattle.walk.proofs.Walking.{has_room, step_on, step_err}
use Rattle.walk.proofs.step.Goals as goal

pub returns-in_err-may_go_on : goal.returns-in_err-may_go_on
returns-in_err-may_go_on c = let p = err_from_is_err_and c.from_residual.result c.from_residual.ensures.1 in
    rw (p.1, p.2) (step_err c.args.walk c.args.lines _ c.in_err-may_go_on.ensures)

pub overflow_add-walk : goal.overflow_add-walk
overflow_add-walk c = let room = has_room _ (sym c.in_ok-may_go_on.ensures) in
    omega (arith, room.places)

pub overflow_add-walk-2 : goal.overflow_add-walk-2
overflow_add-walk-2 c = let room = has_room _ (sym c.in_ok-may_go_on.ensures) in
    omega (arith, room.places, room.cycles)

pub returns : goal.returns
unfolding onward
returns c = let a = c.args in
    ap (λ (g : ℕ). accepted (record { walk = record { place = a.walk.place + 1; cycle = a.walk.cycle + g; last = a.lines }; gap = g })) c.gap_before-gap.ensures
    ∙ sym (step_on a.walk a.lines (sym c.in_ok-may_go_on.ensures))
