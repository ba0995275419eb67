-- `accounts::charge::charge_on` meets its contract. Assumes nothing.
use Rattle.std.proofs.Common.{ℕ, ◌<◌, sym, ◌∙◌, subst, arith, length-drop, length-take, rules}
use Rattle.accounts.proofs.Charging.{shown_at, charging_starts, place_in, charged-one, idled_one, charging_ends}
use Rattle.accounts.proofs.charge.charge_on.Goals as goal
use Rattle.accounts.proofs.charge.charge_on.Goals.{then-shown, else-shown}

pub loop-i-init : goal.loop-i-init
loop-i-init c = charging_starts _ _ _ _ c.requires (search rules)

pub overflow_mul-at : goal.overflow_mul-at
overflow_mul-at c = let few = c.loop-i.invariant.few in omega arith

pub overflow_add-end : goal.overflow_add-end
overflow_add-end c = let few = c.loop-i.invariant.few in omega arith

pub shown_in-shown-requires : goal.shown_in-shown-requires
shown_in-shown-requires c = let fits = c.loop-i.invariant.fits in simp (length-take, length-drop) (omega arith)

-- the slot is one of sixteen
pub bounds-account-place : goal.bounds-account-place
bounds-account-place c = let bytes = c.args.bytes.now in
    subst (λ (k : ℕ). k < 16) (sym c.slot_of-slot.ensures) (place_in bytes _ _ _ _ _ c.loop-i.i c.loop-i.invariant c.shown_in-shown.result (c.shown_in-shown.ensures ∙ shown_at bytes c.loop-i.i))

pub bounds-account-place-then-shown : goal.bounds-account-place-then-shown
bounds-account-place-then-shown c = let bytes = c.args.bytes.now in
    subst (λ (k : ℕ). k < 16) (sym c.slot_of-slot.ensures) (place_in bytes _ _ _ _ _ c.loop-i.i c.loop-i.invariant c.shown_in-shown.result (c.shown_in-shown.ensures ∙ shown_at bytes c.loop-i.i))

pub added-requires : goal.added-requires
added-requires c = let few = c.loop-i.invariant.few in
    let lt = c.loop-i-test.true in
    let w = c.loop-i.invariant.room c.slot_of-slot.result in
    (omega arith, omega arith)

-- a record that was charged, or one that changes no entry
pub loop-i-preserved : goal.loop-i-preserved
loop-i-preserved c =
    let bytes = c.args.bytes.now in
    let lt = c.loop-i-test.true in
    let shown = c.shown_in-shown.ensures ∙ shown_at bytes c.loop-i.i in
    elim c.if-shown.branch [
      | then-shown w ↦ charged-one bytes _ _ _ c.loop-i.account c.loop-i.state c.loop-i.i c.loop-i.invariant c.shown_in-shown.result shown lt w.slot_of-slot.result w.busy_of-busy.result w.added.result c.if-shown.account c.if-shown.state w.if-shown.true w.slot_of-slot.ensures w.busy_of-busy.ensures w.added.ensures w.account-is (w.state-is ∙ w.after_charge-state.ensures)
      | else-shown w ↦ idled_one bytes _ _ _ c.loop-i.account c.loop-i.state c.loop-i.i c.loop-i.invariant c.shown_in-shown.result shown lt c.if-shown.account c.if-shown.state w.if-shown.false w.account-is w.state-is
    ]

pub returns : goal.returns
returns c = charging_ends _ _ _ _ _ _ _ c.loop-i.invariant c.loop-i-test.false
