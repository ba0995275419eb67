-- The highest contesting slot is a settled value of 001's equations, and the only one. Assumes nothing.
use Prim.Native.Nat.{ℕ, zero, suc, ◌+◌, ◌<◌, ◌≤◌}
use mathlib.Core.Path.{◌≡◌, refl, sym, ◌∙◌}
use mathlib.Core.Bool.{true, false, true≢false}
use native.Mathlib.Omega.{arith}
use Rattle.basics.specs.Lines.{active}
use Rattle.basics.proofs.Bools.{by-test, not-true}
use Rattle.slots.specs.Set.{mem, top}
use Rattle.slots.proofs.MemberLaws.{mem-empty}
use Rattle.slots.proofs.TopLaws.{Top, found, bare, top_view, top_most, top_none, top_less}
use Rattle.slots.proofs.WithLaws.{same-members}
use Rattle.contest.specs.Contest.{driven, Settled, Settles}
use Rattle.contest.specs.Walk.{settle_from}
use Rattle.contest.proofs.Laws.{line_of, by_lines, drives-says, says-drives, driven-same, driven_by, driver}
use Rattle.contest.proofs.Rank.{outranks}
use Rattle.contest.proofs.WalkLaws.{walk_less, walk_settled}

-- two settled values agree in the uppermost d lines: each line is settled by those above it
agree : (set v w : ℕ) → Settled set v → Settled set w → (d j : ℕ) → j < 4 → 4 ≤ j + d → active j v ≡ active j w
agree set v w sv sw zero j h g = absurd (omega arith)
agree set v w sv sw (suc d) j h g =
    line_of sv j h ∙ driven-same 16 j set v w (λ i l b. agree set v w sv sw d i b (omega arith)) ∙ sym (line_of sw j h)

one_value : (set v w : ℕ) → v < 16 → w < 16 → Settled set v → Settled set w → v ≡ w
one_value set v w hv hw sv sw = same-members 4 v w hv hw (λ j l. agree set v w sv sw 4 j l (omega arith))

-- with no contestant no line is driven
idle : (k set l : ℕ) → k < 4 → ((s : ℕ) → s < 16 → mem s set ≡ false) → driven k set l ≡ false
idle k set l h f =
    not-true (driven k set l) (λ e.
    let r = driver 16 k set l e in
    true≢false (sym (drives-says (mem r.0 set) r.0 l k h r.2).contests ∙ f r.0 r.1))

-- the highest contestant drives each line of its number, and no contestant drives another
module _ (set m : ℕ) (contests : mem m set ≡ true) (small : m < 16) (most : (s : ℕ) → s < 16 → mem s set ≡ true → s ≤ m) where
  drives-own : (k : ℕ) → k < 4 → active k m ≡ true → driven k set m ≡ true
  drives-own k h e =
      driven_by 16 k set m m small (says-drives (mem m set) m m k h (record { contests = contests; own = e; lacks_none = λ j g i a. a }))

  drives_no_other : (k : ℕ) → k < 4 → active k m ≡ false → driven k set m ≡ false
  drives_no_other k h e =
      not-true (driven k set m) (λ d.
      let r = driver 16 k set m d in
      let s = r.0 in
      let p = drives-says (mem s set) s m k h r.2 in
      omega (arith, most s r.1 p.contests, outranks k 4 m s small p.own e p.lacks_none))

  settles_at : Settled set m
  settles_at = by_lines (λ k h. by-test (active k m) (λ e. e ∙ sym (drives-own k h e)) (λ e. e ∙ sym (drives_no_other k h e)))

pub settled : (set : ℕ) → Settled set (top set)
settled set = go (top_view 16 set)
  where
    go : Top 16 set → Settled set (top set)
    go (found e l) = settles_at set (top set) e l (top_most 16 set)
    go (bare f) = rw (top_none 16 set f) (by_lines (λ k h. mem-empty k ∙ sym (idle k set 0 h f)))

pub settles : (set : ℕ) → Settles set (top set)
settles set = record { settled = settled set; only = λ l h s. one_value set l (top set) h (top_less 15 set) s (settled set); highest = refl }

-- so the walk ends at it
pub walk_top : (set : ℕ) → settle_from 3 set 0 ≡ top set
walk_top set = (settles set).only (settle_from 3 set 0) (walk_less 3 set 0 (omega arith) (omega arith)) (walk_settled set)
