-- Laws of the walk from ARB3 down to ARB0: what it gives is settled. Assumes nothing.
use Prim.Native.Nat.{ℕ, zero, suc, ◌-◌, ◌<◌, ◌≤◌, ◌^◌}
use mathlib.Core.Path.{◌≡◌, refl, sym, ◌∙◌}
use mathlib.Core.Bool.{false}
use native.Mathlib.Omega.{arith}
use native.Mathlib.Decide.{ℕ_discrete}
use Rattle.basics.specs.Lines.{active}
use Rattle.basics.proofs.Bools.{choice}
use Rattle.slots.proofs.MemberLaws.{mem-empty}
use Rattle.slots.proofs.WithLaws.{mem_included, mem-other, including_less}
use Rattle.contest.specs.Contest.{driven, Settled}
use Rattle.contest.specs.Walk.{with_line, settle_from}
use Rattle.contest.proofs.Laws.{driven-same, by_lines}

-- a line that is worked out is as it is driven, and the others are as they were
with-own : (k set w : ℕ) → active k w ≡ false → active k (with_line k set w) ≡ driven k set w
unfolding with_line
with-own k set w h =
    choice (λ v. active k v ≡ driven k set w) (driven k set w) (λ e. mem_included k w ∙ sym e) (λ e. h ∙ sym e)

with-other : (j k set w : ℕ) → (k ≡ j → ⊥) → active j (with_line k set w) ≡ active j w
unfolding with_line
with-other j k set w d = choice (λ v. active j v ≡ active j w) (driven k set w) (λ e. mem-other k j w d) (λ e. refl)

with_less : (k set w : ℕ) → k < 4 → w < 2 ^ 4 → with_line k set w < 2 ^ 4
unfolding with_line
with_less k set w l h = choice (λ v. v < 2 ^ 4) (driven k set w) (λ e. including_less 4 k w l h) (λ e. h)

pub walk_less : (k set w : ℕ) → k < 4 → w < 2 ^ 4 → settle_from k set w < 2 ^ 4
unfolding settle_from
walk_less zero set w l h = with_less 0 set w l h
walk_less (suc k) set w l h = walk_less k set (with_line (suc k) set w) (omega arith) (with_less (suc k) set w l h)

-- the walk from line k: the higher lines stay, and each line from k down is as it is driven in the end
record Walked (k set w : ℕ) : Type 0 where
  higher : (j : ℕ) → k < j → active j (settle_from k set w) ≡ active j w
  lower : (j : ℕ) → j ≤ k → active j (settle_from k set w) ≡ driven j set (settle_from k set w)

-- line k, which no later step of the walk changes
settled-line : (k set w r : ℕ) → active k w ≡ false → active k r ≡ active k (with_line k set w) → ((j : ℕ) → k < j → active j r ≡ active j w) → active k r ≡ driven k set r
settled-line k set w r h own same =
    own ∙ with-own k set w h ∙ driven-same 16 k set w r (λ j l i. sym (same j l))

walked : (k set w : ℕ) → ((j : ℕ) → j ≤ k → active j w ≡ false) → Walked k set w
unfolding settle_from
walked zero set w f = record { higher = same; lower = λ j l. let e : j ≡ 0 = omega arith in rw e (settled-line 0 set w (with_line 0 set w) (f 0 (omega arith)) refl same) }
  where
    same : (j : ℕ) → 0 < j → active j (with_line 0 set w) ≡ active j w
    same j l = with-other j 0 set w (λ (q : 0 ≡ j). omega arith)
walked (suc k) set w f = go (walked k set (with_line (suc k) set w) (λ j l. other j (λ (q : suc k ≡ j). omega arith) ∙ f j (omega arith)))
  where
    other : (j : ℕ) → (suc k ≡ j → ⊥) → active j (with_line (suc k) set w) ≡ active j w
    other j d = with-other j (suc k) set w d

    go : Walked k set (with_line (suc k) set w) → Walked (suc k) set w
    go r =
        let same : (j : ℕ) → suc k < j → active j (settle_from (suc k) set w) ≡ active j w =
        λ j l. r.higher j (omega arith) ∙ other j (λ (q : suc k ≡ j). omega arith) in
        record {
          higher = same;
          lower = λ j l. elim (ℕ_discrete j (suc k)) [
            | yes q ↦ rw q (settled-line (suc k) set w (settle_from (suc k) set w) (f (suc k) (omega arith)) (r.higher (suc k) (omega arith)) same)
            | no d ↦ r.lower j (omega arith)
          ];
        }

pub walk_settled : (set : ℕ) → Settled set (settle_from 3 set 0)
walk_settled set = by_lines (λ k h. (walked 3 set 0 (λ j l. mem-empty j)).lower k (omega arith))

-- the walk's clauses, at the code's line - 1
pub walk_last : (k set w : ℕ) → k ≡ 0 → with_line k set w ≡ settle_from k set w
unfolding settle_from
walk_last k set w e = rw e

pub walk_step : (k set w : ℕ) → (k ≡ 0 → ⊥) → settle_from (k - 1) set (with_line k set w) ≡ settle_from k set w
unfolding settle_from
walk_step zero set w n = absurd (n refl)
walk_step (suc k) set w n = let e : suc k - 1 ≡ k = omega arith in rw e
