-- The STARTs of all entries together, and the bounds of what is counted from nothing. Assumes nothing.
use Prim.Native.Nat.{ℕ, zero, suc, ◌+◌, ◌≤◌, ◌<◌}
use mathlib.Core.Bool.{true}
use mathlib.Core.List.{List, [], ◌∷◌}
use mathlib.Core.Path.{◌≡◌, refl, ap, ◌∙◌}
use native.Mathlib.Omega.{arith}
use lib.ListN.{length, take, drop, get_or, set, replicate}
use lib.Dec.{leb}
use borrow.Author.Tests.{leb-true, leb-false}
use Rattle.basics.specs.Lines.{one}
use Rattle.basics.proofs.Bools.{by-test, both_and}
use Rattle.entries.specs.declared.Entry.{Entry}
use Rattle.entries.specs.Entries.{zero_entry}
use Rattle.rules.specs.declared.Judge.{Judge}
use Rattle.rules.specs.declared.Tally.{Tally}
use Rattle.rules.specs.declared.Progress.{Progress}
use Rattle.rules.specs.Bounds.{SoundJudge}
use Rattle.rules.specs.Recording.{Lines, gap}
use Rattle.rules.specs.State.{diff_of}
use Rattle.rules.specs.Run.{Taken, taken_in, records_in, from, run_of}
use Rattle.rules.specs.Totals.{sum}
use Rattle.rules.proofs.Laws.{after, step_good, next_open, arb-le, judge-kept}
use Rattle.rules.proofs.Reach.{cycle-sum}
use Rattle.usage.specs.Using.{StartOf, Busy, cycles_of, Used, attention, answered, aborted, Ends}
use Rattle.usage.specs.Charge.{starts_in, charged_to, busy_in, added, added_at, charged, next_judge, Passes, account_of}
use Rattle.usage.specs.Calls.{entry_bounds, entries_bounds}
use Rattle.usage.specs.Told.{starts_of}
use Rattle.usage.proofs.Counts.{number-most, number-some, number_has}
use Rattle.usage.proofs.Starting.{charged-most}
use Rattle.usage.proofs.Running.{charged-length}

-- ---- the sum of the STARTs
set_total : (es : List Entry) (slot : ℕ) (e : Entry) → slot < length es → starts_of (set es slot e) + (get_or es slot zero_entry).starts ≡ starts_of es + e.starts
set_total [] slot e lt = absurd (omega arith)
set_total (x ∷ es) zero e lt = omega arith
set_total (x ∷ es) (suc slot) e lt = let h = set_total es slot e (omega arith) in omega arith

added_total : (es : List Entry) (slot starts busy : ℕ) → slot < length es → starts_of (added_at es slot starts busy) ≡ starts_of es + starts
unfolding added_at
added_total es slot starts busy lt = let h = set_total es slot (added (get_or es slot zero_entry) starts busy) lt in omega arith

-- records that break no rule add to the account as many STARTs as to the tally
pub account_total : (n : ℕ) (j : Judge) (t : Tally) (es : List Entry) (bytes : List ℕ) → SoundJudge j → length es ≡ 16 → Passes j (records_in n bytes)
    → starts_of (account_of j es (records_in n bytes)) + t.starts ≡ starts_of es + (run_of (from j t) (records_in n bytes)).tally.starts
unfolding charged
account_total zero j t es bytes h long pass = refl
account_total (suc n) j t es bytes h long pass =
    more (account_total n (next_judge j r) (after j t r).tally (charged es j r.lines d) (drop 16 bytes)
    (judge-kept j r d h (arb-le (take 16 bytes)) pass.0) (charged-length es j r d ∙ long) pass.1)
  where
    r : Taken
    r = taken_in (take 16 bytes)

    d : ℕ
    d = diff_of j r.lines.stamp

    here : starts_of (charged es j r.lines d) ≡ starts_of es + one (starts_in r.lines)
    here = let most : charged_to j.wave r.lines d ≤ 15 = charged-most j.wave r.lines d h.owner (arb-le (take 16 bytes)) in total (omega arith)
      where
        total : charged_to j.wave r.lines d < length es → starts_of (charged es j r.lines d) ≡ starts_of es + one (starts_in r.lines)
        total lt = added_total es (charged_to j.wave r.lines d) (one (starts_in r.lines)) (busy_in j.transfer r.lines d) lt

    more : starts_of (account_of (next_judge j r) (charged es j r.lines d) (records_in n (drop 16 bytes))) + (t.starts + one (starts_in r.lines))
        ≡ starts_of (charged es j r.lines d) + (run_of (after j t r) (records_in n (drop 16 bytes))).tally.starts
        → starts_of (account_of j es (records_in (suc n) bytes)) + t.starts ≡ starts_of es + (run_of (from j t) (records_in (suc n) bytes)).tally.starts
    more rest =
        let same : (run_of (from j t) (records_in (suc n) bytes)).tally.starts ≡ (run_of (after j t r) (records_in n (drop 16 bytes))).tally.starts = ap (λ (p : Progress). (run_of p (records_in n (drop 16 bytes))).tally.starts) (next_open (from j t) r refl ∙ step_good j t r pass.0) in
        omega (arith, rest, here, same)

pub total_none : (n : ℕ) → starts_of (replicate n zero_entry) ≡ 0
total_none zero = refl
total_none (suc n) = let h = total_none n in omega arith

-- one entry has no more than all
pub part_most : (es : List Entry) (s : ℕ) → (get_or es s zero_entry).starts ≤ starts_of es
part_most [] s = omega arith
part_most (e ∷ es) zero = omega arith
part_most (e ∷ es) (suc s) = let h = part_most es s in omega arith

-- ---- busy cycles
ends-within : (r : Lines) (k i : ℕ) → Ends r k i → k ≤ i
ends-within r k i (attention e _) = omega arith
ends-within r k i (answered o _) = omega (arith, o.earlier)
ends-within r k i (aborted o _) = omega (arith, o.earlier)

cycles-most : (r : Lines) (n : ℕ) → cycles_of r n ≤ sum (gap r) n + 1
cycles-most r zero = omega arith
cycles-most r (suc i) = let h = cycle-sum r i in omega arith

-- busy cycles are at most the span and the STARTs together: a slot that was busy has a START, and no cycle is counted twice
pub busy-most : (r : Lines) (s n : ℕ) (e : Entry) → Used r s n e → e.busy ≤ sum (gap r) n + e.starts
busy-most r s n e u =
    let all = number-most (Busy r s n) (cycles_of r n) e.busy u.busy in
    let most = cycles-most r n in
    by-test (leb 1 e.busy)
    (λ b. let x = number-some (Busy r s n) (cycles_of r n) e.busy u.busy (leb-true 1 e.busy b) in
    let k = x.1 in
    let le = ends-within r k.start k.end k.ends in
    let lt = k.within in
    let has = number_has (StartOf r s) n e.starts k.start u.starts (omega arith) k.slot in
    omega arith)
    (λ b. let z = leb-false 1 e.busy b in omega arith)

-- ---- the bounds
pub bounds_all : (t : Tally) (es : List Entry) → ((s : ℕ) → s < length es → entry_bounds t (get_or es s zero_entry) ≡ true) → entries_bounds t es ≡ true
bounds_all t [] h = refl
bounds_all t (e ∷ es) h = both_and (entry_bounds t e) (entries_bounds t es) (h 0 (omega arith)) (bounds_all t es (λ s lt. h (suc s) (omega arith)))
