-- Laws of the lines of an account. Assumes nothing.
use Prim.Native.Nat.{ℕ, suc, ◌+◌, ◌*◌, ◌≤◌, ◌<◌}
use mathlib.Core.List.{List, [], ◌∷◌, ◌++◌}
use mathlib.Core.Path.{◌≡◌, ap}
use native.Mathlib.Omega.{arith}
use lib.ListN.{length, get_or, drop, length-append, drop_of_length-le}
use lib.Seq.{drop-cons}
use Rattle.printed.proofs.LineLaws.{most, lines-most}
use Rattle.entries.specs.declared.Entry.{Entry}
use Rattle.entries.specs.Entries.{zero_entry}
use Rattle.usage.specs.declared.Closing.{Closing}
use Rattle.accountlines.specs.Lines.{slot_line, slot_lines, closing_lines}

-- the lines that are left from slot k on: its own, and those behind it; none where there is no such slot
pub slots_from : (es : List Entry) (k : ℕ) → k < length es → slot_lines k (drop k es) ≡ slot_line k (get_or es k zero_entry) ++ slot_lines (suc k) (drop (suc k) es)
slots_from es k lt = ap (slot_lines k) (drop-cons es k zero_entry lt)

pub slots_done : (es : List Entry) (k : ℕ) → length es ≤ k → slot_lines k (drop k es) ≡ []
slots_done es k le = ap (slot_lines k) (drop_of_length-le es le)

-- ---- how long the lines are at most, where every number has twenty digits
slot-most : (k : ℕ) (e : Entry) → length (slot_line k e) ≤ 80
unfolding slot_line
slot-most k e = simp length-append (omega (arith, most k, most e.starts, most e.busy))

slots_most : (k : ℕ) (es : List Entry) → length (slot_lines k es) ≤ length es * 80
slots_most k [] = omega arith
slots_most k (e ∷ es) = rw length-append (one_more (slot-most _ _) (slots_most (suc k) es))
  where
    one_more : {a b : ℕ} → a ≤ 80 → b ≤ length es * 80 → a + b ≤ suc (length es) * 80
    one_more h l = omega arith

-- the judge's two lines and sixteen more
pub closing_most : (c : Closing) → length c.entries ≡ 16 → length (closing_lines c) ≤ 1532
closing_most c sixteen = simp length-append (omega (arith, simp length-append at (lines-most c.ending), slots_most 0 c.entries))
