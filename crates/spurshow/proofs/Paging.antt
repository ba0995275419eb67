-- What is shown from the start on is what specs/Pages says of the recording itself. Assumes nothing.
use Prim.Native.Nat.{ℕ, zero, suc, ◌+◌, ◌-◌, ◌/◌, ◌%◌, ◌≤◌, ◌<◌}
use mathlib.Core.Path.{◌≡◌, refl, sym, ap, subst, ◌∙◌}
use mathlib.Core.Bool.{true, false, cond, ◌&&◌, false≢true}
use mathlib.Core.List.{List, [], ◌∷◌, ◌++◌, append_assoc, append-nil}
use native.Mathlib.Omega.{arith}
use lib.Dec.{eqb, ltb, leb}
use lib.ListN.{length, length-append}
use borrow.Author.Tests.{leb-true, leb-false, ltb-false}
use Rattle.basics.proofs.Bools.{by-test, cond-true, cond-false, both_and}
use Rattle.rules.specs.Run.{Taken}
use Rattle.rules.specs.Recording.{Lines, Recording, recording_in, gap, cycle}
use Rattle.rules.specs.Exact.{joined}
use Rattle.rules.specs.Verdict.{most_records}
use Rattle.rules.proofs.Reach.{Listed, listed, length-records}
use Rattle.rules.proofs.Step.{taken_at}
use Rattle.walk.specs.declared.Walk.{Walk}
use Rattle.walk.specs.Walks.{gap_before, onward, fresh_walk, walk_at}
use Rattle.walk.proofs.Walking.{gap_at, onward_at, place_at}
use Rattle.record.specs.declared.Record.{Record}
use Rattle.record.specs.Packing.{blank}
use Rattle.rowlines.specs.Rows.{row_line}
use Rattle.vcdlines.specs.Dump.{change_text, end_text}
use Rattle.spurshow.specs.declared.Asked.{Asked}
use Rattle.std.specs.Prelude.{Result, Ok, Err}
use Rattle.spurshow.specs.declared.Amiss.{Amiss}
use Rattle.spurshow.specs.declared.Amiss.TheVariants.{NoRecord, TooMany, Torn}
use Rattle.spurshow.specs.Shown.{goes, row_of, head_of, dump_of, text_of, shown, walked_over, records_of, ending_of, last_of}
use Rattle.spurshow.specs.Pages.{row_at, before, dump_at, text_at, each, behind_last, last_at, page_in, ending_in, printed_of, WholeButLast}
use Rattle.spurshow.proofs.Showing.{going, text_none, text_some, shown_over, walked_over_lem, shown_pieces, walked_pieces}

-- what is shown of a walk's next record is what is said of the recording
row_at_lem : (r : Recording) (k : ℕ) → row_of (walk_at r.lines k) (taken_at r k) ≡ row_at r k
row_at_lem r k =
    ap (λ (w : Walk). row_line (walk_at r.lines k).place w.cycle (gap_before (walk_at r.lines k) (r.lines k).stamp) (r.lines k) (r.spare k)) (onward_at r.lines k)
    ∙ ap (λ (g : ℕ). row_line (walk_at r.lines k).place (cycle r.lines k) g (r.lines k) (r.spare k)) (gap_at r.lines k)
    ∙ ap (λ (i : ℕ). row_line i (cycle r.lines k) (gap r.lines k) (r.lines k) (r.spare k)) (place_at r.lines k)

stood_at : (r : Lines) (k : ℕ) → (walk_at r k).cycle ≡ before (cycle r) 0 k
stood_at r zero = refl
stood_at r (suc k) = refl

last_at_lem : (r : Lines) (k : ℕ) → (walk_at r k).last ≡ before r blank k
last_at_lem r zero = refl
last_at_lem r (suc k) = refl

dump_at_lem : (a : Asked) (r : Recording) (k : ℕ) → dump_of a (walk_at r.lines k) (taken_at r k) ≡ dump_at r a.from k
dump_at_lem a r k =
    let w = walk_at r.lines k in
    let dumped : ℕ → ℕ → Record → ℕ → ℕ → List ℕ = λ place stood last gap cycle. head_of (eqb place a.from) ++ change_text (eqb place a.from) stood last gap cycle (r.lines k) in
    ap (λ (v : Walk). dumped w.place w.cycle w.last (gap_before w (r.lines k).stamp) v.cycle) (onward_at r.lines k)
    ∙ ap (λ (g : ℕ). dumped w.place w.cycle w.last g (cycle r.lines k)) (gap_at r.lines k)
    ∙ ap (λ (l : Record). dumped w.place w.cycle l (gap r.lines k) (cycle r.lines k)) (last_at_lem r.lines k)
    ∙ ap (λ (s : ℕ). dumped w.place s (before r.lines blank k) (gap r.lines k) (cycle r.lines k)) (stood_at r.lines k)
    ∙ ap (λ (i : ℕ). dumped i (before (cycle r.lines) 0 k) (before r.lines blank k) (gap r.lines k) (cycle r.lines k)) (place_at r.lines k)

text_at_is : (a : Asked) (r : Recording) (k : ℕ) → cond a.dump (dump_of a (walk_at r.lines k) (taken_at r k)) (row_of (walk_at r.lines k) (taken_at r k)) ≡ text_at a r k
text_at_is a r k =
    ap (λ (l : List ℕ). cond a.dump l (row_of (walk_at r.lines k) (taken_at r k))) (dump_at_lem a r k) ∙ ap (cond a.dump (dump_at r a.from k)) (row_at_lem r k)

module _ (a : Asked) (r : Recording) where
  -- where the walk goes on before record k, and where it doesn't
  on_at : (k : ℕ) → goes a (walk_at r.lines k) ≡ true → (k ≤ a.to) × (k < most_records)
  on_at k g = let z = going a (walk_at r.lines k) g in let p = place_at r.lines k in (omega (arith, z.0), omega (arith, z.1))

  off_at : (k n : ℕ) → goes a (walk_at r.lines k) ≡ false → k ≤ a.to + 1 → k ≤ most_records → behind_last a (k + n) ≡ k
  unfolding goes
  off_at k n off to most =
      let w = walk_at r.lines k in
      let p = place_at r.lines k in
      by-test (leb w.place a.to)
      (λ e. by-test (ltb w.place most_records)
      (λ f. absurd (false≢true (sym off ∙ both_and _ _ e f)))
      (λ f. let y = leb-true w.place a.to e in let z = ltb-false w.place most_records f in omega arith))
      (λ e. let z = leb-false w.place a.to e in omega arith)

  -- the walk behind record k
  next_at : (k : ℕ) (t : Taken) → taken_at r k ≡ t → onward (walk_at r.lines k) t.lines ≡ walk_at r.lines (suc k)
  next_at k t e = ap (λ (x : Taken). onward (walk_at r.lines k) x.lines) (sym e) ∙ onward_at r.lines k

  walked_from : (k : ℕ) (ts : List Taken) → Listed r k ts → k ≤ a.to + 1 → k ≤ most_records → walked_over a (walk_at r.lines k) ts ≡ walk_at r.lines (behind_last a (k + length ts))
  walked_from k [] l to most = ap (walk_at r.lines) (let z : k ≡ behind_last a (k + 0) = omega arith in z)
  walked_from k (t ∷ ts) l to most =
      by-test (goes a (walk_at r.lines k))
      (λ g. let h = on_at k g in
      let e : behind_last a (suc k + length ts) ≡ behind_last a (k + suc (length ts)) = omega arith in
      cond-true _ _ g
      ∙ ap (λ (w : Walk). walked_over a w ts) (next_at k t l.0)
      ∙ walked_from (suc k) ts l.1 (omega (arith, h.0)) (omega (arith, h.1))
      ∙ ap (walk_at r.lines) e)
      (λ g. cond-false _ _ g ∙ ap (walk_at r.lines) (sym (off_at k (length (t ∷ ts)) g to most)))

  -- from FROM on
  shown_inside : (k : ℕ) (ts : List Taken) → Listed r k ts → a.from ≤ k → k ≤ a.to + 1 → k ≤ most_records
      → shown a (walk_at r.lines k) ts ≡ each (text_at a r) k (behind_last a (k + length ts) - k)
  shown_inside k [] l from to most = ap (each (text_at a r) k) (let z : 0 ≡ behind_last a (k + 0) - k = omega arith in z)
  shown_inside k (t ∷ ts) l from to most =
      let w = walk_at r.lines k in
      by-test (goes a w)
      (λ g. let h = on_at k g in
      let p = place_at r.lines k in
      let e : suc (behind_last a (suc k + length ts) - suc k) ≡ behind_last a (k + suc (length ts)) - k = omega (arith, h.0, h.1) in
      cond-true _ _ g
      ∙ ap (λ (l : List ℕ). l ++ shown a (onward w t.lines) ts) (ap (text_of a w) (sym l.0) ∙ text_some a w (taken_at r k) (omega arith) ∙ text_at_is a r k)
      ∙ ap (λ (l : List ℕ). text_at a r k ++ l) (ap (λ (x : Walk). shown a x ts) (next_at k t l.0) ∙ shown_inside (suc k) ts l.1 (omega arith) (omega (arith, h.0)) (omega (arith, h.1)))
      ∙ ap (each (text_at a r) k) e)
      (λ g. let b = off_at k (length (t ∷ ts)) g to most in cond-false _ _ g ∙ ap (each (text_at a r) k) (let z : 0 ≡ behind_last a (k + length (t ∷ ts)) - k = omega arith in z))

  -- before it
  shown-before : (k : ℕ) (ts : List Taken) → Listed r k ts → k ≤ a.from → k ≤ a.to + 1 → k ≤ most_records
      → shown a (walk_at r.lines k) ts ≡ each (text_at a r) a.from (behind_last a (k + length ts) - a.from)
  shown-before k [] l from to most = ap (each (text_at a r) a.from) (let z : 0 ≡ behind_last a (k + 0) - a.from = omega arith in z)
  shown-before k (t ∷ ts) l from to most =
      let w = walk_at r.lines k in
      by-test (leb a.from k)
      (λ here. let z = leb-true a.from k here in
      let same : k ≡ a.from = omega arith in
      subst (λ (x : ℕ). shown a w (t ∷ ts) ≡ each (text_at a r) x (behind_last a (k + length (t ∷ ts)) - x)) same (shown_inside k (t ∷ ts) l z to most))
      (λ later. let z = leb-false a.from k later in
      let p = place_at r.lines k in
      by-test (goes a w)
      (λ g. let h = on_at k g in
      let e : behind_last a (suc k + length ts) - a.from ≡ behind_last a (k + suc (length ts)) - a.from = omega arith in
      cond-true _ _ g
      ∙ ap (λ (l : List ℕ). l ++ shown a (onward w t.lines) ts) (text_none a w t (omega arith))
      ∙ ap (λ (x : Walk). shown a x ts) (next_at k t l.0)
      ∙ shown-before (suc k) ts l.1 z (omega (arith, h.0)) (omega (arith, h.1))
      ∙ ap (each (text_at a r) a.from) e)
      (λ g. let b = off_at k (length (t ∷ ts)) g to most in cond-false _ _ g ∙ ap (each (text_at a r) a.from) (let y : 0 ≡ behind_last a (k + length (t ∷ ts)) - a.from = omega arith in y)))

-- shown from the start on
shown-all : (a : Asked) (bytes : List ℕ) → shown a fresh_walk (records_of bytes) ≡ each (text_at a (recording_in bytes)) a.from (behind_last a (length bytes / 16) - a.from)
shown-all a bytes =
    let n : ℕ = length bytes / 16 in
    let count : 0 + length (records_of bytes) ≡ n = let z = length-records n bytes in omega arith in
    shown-before a (recording_in bytes) 0 (records_of bytes) (listed bytes 0 n) (omega arith) (omega arith) (omega arith)
    ∙ ap (λ (k : ℕ). each (text_at a (recording_in bytes)) a.from (behind_last a k - a.from)) count

-- and the walk comes to the last record that counts
pub walked_all : (a : Asked) (bytes : List ℕ) → walked_over a fresh_walk (records_of bytes) ≡ walk_at (recording_in bytes).lines (behind_last a (length bytes / 16))
walked_all a bytes =
    let n : ℕ = length bytes / 16 in
    let count : 0 + length (records_of bytes) ≡ n = let z = length-records n bytes in omega arith in
    walked_from a (recording_in bytes) 0 (records_of bytes) (listed bytes 0 n) (omega arith) (omega arith)
    ∙ ap (λ (k : ℕ). walk_at (recording_in bytes).lines (behind_last a k)) count

-- THE TEXT OF AN INPUT, shown from the start on and with a dump's end behind it, is what specs/Pages says of the recording that its bytes hold
pub page_all : (a : Asked) (bytes : List ℕ) → shown a fresh_walk (records_of bytes) ++ last_of a (walked_over a fresh_walk (records_of bytes)) ≡ page_in a bytes
unfolding last_of last_at
page_all a bytes =
    let r : Recording = recording_in bytes in
    let b : ℕ = behind_last a (length bytes / 16) in
    ap (λ (l : List ℕ). l ++ last_of a (walked_over a fresh_walk (records_of bytes))) (shown-all a bytes)
    ∙ ap (λ (l : List ℕ). each (text_at a r) a.from (b - a.from) ++ l)
    (ap (last_of a) (walked_all a bytes)
    ∙ ap (λ (n : ℕ). cond (a.dump && ltb a.from n) (end_text (walk_at r.lines b).cycle) []) (place_at r.lines b)
    ∙ ap (λ (c : ℕ). cond (a.dump && ltb a.from b) (end_text c) []) (stood_at r.lines b))

-- WHAT IS WRONG AT THE END, as the program finds it from the last piece y, whole records x having been walked before it, is what is wrong with the input
pub ending-all : (a : Asked) (x y : List ℕ) → length x % 16 ≡ 0 → let w = walked_over a fresh_walk (records_of x) in w.place ≡ length x / 16
    → ending_of a w.place (length y) (walked_over a w (records_of y)).place ≡ ending_in a (x ++ y)
unfolding ending_of
ending-all a x y whole e =
    let w = walked_over a fresh_walk (records_of x) in
    let size = length-append x y in
    let b : ℕ = behind_last a (length (x ++ y) / 16) in
    let after : (walked_over a w (records_of y)).place ≡ b = ap (λ (v : Walk). v.place) (sym (walked_pieces a fresh_walk x y whole) ∙ walked_all a (x ++ y)) ∙ place_at (recording_in (x ++ y)).lines b in
    let n : w.place + length y / 16 ≡ 0 + length (x ++ y) / 16 = omega arith in
    let m : length y % 16 ≡ length (x ++ y) % 16 = omega arith in
    let f : ℕ → ℕ → ℕ → Result (Unit {0}) Amiss = λ b n m. cond (leb b a.from) (Err NoRecord) (cond (ltb a.to b) (Ok tt) (cond (ltb most_records n) (Err TooMany) (cond (eqb m 0) (Ok tt) (Err Torn)))) in
    ap (λ (k : ℕ). f k (w.place + length y / 16) (length y % 16)) after ∙ ap (λ (k : ℕ). f b k (length y % 16)) n ∙ ap (f b (0 + length (x ++ y) / 16)) m

-- ---- in pieces
printed_from : (a : Asked) (w : Walk) (pieces : List (List ℕ)) → WholeButLast pieces
    → printed_of a w pieces ≡ shown a w (records_of (joined pieces)) ++ last_of a (walked_over a w (records_of (joined pieces)))
printed_from a w [] whole = refl
printed_from a w (piece ∷ []) whole =
    ap (λ (x : List ℕ). shown a w (records_of x) ++ last_of a (walked_over a w (records_of x))) (sym (append-nil piece))
printed_from a w (piece ∷ next ∷ pieces) whole =
    let rest : List ℕ = joined (next ∷ pieces) in
    let v : Walk = walked_over a w (records_of piece) in
    ap (λ (l : List ℕ). shown a w (records_of piece) ++ l) (printed_from a v (next ∷ pieces) whole.1)
    ∙ sym (append_assoc (shown a w (records_of piece)) (shown a v (records_of rest)) (last_of a (walked_over a v (records_of rest))))
    ∙ ap (λ (l : List ℕ). l ++ last_of a (walked_over a v (records_of rest))) (sym (shown_pieces a w piece rest whole.0))
    ∙ ap (λ (x : Walk). shown a w (records_of (piece ++ rest)) ++ last_of a x) (sym (walked_pieces a w piece rest whole.0))

-- THE TEXT OF AN INPUT IN PIECES, printed one after the other, is that of all its bytes
pub printed_all : (a : Asked) (pieces : List (List ℕ)) → WholeButLast pieces → printed_of a fresh_walk pieces ≡ page_in a (joined pieces)
printed_all a pieces whole = printed_from a fresh_walk pieces whole ∙ page_all a (joined pieces)

-- and once record TO is shown, or 2^30 records are walked, the pieces that are not read would add nothing
pub printed_over : (a : Asked) (w : Walk) (pieces : List (List ℕ)) → goes a w ≡ false → printed_of a w pieces ≡ last_of a w
printed_over a w [] over = refl
printed_over a w (piece ∷ pieces) over =
    ap (λ (l : List ℕ). l ++ printed_of a (walked_over a w (records_of piece)) pieces) (shown_over a w (records_of piece) over)
    ∙ ap (λ (x : Walk). printed_of a x pieces) (walked_over_lem a w (records_of piece) over)
    ∙ printed_over a w pieces over
