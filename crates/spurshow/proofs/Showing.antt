-- Laws of what is shown of records behind a walk. Assumes nothing.
use Prim.Native.Nat.{ℕ, suc, ◌+◌, ◌-◌, ◌*◌, ◌/◌, ◌%◌, ◌≤◌, ◌<◌}
use mathlib.Core.Path.{◌≡◌, refl, sym, ap, ◌∙◌}
use mathlib.Core.Bool.{Bool, true, false, cond, not, ◌&&◌}
use mathlib.Core.List.{List, [], ◌∷◌, ◌++◌, append_assoc, append-nil}
use native.Mathlib.Omega.{arith}
use lib.Dec.{eqb, ltb, leb}
use lib.ListN.{length, take, drop, length-append, length-drop}
use lib.Seq.{take_all, drop-drop, length-take-le}
use borrow.Author.Tests.{le-leb, lt-leb, lt-ltb, le-ltb, eq-eqb, ne_eqb, leb-true, leb-false, ltb-true}
use Rattle.basics.proofs.Bools.{choice, by-test, cond-true, cond-false, and_both}
use Rattle.record.specs.declared.Record.{Record}
use Rattle.record.specs.Layout.{record_in, spare_in}
use Rattle.record.specs.Packing.{too_few, lines_of, spare_of}
use Rattle.text.specs.declared.Place.{Place}
use Rattle.text.specs.Places.{front, moved_by, put_at}
use Rattle.rules.specs.Run.{Taken, taken_in, records_in}
use Rattle.rules.specs.Recording.{sixteen}
use Rattle.rules.specs.Verdict.{most_records}
use Rattle.rules.proofs.Laws.{records-append}
use Rattle.rules.proofs.Reach.{length-records}
use Rattle.walk.specs.declared.Walk.{Walk}
use Rattle.walk.specs.declared.Walked.{Walked}
use Rattle.walk.specs.Walks.{fresh_walk, walk_bounds, step_refusal, gap_before, onward, stayed, step_of}
use Rattle.walk.proofs.Walking.{in_bounds_lem, none-refused, step_on, onward_bounds}
use Rattle.printed.specs.Adding.{Adds}
use Rattle.printed.proofs.AddingLaws.{Made, adds_put, adds_then, adds_none, adds_page}
use Rattle.rowlines.specs.Rows.{row_line}
use Rattle.rowlines.proofs.RowLaws.{row-most}
use Rattle.vcdlines.specs.Dump.{change_text, end_text}
use Rattle.vcdlines.proofs.ChangeLaws.{change_most, head_most, time-most}
use Rattle.spurshow.specs.declared.Asked.{Asked}
use Rattle.spurshow.specs.declared.Amiss.TheVariants.{NoRecord, TooMany, Torn}
use Rattle.std.specs.Prelude.{Result, Ok, Err}
use Rattle.basics.specs.declared.refusal.Refusal.{Refusal}
use Rattle.basics.specs.Answers.{answered}
use Rattle.basics.proofs.Refusals.{one_result}
use Rattle.spurshow.specs.Shown.{goes, row_of, head_of, dump_of, text_of, shown, walked_over, records_of, ending_of, last_of}

pub on_of : (b : Bool) → not b ≡ false → b ≡ true
on_of true e = refl
on_of false e = sym e

head_short : (first : Bool) → length (head_of first) ≤ 2218
head_short true = head_most
head_short false = omega arith

-- ---- one record
module _ (a : Asked) (w : Walk) where
  pub going : goes a w ≡ true → (w.place ≤ a.to) × (w.place < most_records)
  unfolding goes
  going g =
      let both = and_both (leb w.place a.to) (ltb w.place most_records) g in
      (leb-true w.place a.to both.0, ltb-true w.place most_records both.1)

  pub accepted : walk_bounds w ≡ true → goes a w ≡ true → step_refusal w ≡ 0
  accepted b g = none-refused w b (going g).1

  module _ (t : Taken) where
    pub text_none : w.place < a.from → text_of a w t ≡ []
    unfolding text_of
    text_none lt = cond-false _ _ (lt-leb a.from w.place lt)

    pub text_some : a.from ≤ w.place → text_of a w t ≡ cond a.dump (dump_of a w t) (row_of w t)
    unfolding text_of
    text_some le = cond-true _ _ (le-leb a.from w.place le)

    -- what the program puts, from what a step answers
    module _ (d : Walked) (stepped : d ≡ record { walk = onward w t.lines; gap = gap_before w t.lines.stamp }) (le : a.from ≤ w.place) where
      pub text_row : a.dump ≡ false → text_of a w t ≡ row_line w.place d.walk.cycle d.gap t.lines t.spare
      text_row no-dump =
          text_some le ∙ cond-false _ _ no-dump
          ∙ sym (ap (λ (x : Walked). row_line w.place x.walk.cycle x.gap t.lines t.spare) stepped)

      pub text_dump : a.dump ≡ true → text_of a w t ≡ head_of (eqb w.place a.from) ++ change_text (eqb w.place a.from) w.cycle w.last d.gap d.walk.cycle t.lines
      text_dump dump =
          text_some le ∙ cond-true _ _ dump
          ∙ sym (ap (λ (x : Walked). head_of (eqb w.place a.from) ++ change_text (eqb w.place a.from) w.cycle w.last x.gap x.walk.cycle t.lines) stepped)

    -- how long it is at most, and how long behind the first record shown
    shown-within : (m : ℕ) → 530 ≤ m → length (dump_of a w t) ≤ m → length (text_of a w t) ≤ m
    unfolding text_of
    shown-within m large h =
        let P : List ℕ → Type 0 = λ l. length l ≤ m in
        choice P (leb a.from w.place)
        (λ _. choice P a.dump (λ _. h) (λ _. let r = row-most w.place (onward w t.lines).cycle (gap_before w t.lines.stamp) t.lines t.spare in omega arith))
        (λ _. omega arith)

    change_short : (first : Bool) → length (change_text first w.cycle w.last (gap_before w t.lines.stamp) (onward w t.lines).cycle t.lines) ≤ 530
    change_short first = change_most first w.cycle w.last (gap_before w t.lines.stamp) (onward w t.lines).cycle t.lines

    text_most : length (text_of a w t) ≤ 2748
    text_most =
        let first = eqb w.place a.from in
        let h = head_short first in
        let c = change_short first in
        let both = length-append (head_of first) (change_text first w.cycle w.last (gap_before w t.lines.stamp) (onward w t.lines).cycle t.lines) in
        shown-within 2748 (omega arith) (omega arith)

    text_later : a.from < w.place → length (text_of a w t) ≤ 530
    text_later lt =
        let f : eqb w.place a.from ≡ false = ne_eqb w.place a.from (λ (z : w.place ≡ a.from). omega arith) in
        shown-within 530 (omega arith) (rw f (change_short false))

  -- so a step isn't refused
  pub step_ok : (lines : Record) (r : Result Walked Refusal) → walk_bounds w ≡ true → goes a w ≡ true → answered (stayed w) r ≡ step_of w lines → r ≡ Ok (record { walk = onward w lines; gap = gap_before w lines.stamp })
  step_ok lines r b g e = one_result (stayed w) r (Ok (record { walk = onward w lines; gap = gap_before w lines.stamp })) (e ∙ step_on w lines (accepted b g))

-- sixteen bytes as the program reads them
pub taken-whole : (part : List ℕ) (lines : Record) (spare : ℕ) → length part ≡ 16 → lines ≡ lines_of part → spare ≡ spare_of part → ◌≡◌ {A = Taken} (record { lines = lines; spare = spare }) (taken_in part)
unfolding lines_of spare_of too_few
taken-whole part lines spare size e f =
    let whole : ltb (length part) 16 ≡ false = le-ltb (length part) 16 (omega arith) in
    let all : take 16 part ≡ part = take_all 16 part (let z : length part ≤ 16 = omega arith in z) in
    ap (λ (x : Record). record { lines = x; spare = spare }) (e ∙ cond-false _ _ whole ∙ ap record_in all)
    ∙ ap (λ (n : ℕ). record { lines = record_in part; spare = n }) (f ∙ cond-false _ _ whole ∙ ap spare_in all)

-- the record at place i of a piece, as it is lent to be read
pub part_is : (piece : List ℕ) (i : ℕ) → take (i * 16 + 16 - i * 16) (drop (i * 16) piece) ≡ sixteen piece i
part_is piece i = ap (λ (k : ℕ). take k (drop (i * 16) piece)) (let z : i * 16 + 16 - i * 16 ≡ 16 = omega arith in z)

pub part_size : (piece : List ℕ) (i : ℕ) → i < length piece / 16 → length (take (i * 16 + 16 - i * 16) (drop (i * 16) piece)) ≡ 16
part_size piece i lt =
    ap length (part_is piece i) ∙ length-take-le 16 (drop (i * 16) piece) (let d = length-drop (i * 16) piece in omega arith)

-- ---- records
-- where nothing more is to be walked
pub shown_over : (a : Asked) (w : Walk) (ts : List Taken) → goes a w ≡ false → shown a w ts ≡ []
shown_over a w [] g = refl
shown_over a w (t ∷ ts) g = cond-false _ _ g

pub walked_over_lem : (a : Asked) (w : Walk) (ts : List Taken) → goes a w ≡ false → walked_over a w ts ≡ w
walked_over_lem a w [] g = refl
walked_over_lem a w (t ∷ ts) g = cond-false _ _ g

shown-later : (a : Asked) (w : Walk) (ts : List Taken) → a.from < w.place → length (shown a w ts) ≤ length ts * 530
unfolding onward
shown-later a w [] lt = omega arith
shown-later a w (t ∷ ts) lt =
    choice (λ (l : List ℕ). length l ≤ length (t ∷ ts) * 530) (goes a w)
    (λ _. let m = text_later a w t lt in let n = shown-later a (onward w t.lines) ts (let z : a.from < w.place + 1 = omega arith in z) in let s = length-append (text_of a w t) (shown a (onward w t.lines) ts) in omega arith)
    (λ _. omega arith)

-- the head stands before one record alone
shown-most : (a : Asked) (w : Walk) (ts : List Taken) → length (shown a w ts) ≤ length ts * 530 + 2218
unfolding onward
shown-most a w [] = omega arith
shown-most a w (t ∷ ts) =
    choice (λ (l : List ℕ). length l ≤ length (t ∷ ts) * 530 + 2218) (goes a w)
    (λ _. let s = length-append (text_of a w t) (shown a (onward w t.lines) ts) in
    by-test (leb a.from w.place)
    (λ e. let z = leb-true a.from w.place e in
    let m = text_most a w t in
    let n = shown-later a (onward w t.lines) ts (let y : a.from < w.place + 1 = omega arith in y) in omega arith)
    (λ e. let z = leb-false a.from w.place e in
    let m = ap length (text_none a w t z) in
    let n = shown-most a (onward w t.lines) ts in omega arith))
    (λ _. omega arith)

-- records behind records: a piece after a piece is as both at once
module _ (a : Asked) (w next : Walk) (text : List ℕ) (xs ys : List Taken) where
  shown-one : (g : Bool) → goes a w ≡ g → shown a next (xs ++ ys) ≡ shown a next xs ++ shown a (walked_over a next xs) ys
      → cond g (text ++ shown a next (xs ++ ys)) [] ≡ cond g (text ++ shown a next xs) [] ++ shown a (cond g (walked_over a next xs) w) ys
  shown-one true g e = ap (λ (l : List ℕ). text ++ l) e ∙ sym (append_assoc text (shown a next xs) (shown a (walked_over a next xs) ys))
  shown-one false g e = sym (shown_over a w ys g)

  walked_one : (g : Bool) → goes a w ≡ g → walked_over a next (xs ++ ys) ≡ walked_over a (walked_over a next xs) ys
      → cond g (walked_over a next (xs ++ ys)) w ≡ walked_over a (cond g (walked_over a next xs) w) ys
  walked_one true g e = e
  walked_one false g e = sym (walked_over_lem a w ys g)

pub shown_then : (a : Asked) (w : Walk) (xs ys : List Taken) → shown a w (xs ++ ys) ≡ shown a w xs ++ shown a (walked_over a w xs) ys
shown_then a w [] ys = refl
shown_then a w (t ∷ xs) ys = shown-one a w (onward w t.lines) (text_of a w t) xs ys (goes a w) refl (shown_then a (onward w t.lines) xs ys)

pub walked_then : (a : Asked) (w : Walk) (xs ys : List Taken) → walked_over a w (xs ++ ys) ≡ walked_over a (walked_over a w xs) ys
walked_then a w [] ys = refl
walked_then a w (t ∷ xs) ys = walked_one a w (onward w t.lines) [] xs ys (goes a w) refl (walked_then a (onward w t.lines) xs ys)

-- the whole records of bytes behind whole records
pub records_then : (x y : List ℕ) → length x % 16 ≡ 0 → records_of (x ++ y) ≡ records_of x ++ records_of y
records_then x y e =
    let n : length (x ++ y) / 16 ≡ length x / 16 + length y / 16 = omega (arith, length-append x y) in
    ap (λ (k : ℕ). records_in k (x ++ y)) n ∙ records-append (length x / 16) (length y / 16) x y (omega arith)

-- A PIECE AFTER A PIECE, the first being whole records, is as both at once
pub shown_pieces : (a : Asked) (w : Walk) (x y : List ℕ) → length x % 16 ≡ 0
    → shown a w (records_of (x ++ y)) ≡ shown a w (records_of x) ++ shown a (walked_over a w (records_of x)) (records_of y)
shown_pieces a w x y e = ap (shown a w) (records_then x y e) ∙ shown_then a w (records_of x) (records_of y)

pub walked_pieces : (a : Asked) (w : Walk) (x y : List ℕ) → length x % 16 ≡ 0
    → walked_over a w (records_of (x ++ y)) ≡ walked_over a (walked_over a w (records_of x)) (records_of y)
walked_pieces a w x y e = ap (walked_over a w) (records_then x y e) ∙ walked_then a w (records_of x) (records_of y)

pub fresh_bounds : walk_bounds fresh_walk ≡ true
fresh_bounds = in_bounds_lem fresh_walk (omega arith) (omega arith)

-- ---- a piece, record by record
-- the records from place i on, of n
abbrev pub left : List ℕ → ℕ → ℕ → List Taken
left piece n i = records_in (n - i) (drop (i * 16) piece)

left_next : (piece : List ℕ) (n i : ℕ) → i < n → left piece n i ≡ taken_in (sixteen piece i) ∷ left piece n (i + 1)
left_next piece n i lt =
    let more : n - i ≡ suc (n - (i + 1)) = omega arith in
    let on : i * 16 + 16 ≡ (i + 1) * 16 = omega arith in
    ap (λ (k : ℕ). records_in k (drop (i * 16) piece)) more
    ∙ ap (λ (l : List ℕ). taken_in (sixteen piece i) ∷ records_in (n - (i + 1)) l) (drop-drop 16 (i * 16) piece ∙ ap (λ (k : ℕ). drop k piece) on)

-- the first i records of a piece are shown: what is left of it brings the walk and the text to where they have to come
pub record Along (a : Asked) (w₀ : Walk) (piece text₀ : List ℕ) (n i : ℕ) (w : Walk) (text : List ℕ) (p : Place) : Type 0 where
  pub within : i ≤ n
  pub all : n ≡ length piece / 16
  pub bounds : walk_bounds w ≡ true
  pub sofar : List ℕ
  pub adds : Adds text₀ front text p sofar
  pub texts : sofar ++ shown a w (left piece n i) ≡ shown a w₀ (records_of piece)
  pub walks : walked_over a w (left piece n i) ≡ walked_over a w₀ (records_of piece)

-- what a piece's text is to be, so many bytes at the front of the buffer
pub record Done (a : Asked) (w₀ : Walk) (piece : List ℕ) (w : Walk) (text : List ℕ) (size : ℕ) : Type 0 where
  pub bounds : walk_bounds w ≡ true
  pub walks : w ≡ walked_over a w₀ (records_of piece)
  pub made : Made text size (shown a w₀ (records_of piece))

module _ (a : Asked) (w₀ : Walk) (piece text₀ : List ℕ) (n : ℕ) where
  pub along_start : n ≡ length piece / 16 → walk_bounds w₀ ≡ true → (p : Place) → p ≡ front → Along a w₀ piece text₀ n 0 w₀ text₀ p
  along_start e b p f =
      record {
        within = omega arith;
        all = e;
        bounds = b;
        sofar = [];
        adds = rw f adds_none;
        texts = ap (λ (k : ℕ). shown a w₀ (records_in k piece)) (let z : n - 0 ≡ length piece / 16 = omega arith in z);
        walks = ap (λ (k : ℕ). walked_over a w₀ (records_in k piece)) (let z : n - 0 ≡ length piece / 16 = omega arith in z);
      }

  module _ (i : ℕ) (w : Walk) (text : List ℕ) (p : Place) (h : Along a w₀ piece text₀ n i w text p) where
    -- one record more
    pub along_next : (next : Walk) (after : List ℕ) (q : Place) (part : List ℕ) → i < n → goes a w ≡ true → part ≡ sixteen piece i → next ≡ onward w (taken_in part).lines → Adds text p after q (text_of a w (taken_in part)) → Along a w₀ piece text₀ n (i + 1) next after q
    along_next next after q part lt g pe ne pput =
        let t = taken_in (sixteen piece i) in
        let e : next ≡ onward w t.lines = ne ∙ ap (λ (x : List ℕ). onward w (taken_in x).lines) pe in
        let put : Adds text p after q (text_of a w t) = rw pe at pput in
        let rest = left piece n (i + 1) in
        let here : shown a w (left piece n i) ≡ text_of a w t ++ shown a next rest = ap (shown a w) (left_next piece n i lt) ∙ cond-true _ _ g ∙ ap (λ (x : Walk). text_of a w t ++ shown a x rest) (sym e) in
        let there : walked_over a w (left piece n i) ≡ walked_over a next rest = ap (walked_over a w) (left_next piece n i lt) ∙ cond-true _ _ g ∙ ap (λ (x : Walk). walked_over a x rest) (sym e) in
        record {
          within = omega arith;
          all = h.all;
          bounds = ap walk_bounds e ∙ onward_bounds w t.lines (accepted a w h.bounds g);
          sofar = h.sofar ++ text_of a w t;
          adds = adds_then h.adds put;
          texts = append_assoc h.sofar (text_of a w t) (shown a next rest) ∙ ap (λ (l : List ℕ). h.sofar ++ l) (sym here) ∙ h.texts;
          walks = sym there ∙ h.walks;
        }

    -- nothing left, or nothing more to be walked
    module _ (short : length piece ≤ 1024) (room : length text₀ ≡ 65536) where
      done : shown a w (left piece n i) ≡ [] → walked_over a w (left piece n i) ≡ w → Done a w₀ piece w text p.at
      done none still =
          let whole : h.sofar ≡ shown a w₀ (records_of piece) = sym (append-nil h.sofar) ∙ ap (λ (l : List ℕ). h.sofar ++ l) (sym none) ∙ h.texts in
          let most = shown-most a w₀ (records_of piece) in
          let count = length-records (length piece / 16) piece in
          let size : length (shown a w₀ (records_of piece)) ≤ length text₀ = omega arith in
          record { bounds = h.bounds; walks = sym still ∙ h.walks; made = adds_page refl (rw whole at h.adds) size }

      pub along_end : n ≤ i → Done a w₀ piece w text p.at
      along_end le =
          let none : left piece n i ≡ [] = ap (λ (k : ℕ). records_in k (drop (i * 16) piece)) (let z : n - i ≡ 0 = omega arith in z) in
          done (ap (shown a w) none) (ap (walked_over a w) none)

      pub along_over : goes a w ≡ false → Done a w₀ piece w text p.at
      along_over g = done (shown_over a w (left piece n i) g) (walked_over_lem a w (left piece n i) g)

-- ---- the end
module _ (a : Asked) (earlier size after : ℕ) where
  pub end_none : after ≤ a.from → Err NoRecord ≡ ending_of a earlier size after
  unfolding ending_of
  end_none h = sym (cond-true _ _ (le-leb after a.from h))

  module _ (some : a.from < after) where
    pub end-shown : a.to < after → Ok tt ≡ ending_of a earlier size after
    unfolding ending_of
    end-shown h = sym (cond-false _ _ (lt-leb after a.from some) ∙ cond-true _ _ (lt-ltb a.to after h))

    module _ (more : after ≤ a.to) where
      pub end-many : most_records < earlier + size / 16 → Err TooMany ≡ ending_of a earlier size after
      unfolding ending_of
      end-many h =
          sym (cond-false _ _ (lt-leb after a.from some) ∙ cond-false _ _ (le-ltb a.to after more) ∙ cond-true _ _ (lt-ltb most_records (earlier + size / 16) h))

      module _ (few : earlier + size / 16 ≤ most_records) where
        inside : ending_of a earlier size after ≡ cond (eqb (size % 16) 0) (Ok tt) (Err Torn)
        unfolding ending_of
        inside =
            cond-false _ _ (lt-leb after a.from some) ∙ cond-false _ _ (le-ltb a.to after more) ∙ cond-false _ _ (le-ltb most_records (earlier + size / 16) few)

        pub end_whole : size % 16 ≡ 0 → Ok tt ≡ ending_of a earlier size after
        end_whole h = sym (inside ∙ cond-true _ _ (eq-eqb (size % 16) 0 h))

        pub end-torn : (size % 16 ≡ 0 → ⊥) → Err Torn ≡ ending_of a earlier size after
        end-torn h = sym (inside ∙ cond-false _ _ (ne_eqb (size % 16) 0 h))

-- the end of a dump at the front of a buffer, and of what is none
pub last_made : (a : Asked) (w : Walk) (text after : List ℕ) (p q : Place) → length text ≡ 65536 → p ≡ front → (a.dump && ltb a.from w.place) ≡ true
    → (q ≡ moved_by (length text) p (length (end_text w.cycle))) × (after ≡ put_at text p (end_text w.cycle)) → Made after q.at (last_of a w)
unfolding last_of
last_made a w text after p q room f some put =
    rw (cond-true (end_text w.cycle) [] some) (adds_page f (adds_put put) (let m = end-most w.cycle in omega arith))
  where
    end-most : (cycle : ℕ) → length (end_text cycle) ≤ 22
    end-most cycle = time-most _

pub none_made : (a : Asked) (w : Walk) (text : List ℕ) (p : Place) → p ≡ front → (a.dump && ltb a.from w.place) ≡ false → Made text p.at (last_of a w)
unfolding last_of
none_made a w text p f none =
    rw (cond-false (end_text w.cycle) [] none) (adds_page f adds_none (omega arith))
