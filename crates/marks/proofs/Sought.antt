-- What the search holds is what the recording has: which marks are found, when, and whether a write to the next one is open. Of every recording: no rule
-- of the judge is needed. Assumes nothing.
use Prim.Native.Nat.{ℕ, zero, suc, ◌+◌, ◌≤◌, ◌<◌}
use mathlib.Core.Bool.{true, false, not, ◌&&◌}
use mathlib.Core.Path.{◌≡◌, refl, sym, subst, ◌∙◌}
use native.Mathlib.Omega.{arith}
use lib.ListN.{length, get_or, set, replicate, length-set}
use lib.Seq.{get_or-set_same, get_or-set_other}
use lib.Dec.{ltb}
use borrow.Author.Tests.{ltb-true, ltb-false}
use Rattle.std.proofs.Common.{Option, None, Some}
use Rattle.basics.proofs.Bools.{choice, by-test, and_both}
use Rattle.record.specs.declared.Record.{Record}
use Rattle.codes.specs.Start.{decode_of}
use Rattle.rules.specs.Recording.{Lines, cycle, Opened}
use Rattle.rules.proofs.Places.{below, clash, off_iff}
use Rattle.rules.proofs.Hold.{opened-next, opened_now, opened-before}
use Rattle.marks.specs.declared.Mark.{Mark}
use Rattle.marks.specs.declared.Marks.{Marks}
use Rattle.marks.specs.declared.Search.{Search}
use Rattle.marks.specs.Marks.{mark_at, is_start_of, writes_to, Written, FirstWrite, MarkAt, first, next}
use Rattle.marks.specs.Report.{FoundAt}
use Rattle.marks.specs.State.{waiting, acked, seen_of, fresh_search}

-- ---- what the search says of the recording before record i
-- with so many marks found, from which record on the next one may start: from the first, or behind the last found mark's ACK
pub data Behind (r : Lines) (m : Marks) : ℕ → ℕ → Type 0 where
  start : Behind r m 0 0
  later : {p k i : ℕ} → MarkAt r m p k i → Behind r m (suc p) (suc i)

-- the transfer that is open before record i is a write to the mark, from this record on
pub record Waited (r : Lines) (m : Mark) (from i k : ℕ) : Type 0 where
  pub begins : is_start_of m (r k) ≡ true
  pub opened : Opened r i k
  pub behind : from ≤ k

abbrev pub PendingIs : Lines → Mark → ℕ → ℕ → Option ℕ → Type 0
PendingIs r m from i None = (k : ℕ) → Waited r m from i k → ⊥
PendingIs r m from i (Some span) = (k : ℕ) × Waited r m from i k × (span ≡ cycle r k)

pub record SearchIs (r : Lines) (m : Marks) (i : ℕ) (s : Search) : Type 0 where
  pub from : ℕ
  pub behind : Behind r m s.found from
  pub reached : from ≤ i
  pub pending : PendingIs r (mark_at m s.found) from i s.pending
  pub none : (k j : ℕ) → from ≤ k → j < i → Written r (mark_at m s.found) k j → ⊥
  pub times : (p : ℕ) → p < s.found → FoundAt r m i p (get_or s.spans p 0)
  pub others : (p : ℕ) → s.found ≤ p → get_or s.spans p 0 ≡ 0
  pub places : length s.spans ≡ 32

-- ---- one record more
unanswered : (m : Mark) (x : Record) → is_start_of m x ≡ true → x.ack ≡ false
unfolding is_start_of
unanswered m x e =
    let a = and_both _ (writes_to m (decode_of x.tm1 x.tm0 x.ad)) e in
    let b = and_both _ (not x.reset) a.0 in
    (off_iff x.ack).0 (and_both x.start (not x.ack) b.0).1

found-later : (r : Lines) (m : Marks) (i p span : ℕ) → FoundAt r m i p span → FoundAt r m (suc i) p span
found-later r m i p span f =
    record { start = f.start; ack = f.ack; mark = f.mark; read = (let z = f.read in omega arith); time = f.time }

-- no write to the mark ends at this record, so none has
none_more : (r : Lines) (m : Mark) (from i : ℕ) → ((k j : ℕ) → from ≤ k → j < i → Written r m k j → ⊥) → ((k : ℕ) → from ≤ k → Written r m k i → ⊥) → (k j : ℕ) → from ≤ k → j < suc i → Written r m k j → ⊥
none_more r m from i none here k j le lt w = below j i lt (λ l. none k j le l w) (λ e. here k le (subst (λ x. Written r m k x) e w))

-- the same marks are found, and something or nothing is waited for
module _ (r : Lines) (m : Marks) (i : ℕ) (s : Search) (h : SearchIs r m i s) where
  abbrev mark : Mark
  mark = mark_at m s.found

  still : (w : Option ℕ) → PendingIs r mark h.from (suc i) w → ((k : ℕ) → h.from ≤ k → Written r mark k i → ⊥) → SearchIs r m (suc i) (waiting s w)
  still w p here =
      record {
        from = h.from;
        behind = h.behind;
        reached = (let z = h.reached in omega arith);
        pending = p;
        none = none_more r mark h.from i h.none here;
        times = λ q lt. found-later r m i q (get_or s.spans q 0) (h.times q lt);
        others = h.others;
        places = h.places;
      }

  -- RESET drops what is waited for
  after-reset : (r i).reset ≡ true → SearchIs r m (suc i) (waiting s None)
  after-reset e =
      still None
      (λ k w. clash e (w.opened.unbroken i (let z = w.opened.earlier in let y : k ≤ i = omega arith in y) (omega arith)))
      (λ k le w. clash e w.alive)

  -- a START is the mark's,
  after-start : (r i).reset ≡ false → (r i).start ≡ true → is_start_of mark (r i) ≡ true → SearchIs r m (suc i) (waiting s (Some (cycle r i)))
  after-start nr st e =
      still (Some (cycle r i)) (i, record { begins = e; opened = opened_now r i nr st (unanswered mark (r i) e); behind = h.reached }, refl) (λ k le w. clash st w.plain)

  -- or not
  after-other : (r i).start ≡ true → is_start_of mark (r i) ≡ false → SearchIs r m (suc i) (waiting s None)
  after-other st e =
      still None
      (λ k w. below k i w.opened.earlier (λ lt. clash st (w.opened.alone i lt (omega arith))) (λ q. clash (subst (λ x. is_start_of mark (r x) ≡ true) q w.begins) e))
      (λ k le w. clash st w.plain)

  -- an ACK ends what is waited for
  ended : (r i).start ≡ false → (r i).ack ≡ true → (k : ℕ) → Waited r mark h.from (suc i) k → ⊥
  ended ns a k w =
      below k i w.opened.earlier (λ lt. clash a (w.opened.unanswered i lt (omega arith))) (λ q. clash (subst (λ x. (r x).start ≡ true) q w.opened.starts) ns)

  -- where it is a success, the mark is found
  module _ (k : ℕ) (w : Waited r mark h.from i k) (nr : (r i).reset ≡ false) (ns : (r i).start ≡ false) (a : (r i).ack ≡ true) (t1 : (r i).tm1 ≡ true) (t0 : (r i).tm0 ≡ true) where
    written : FirstWrite r mark h.from k i
    written =
        record {
          behind = w.behind;
          written = record { begins = w.begins; opened = w.opened; alive = nr; plain = ns; ends = a; tm1 = t1; tm0 = t0 };
          none = λ l j le lt v.
              by-test (ltb j i) (λ e. h.none l j le (ltb-true j i e) v)
              (λ e. let z = ltb-false j i e in let y = w.opened.earlier in clash w.opened.starts (v.opened.alone k lt (omega arith)));
        }

    is_there : (n from : ℕ) → Behind r m n from → FirstWrite r (mark_at m n) from k i → MarkAt r m n k i
    is_there _ _ start f = first f
    is_there _ _ (later x) f = next x f

    counted : (span : ℕ) → span ≡ cycle r k → s.found < 32 → SearchIs r m (suc i) (record { spans = set s.spans s.found span; found = s.found + 1; pending = None })
    counted span e room =
        record {
          from = suc i;
          behind = subst (λ n. Behind r m n (suc i)) more (later there);
          reached = omega arith;
          pending = λ l v. let x = v.behind in let y = v.opened.earlier in absurd (omega arith);
          none = λ l j le lt v. let y = v.opened.earlier in absurd (omega arith);
          times = λ p lt. below p s.found (let z : p < suc s.found = omega arith in z)
              (λ less. subst (FoundAt r m (suc i) p) (sym (get_or-set_other s.spans s.found p span 0 (λ q. absurd (omega arith)))) (found-later r m i p (get_or s.spans p 0) (h.times p less)))
              (λ q. subst (λ x. FoundAt r m (suc i) x (get_or (set s.spans s.found span) x 0)) (sym q)
              (record { start = k; ack = i; mark = there; read = omega arith; time = get_or-set_same s.spans s.found span 0 long ∙ e }));
          others = λ p le. get_or-set_other s.spans s.found p span 0 (λ q. absurd (omega arith)) ∙ h.others p (omega arith);
          places = length-set s.spans s.found span ∙ h.places;
        }
      where
        there : MarkAt r m s.found k i
        there = is_there s.found h.from h.behind written

        more : suc s.found ≡ s.found + 1
        more = omega arith

        long : s.found < length s.spans
        long = let z = h.places in omega arith

  after-ack : (w : Option ℕ) → PendingIs r mark h.from i w → s.found < 32 → (r i).reset ≡ false → (r i).start ≡ false → (r i).ack ≡ true → SearchIs r m (suc i) (acked s w ((r i).tm1 && (r i).tm0))
  after-ack None p room nr ns a =
      still None (ended ns a) (λ k le v. p k (record { begins = v.begins; opened = v.opened; behind = le }))
  after-ack (Some span) (k, w, e) room nr ns a =
      choice (SearchIs r m (suc i)) ((r i).tm1 && (r i).tm0)
      (λ both. let t = and_both (r i).tm1 (r i).tm0 both in counted k w nr ns a t.0 t.1 span e room)
      (λ no. still None (ended ns a) (λ l le v. clash (pair v.tm1 v.tm0) no))
    where
      pair : (r i).tm1 ≡ true → (r i).tm0 ≡ true → ((r i).tm1 && (r i).tm0) ≡ true
      pair x y = rw (x, y)

  -- any other record changes nothing
  kept : (w : Option ℕ) → (r i).reset ≡ false → (r i).start ≡ false → (r i).ack ≡ false → PendingIs r mark h.from i w → PendingIs r mark h.from (suc i) w
  kept None nr ns na p = λ k w.
      below k i w.opened.earlier (λ lt. p k (record { begins = w.begins; opened = opened-before r i k w.opened lt; behind = w.behind }))
      (λ q. clash (subst (λ x. (r x).start ≡ true) q w.opened.starts) ns)
  kept (Some span) nr ns na (k, w, e) = (k, record { begins = w.begins; opened = opened-next r i k w.opened nr ns na; behind = w.behind }, e)

  pub search_next : s.found < 32 → SearchIs r m (suc i) (seen_of mark s (r i) (cycle r i))
  unfolding seen_of
  search_next room =
      choice (SearchIs r m (suc i)) (r i).reset after-reset (λ nr.
      choice (SearchIs r m (suc i)) (r i).start
      (λ st. choice (λ (w : Option ℕ). SearchIs r m (suc i) (waiting s w)) (is_start_of mark (r i)) (after-start nr st) (after-other st)) (λ ns.
      choice (SearchIs r m (suc i)) (r i).ack (after-ack s.pending h.pending room nr ns)
      (λ na. still s.pending (kept s.pending nr ns na h.pending) (λ k le w. clash w.ends na))))

-- before the first record
pub search_fresh : (r : Lines) (m : Marks) → SearchIs r m 0 fresh_search
search_fresh r m =
    record {
      from = 0;
      behind = start;
      reached = omega arith;
      pending = λ k w. let z = w.opened.earlier in absurd (omega arith);
      none = λ k j le lt w. absurd (omega arith);
      times = λ p lt. absurd (omega arith);
      others = λ p le. zeros p 32;
      places = refl;
    }
  where
    zeros : (p n : ℕ) → ◌≡◌ {A = ℕ} (get_or (replicate n 0) p 0) 0
    zeros p zero = refl
    zeros zero (suc n) = refl
    zeros (suc p) (suc n) = zeros p n
