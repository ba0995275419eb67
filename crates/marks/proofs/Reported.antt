-- The report of an input is right of its recording. Assumes nothing.
use Prim.Native.Nat.{ℕ, zero, suc, ◌+◌, ◌*◌, ◌≤◌, ◌<◌}
use mathlib.Core.Bool.{Bool, true, false, not, cond, ◌&&◌}
use mathlib.Core.List.{List, []}
use mathlib.Core.Path.{◌≡◌, refl, sym, ap, subst, ◌∙◌}
use mathlib.Core.Logic.{◌⊎◌, inl, inr}
use native.Mathlib.Omega.{arith}
use lib.ListN.{length, take, drop, get_or, length-drop, drop_of_length-le}
use lib.Seq.{length-take-le, drop-drop, take_all}
use lib.Dec.{eqb, ltb, leb}
use borrow.Author.Tests.{eqb-true, eqb-false, ltb-true, ltb-false, lt-ltb, le-ltb, leb-true, leb-false, le-leb}
use Rattle.std.proofs.Common.{Option, None, Some}
use Rattle.basics.proofs.Bools.{choice, by-test, cond-true, cond-false, not-true, and_both, both_and}
use Rattle.record.specs.declared.Record.{Record}
use Rattle.record.specs.Layout.{record_in}
use Rattle.rules.specs.declared.Judge.{Judge}
use Rattle.rules.specs.declared.Tally.{Tally}
use Rattle.rules.specs.declared.Progress.{Progress}
use Rattle.rules.specs.declared.Broken.{Broken}
use Rattle.rules.specs.Recording.{Lines, recording_in, sixteen, gap, cycle}
use Rattle.rules.specs.Run.{taken_in as record_at, from, next_of, run_of, records_in}
use Rattle.rules.specs.State.{is_open, fresh_judge, zero_tally}
use Rattle.rules.specs.Thirteen.{rules, Keeps, Breaks}
use Rattle.rules.specs.Verdict.{most_records, broken_by}
use Rattle.rules.specs.Exact.{span_at}
use Rattle.rules.specs.Names.{rule_in}
use Rattle.rules.proofs.Laws.{fresh-sound, run_sound, run_open}
use Rattle.rules.proofs.Reach.{Before, cycle-sum, Ended, Reached, reached}
use Rattle.rules.proofs.Exactly.{kept-not}
use Rattle.rules.proofs.Places.{below}
use Rattle.rules.proofs.Told.{zero-sound}
use Rattle.feeding.specs.declared.Stop.TheVariants.{Going, AtBreach as Stopped, PastMost}
use Rattle.feeding.specs.declared.Stream.{Stream}
use Rattle.feeding.specs.declared.Ending.{Ending}
use Rattle.feeding.specs.Input.{whole_in, judged_in}
use Rattle.feeding.specs.State.{goes, stream_bounds, taken_in, state_with, state_after, gone_on, feed_of, last_verdict, finish_of, fresh_stream}
use Rattle.feeding.proofs.Bounds.{are_bounds}
use Rattle.feeding.proofs.GoOn.{after-breach, after-past, after-going}
use Rattle.marks.specs.declared.Mark.{Mark}
use Rattle.marks.specs.declared.Marks.{Marks}
use Rattle.marks.specs.declared.Phases.{Phases}
use Rattle.marks.specs.declared.Search.{Search}
use Rattle.marks.specs.declared.Why.{Why}
use Rattle.marks.specs.declared.Why.TheVariants.{Complete, AtBreach, Torn, TooMany, Absent}
use Rattle.marks.specs.Marks.{mark_at, Written, MarkAt, first, next}
use Rattle.marks.specs.Report.{FoundAt, NotYet, Because, Right}
use Rattle.marks.specs.State.{some_marks, named_to, lawful_marks, acked, seen_of, all_found, under_way, rises_to, phases_bounds, with_stream, saw_of, next_seen, rest_kept, fresh_phases, fed_phases, lacking, report_with, report_of}
use Rattle.marks.proofs.Sought.{SearchIs, Behind, start, later, search_next, search_fresh}
use Rattle.marks.proofs.Only.{mark-only, mark-earlier}
use Rattle.marks.proofs.Onward.{Sound, Between, feed_clean, walked, next_over, walked_between, rest_is, one_piece}

-- ---- cycles
cycle-later : (r : Lines) (k i : ℕ) → k ≤ i → cycle r k ≤ cycle r i
cycle-later r k zero le = ap_le (let z : k ≡ 0 = omega arith in z)
  where
    ap_le : k ≡ 0 → cycle r k ≤ 0
    ap_le e = let z : cycle r k ≡ 0 = ap (cycle r) e in omega arith
cycle-later r k (suc i) le =
    below k (suc i) (let z : k < suc (suc i) = omega arith in z)
    (λ lt. let z = cycle-later r k i (let y : k ≤ i = omega arith in y) in let w : cycle r k ≤ cycle r i + gap r (suc i) = omega arith in w)
    (λ e. let z : cycle r k ≡ cycle r (suc i) = ap (cycle r) e in let w : cycle r k ≤ cycle r (suc i) = omega arith in w)

-- ---- the search's promises
-- two marks that are found one after the other are in order,
pub in_order : (r : Lines) (m : Marks) (n p x y : ℕ) → FoundAt r m n p x → FoundAt r m n (suc p) y → x ≤ y
in_order r m n p x y a b =
    let c = mark-earlier r m (suc p) p b.start b.ack b.mark (let z : p ≤ suc p = omega arith in z) in
    let same : a.start ≡ c.start = (mark-only r m p a.start a.ack c.start c.ack a.mark c.mark).0 in
    let order = cycle-later r a.start b.start (let z = c.starts in let w : a.start ≤ b.start = omega arith in w) in
    let t = a.time in
    let u = b.time in
    omega arith

rises : (r : Lines) (m : Marks) (i : ℕ) (s : Search) → SearchIs r m i s → (n : ℕ) → n ≤ s.found → rises_to s.spans n ≡ true
rises r m i s h zero le = refl
rises r m i s h (suc zero) le = refl
rises r m i s h (suc (suc n)) le =
    both_and _ _ (rises r m i s h (suc n) (let z : suc n ≤ s.found = omega arith in z)) (le-leb _ _ (in_order r m i n _ _ (h.times n (let z : n < s.found = omega arith in z)) (h.times (suc n) (let z : suc n < s.found = omega arith in z))))

-- and the next mark is not among the records
pub not_yet : (r : Lines) (m : Marks) (i : ℕ) (s : Search) → SearchIs r m i s → NotYet r m i s.found
not_yet r m i s h k j x lt = go s.found h.from h.behind h.none x
  where
    go : (n from : ℕ) → Behind r m n from → ((l q : ℕ) → from ≤ l → q < i → Written r (mark_at m n) l q → ⊥) → MarkAt r m n k j → ⊥
    go _ _ start none (first w) = none k j w.behind lt w.written
    go _ _ (later {p} y) none (next z w) =
        let same = (mark-only r m p _ _ _ _ y z).1 in
        none k j (subst (λ q. suc q ≤ k) (sym same) w.behind) lt w.written

-- ---- one record after another
-- the last of n records, seen after the others
pub walked_last : (n : ℕ) (p : Phases) (bytes : List ℕ) → walked (suc n) p bytes ≡ next_seen (walked n p bytes) (sixteen bytes n)
walked_last zero p bytes = refl
walked_last (suc n) p bytes =
    let place : 16 + n * 16 ≡ suc n * 16 = omega arith in
    walked_last n (next_seen p (take 16 bytes)) (drop 16 bytes)
    ∙ ap (λ (l : List ℕ). next_seen (walked (suc n) p bytes) (take 16 l)) (drop-drop (n * 16) 16 bytes ∙ ap (λ (i : ℕ). drop i bytes) place)

run_last : (n : ℕ) (p : Progress) (bytes : List ℕ) → run_of p (records_in (suc n) bytes) ≡ next_of (run_of p (records_in n bytes)) (record_at (sixteen bytes n))
run_last zero p bytes = refl
run_last (suc n) p bytes =
    let place : 16 + n * 16 ≡ suc n * 16 = omega arith in
    run_last n (next_of p (record_at (take 16 bytes))) (drop 16 bytes)
    ∙ ap (λ (l : List ℕ). next_of (run_of p (records_in (suc n) bytes)) (record_at (take 16 l))) (drop-drop (n * 16) 16 bytes ∙ ap (λ (i : ℕ). drop i bytes) place)

-- one record judged by itself
record_past : (j : Judge) (t : Tally) (bytes : List ℕ) → length bytes ≡ 16 → t.records ≡ most_records → gone_on j t bytes ≡ state_with PastMost j t []
unfolding gone_on taken_in
record_past j t bytes size most =
    let over : ltb most_records (t.records + whole_in bytes) ≡ true = lt-ltb most_records (t.records + whole_in bytes) (omega arith) in
    let none : taken_in t bytes ≡ 0 = omega arith in
    ap (λ (b : Bool). state_after b (run_of (from j t) (records_in (taken_in t bytes) bytes)) (drop (whole_in bytes * 16) bytes)) over
    ∙ ap (λ (k : ℕ). state_after true (run_of (from j t) (records_in k bytes)) (drop (whole_in bytes * 16) bytes)) none
    ∙ after-past (from j t) (drop (whole_in bytes * 16) bytes) refl

record_judged : (j : Judge) (t : Tally) (bytes : List ℕ) → length bytes ≡ 16 → t.records < most_records → gone_on j t bytes ≡ state_after false (next_of (from j t) (record_at bytes)) []
unfolding gone_on taken_in
record_judged j t bytes size room =
    let under : ltb most_records (t.records + whole_in bytes) ≡ false = le-ltb most_records (t.records + whole_in bytes) (omega arith) in
    let one : taken_in t bytes ≡ 1 = omega arith in
    let none : drop (whole_in bytes * 16) bytes ≡ [] = drop_of_length-le bytes (let z : length bytes ≤ whole_in bytes * 16 = omega arith in z) in
    ap (λ (b : Bool). state_after b (run_of (from j t) (records_in (taken_in t bytes) bytes)) (drop (whole_in bytes * 16) bytes)) under
    ∙ ap (λ (k : ℕ). state_after false (run_of (from j t) (records_in k bytes)) (drop (whole_in bytes * 16) bytes)) one
    ∙ ap (λ (l : List ℕ). state_after false (next_of (from j t) (record_at l)) (drop (whole_in bytes * 16) bytes)) (take_all 16 bytes (omega arith))
    ∙ ap (state_after false (next_of (from j t) (record_at bytes))) none

-- a record finds one mark at most
seen-found : (k : Mark) (s : Search) (r : Record) (span : ℕ) → (seen_of k s r span).found ≤ s.found + 1
unfolding seen_of
seen-found k s r span =
    let P : Search → Type 0 = λ x. x.found ≤ s.found + 1 in
    choice P r.reset (λ _. omega arith) (λ _. choice P r.start (λ _. omega arith) (λ _. choice P r.ack (λ _. acks s.pending) (λ _. omega arith)))
  where
    acks : (w : Option ℕ) → (acked s w (r.tm1 && r.tm0)).found ≤ s.found + 1
    acks None = omega arith
    acks (Some x) = choice (λ (y : Search). y.found ≤ s.found + 1) (r.tm1 && r.tm0) (λ _. omega arith) (λ _. omega arith)

lacks : (count found : ℕ) → found < count → leb count found ≡ false
lacks count found lt = not-true (leb count found) (λ e. let z = leb-true count found e in omega arith)

marks-few : (m : Marks) → lawful_marks m ≡ true → (1 ≤ m.count) × (m.count ≤ 32)
unfolding lawful_marks
marks-few m e =
    let a = and_both (some_marks m) (named_to m m.count) e in
    let b = and_both (leb 1 m.count) (leb m.count 32) a.0 in
    (leb-true 1 m.count b.0, leb-true m.count 32 b.1)

-- what a state within its bounds ends with
abbrev ended_as : Stream → Ending
ended_as s = record { verdict = last_verdict s.stop s.held; tally = s.tally; opened = is_open s.judge.transfer }

module _ (limit : ℕ) (low : 1 ≤ limit) (high : limit ≤ 16) (m : Marks) (lawful : lawful_marks m ≡ true) (bytes : List ℕ) where
  abbrev lines : Lines
  lines = (recording_in bytes).lines

  -- the first i records, judged
  abbrev judged : ℕ → Progress
  judged i = run_of (from (fresh_judge limit) zero_tally) (records_in i bytes)

  before : (i : ℕ) → (judged i).rule ≡ 0 → Before limit (recording_in bytes) i (judged i).judge (judged i).tally
  before i e = go (reached limit bytes i low high)
    where
      go : Reached limit (recording_in bytes) i (judged i) → Before limit (recording_in bytes) i (judged i).judge (judged i).tally
      go h = ends h.ends
        where
          ends : Ended limit (recording_in bytes) i (judged i) h.place → Before limit (recording_in bytes) i (judged i).judge (judged i).tally
          ends (inl x) = subst (λ k. Before limit (recording_in bytes) k (judged i).judge (judged i).tally) x.1 h.before
          ends (inr x) = absurd (x.0 e)

  judged-sound : (i : ℕ) → (judged i).tally.records ≤ most_records → Sound (state_with Going (judged i).judge (judged i).tally [])
  judged-sound i room =
      let h = run_sound (from (fresh_judge limit) zero_tally) i bytes (fresh-sound limit low high) zero-sound in
      (h.judge, (h.tally, room))

  -- ---- a report that is right
  -- from the search behind k records, all of which keep the rules, and from why it stops there
  report_right : (p : Phases) (k : ℕ) (why : Why)
      → p.marks ≡ m → Sound p.stream → p.stream.held < 16 → SearchIs lines m k p.search → p.search.found ≤ m.count
      → p.stream.tally.records ≡ k → k ≤ judged_in bytes → ((i : ℕ) → i < k → Keeps limit (recording_in bytes) i)
      → cond (all_found p) Complete (lacking p.search.found (last_verdict p.stream.stop p.stream.held)) ≡ why
      → Because limit m bytes k p.search.found why
      → (phases_bounds p ≡ true) × Right limit m bytes (report_of p)
  unfolding phases_bounds report_of finish_of
  report_right p k why me sound few search most records within kept we because =
      (bounds, subst (Right limit m bytes) (sym (cond-true _ _ bounds ∙ ap (report_with p) finished)) right)
    where
      inner : stream_bounds p.stream ≡ true
      inner = are_bounds p.stream sound.0 sound.1.0 sound.1.1 few

      bounds : phases_bounds p ≡ true
      bounds =
          both_and _ _ (both_and _ _ (both_and _ _ inner (ap lawful_marks me ∙ lawful)) (le-leb _ _ (let z : p.marks.count ≡ m.count = ap (λ (x : Marks). x.count) me in let y : p.search.found ≤ p.marks.count = omega arith in y)))
          (rises lines m k p.search search p.search.found (let z : p.search.found ≤ p.search.found = omega arith in z))

      finished : finish_of p.stream ≡ ended_as p.stream
      finished = cond-true _ _ inner

      right : Right limit m bytes (report_with p (ended_as p.stream))
      right =
          record {
            within = subst (λ n. n ≤ judged_in bytes) (sym records) within;
            kept = λ i lt. kept i (subst (λ n. i < n) records lt);
            found = λ q lt. subst (λ n. FoundAt lines m n q (get_or p.search.spans q 0)) (sym records) (search.times q lt);
            others = search.others;
            places = search.places;
            diffs = refl;
            why = subst (λ w. Because limit m bytes p.stream.tally.records p.search.found w) (sym we) (subst (λ n. Because limit m bytes n p.search.found why) (sym records) because);
          }

  -- ---- record by record
  abbrev waiting_at : ℕ → Stream
  waiting_at i = state_with Going (judged i).judge (judged i).tally []

  -- where a rule is broken
  abbrev broken_at : ℕ → Broken
  broken_at i = broken_by (judged i)

  -- i records are read, all keep the rules, and a mark is missing still
  record Looking (i : ℕ) (p : Phases) : Type 0 where
    marks : p.marks ≡ m
    stream : p.stream ≡ waiting_at i
    unbroken : (judged i).rule ≡ 0
    search : SearchIs lines m i p.search
    lacking : p.search.found < m.count
    within : i ≤ most_records

  -- nothing more is looked at, and the report is right
  abbrev Over : Phases → Type 0
  Over p = (under_way p ≡ false) × ((phases_bounds p ≡ true) × Right limit m bytes (report_of p))

  module _ (i : ℕ) (p : Phases) (h : Looking i p) (lt : i < whole_in bytes) where
    abbrev b : List ℕ
    b = sixteen bytes i

    abbrev now : Before limit (recording_in bytes) i (judged i).judge (judged i).tally
    now = before i h.unbroken

    size : length b ≡ 16
    size = length-take-le 16 (drop (i * 16) bytes) (let z = length-drop (i * 16) bytes in let y : 16 ≤ length (drop (i * 16) bytes) = omega arith in y)

    missing : all_found p ≡ false
    missing = lacks p.marks.count p.search.found (let z : p.marks.count ≡ m.count = ap (λ (x : Marks). x.count) h.marks in let y = h.lacking in omega arith)

    -- the judge's state behind the record
    fed : feed_of p.stream b ≡ gone_on (judged i).judge (judged i).tally b
    fed = ap (λ (s : Stream). feed_of s b) h.stream ∙ feed_clean (waiting_at i) b refl refl

    seen : (s : Stream) → gone_on (judged i).judge (judged i).tally b ≡ s → next_seen p b ≡ saw_of p s (record_in b)
    unfolding next_seen under_way
    seen s e =
        cond-true _ _ (both_and _ _ (ap (λ (x : Stream). goes x.stop) h.stream) (ap not missing)) ∙ ap (λ (x : Stream). saw_of p x (record_in b)) (fed ∙ e)

    seen-ended : (s : Stream) → gone_on (judged i).judge (judged i).tally b ≡ s → goes s.stop ≡ false → next_seen p b ≡ with_stream p s
    unfolding saw_of
    seen-ended s e stops = seen s e ∙ cond-false _ _ stops

    -- one record too many
    past : i ≡ most_records → Over (next_seen p b)
    unfolding under_way judged_in
    past e =
        let t = (judged i).tally in
        let here = seen-ended (state_with PastMost (judged i).judge t []) (record_past (judged i).judge t b size (now.totals.records ∙ e)) refl in
        subst Over (sym here) (
          refl,
          report_right (with_stream p (state_with PastMost (judged i).judge t [])) i TooMany h.marks (judged-sound i (let z = now.totals.records in omega arith)) (omega arith) h.search (let z = h.lacking in omega arith)
              now.totals.records (omega arith) now.good (cond-false _ _ missing) ((h.lacking, not_yet lines m i p.search h.search), e, omega arith),
        )

    next-judged : next_of (from (judged i).judge (judged i).tally) (record_at b) ≡ judged (suc i)
    next-judged = ap (λ (x : Progress). next_of x (record_at b)) (sym (run_open (fresh_judge limit) zero_tally (records_in i bytes) h.unbroken)) ∙ sym (run_last i (from (fresh_judge limit) zero_tally) bytes)

    module _ (room : i < most_records) where
      gone : gone_on (judged i).judge (judged i).tally b ≡ state_after false (judged (suc i)) []
      gone = record_judged (judged i).judge (judged i).tally b size (let z = now.totals.records in omega arith) ∙ ap (λ (x : Progress). state_after false x []) next-judged

      -- a breach
      breach : ((judged (suc i)).rule ≡ 0 → ⊥) → Over (next_seen p b)
      unfolding under_way judged_in
      breach ne = go (reached limit bytes (suc i) low high)
        where
          over : (judged (suc i)).tally.records ≡ i → Breaks limit (recording_in bytes) i (rule_in (broken_at (suc i))) → (judged (suc i)).span ≡ span_at lines i (judged (suc i)).rule → Over (next_seen p b)
          over records breaks span =
              subst Over (sym (seen-ended (state_with (Stopped (broken_at (suc i))) (judged (suc i)).judge (judged (suc i)).tally []) (gone ∙ after-breach false (judged (suc i)) [] ne) refl)) (
                refl,
                report_right (with_stream p (state_with (Stopped (broken_at (suc i))) (judged (suc i)).judge (judged (suc i)).tally [])) i (AtBreach (broken_at (suc i))) h.marks (judged-sound (suc i) (omega arith)) (omega arith) h.search (let z = h.lacking in omega arith)
                    records (omega arith) now.good (cond-false _ _ missing) ((h.lacking, not_yet lines m i p.search h.search), omega arith, records, breaks, span),
              )

          go : Reached limit (recording_in bytes) (suc i) (judged (suc i)) → Over (next_seen p b)
          go x = ends x.ends
            where
              ends : Ended limit (recording_in bytes) (suc i) (judged (suc i)) x.place → Over (next_seen p b)
              ends (inl y) = absurd (ne y.0)
              ends (inr y) =
                  below x.place i y.1
                  (λ less. absurd (kept-not (rules limit (recording_in bytes) x.place) (rule_in (broken_at (suc i))) (now.good x.place less) y.2))
                  (λ e. over (x.before.totals.records ∙ e) (subst (λ k. Breaks limit (recording_in bytes) k (rule_in (broken_at (suc i)))) e y.2) (subst (λ k. (judged (suc i)).span ≡ span_at lines k (judged (suc i)).rule) e y.3))

      -- a record that keeps the rules is seen by the search
      module _ (e : (judged (suc i)).rule ≡ 0) where
        abbrev after : Phases
        after = record { stream = waiting_at (suc i); marks = p.marks; search = seen_of (mark_at m p.search.found) p.search (lines i) (cycle lines i) }

        next_is : next_seen p b ≡ after
        unfolding saw_of
        next_is =
            let span : (judged (suc i)).tally.span ≡ cycle lines i = (before (suc i) e).totals.span ∙ sym (cycle-sum lines i) in
            seen (waiting_at (suc i)) (gone ∙ after-going (judged (suc i)) [] e)
            ∙ ap (λ (x : ℕ). record { stream = waiting_at (suc i); marks = p.marks; search = seen_of (mark_at p.marks p.search.found) p.search (lines i) x }) span
            ∙ ap (λ (x : Marks). record { stream = waiting_at (suc i); marks = p.marks; search = seen_of (mark_at x p.search.found) p.search (lines i) (cycle lines i) }) h.marks

        searched : SearchIs lines m (suc i) after.search
        searched = search_next lines m i p.search h.search (let z = h.lacking in let y = (marks-few m lawful).1 in omega arith)

        one_more : after.search.found ≤ p.search.found + 1
        one_more = seen-found (mark_at m p.search.found) p.search (lines i) (cycle lines i)

        -- the last mark's ACK is this record: it was not found before it
        complete : m.count ≤ after.search.found → Because limit m bytes (suc i) after.search.found Complete
        complete all =
            let f = h.lacking in
            let o = one_more in
            let x = searched.times p.search.found (omega arith) in
            let here : x.ack ≡ i = below x.ack i x.read (λ less. absurd (not_yet lines m i p.search h.search x.start x.ack x.mark less)) (λ q. q) in
            (omega arith, record { place = p.search.found; start = x.start; ack = x.ack; last = omega arith; mark = x.mark; here = omega arith })

        good : Looking (suc i) (next_seen p b) ⊎ Over (next_seen p b)
        unfolding under_way judged_in
        good =
            let count : p.marks.count ≡ m.count = ap (λ (x : Marks). x.count) h.marks in
            let o = one_more in
            let f = h.lacking in
            let k = before (suc i) e in
            by-test (leb m.count after.search.found)
            (λ all. let le = leb-true m.count after.search.found all in
            let found : all_found after ≡ true = ap (λ (x : ℕ). leb x after.search.found) count ∙ all in
            inr (subst Over (sym next_is) (
              ap not found,
              report_right after (suc i) Complete h.marks (judged-sound (suc i) (let z = k.totals.records in omega arith)) (omega arith) searched (omega arith)
                  k.totals.records (omega arith) k.good (cond-true _ _ found) (complete le),
            )))
            (λ some. let less = leb-false m.count after.search.found some in
            inl (subst (Looking (suc i)) (sym next_is) (record { marks = h.marks; stream = refl; unbroken = e; search = searched; lacking = less; within = room })))

      step_within : Looking (suc i) (next_seen p b) ⊎ Over (next_seen p b)
      step_within = by-test (eqb (judged (suc i)).rule 0) (λ e. good (eqb-true _ 0 e)) (λ e. inr (breach (eqb-false _ 0 e)))

    step : Looking (suc i) (next_seen p b) ⊎ Over (next_seen p b)
    step = by-test (ltb i most_records) (λ e. step_within (ltb-true i most_records e)) (λ e. inr (past (let z = ltb-false i most_records e in let y = h.within in omega arith)))

  -- ---- all records, and the rest
  fresh_looks : Looking 0 (fresh_phases limit m)
  unfolding fresh_phases fresh_stream
  fresh_looks =
      record { marks = refl; stream = refl; unbroken = refl; search = search_fresh lines m; lacking = (let z = (marks-few m lawful).0 in omega arith); within = omega arith }

  stands : (i : ℕ) → i ≤ whole_in bytes → Looking i (walked i (fresh_phases limit m) bytes) ⊎ Over (walked i (fresh_phases limit m) bytes)
  stands zero le = inl fresh_looks
  stands (suc i) le = go (stands i (let z : i ≤ whole_in bytes = omega arith in z))
    where
      same : walked (suc i) (fresh_phases limit m) bytes ≡ next_seen (walked i (fresh_phases limit m) bytes) (sixteen bytes i)
      same = walked_last i (fresh_phases limit m) bytes

      go : Looking i (walked i (fresh_phases limit m) bytes) ⊎ Over (walked i (fresh_phases limit m) bytes) → Looking (suc i) (walked (suc i) (fresh_phases limit m) bytes) ⊎ Over (walked (suc i) (fresh_phases limit m) bytes)
      go (inl h) = subst (λ q. Looking (suc i) q ⊎ Over q) (sym same) (step i (walked i (fresh_phases limit m) bytes) h (let z : i < whole_in bytes = omega arith in z))
      go (inr h) = inr (subst Over (sym (same ∙ next_over (walked i (fresh_phases limit m) bytes) (sixteen bytes i) h.0)) h)

  begins : under_way (fresh_phases limit m) ≡ true
  unfolding fresh_phases fresh_stream under_way
  begins = ap not (lacks m.count 0 (let z = (marks-few m lawful).0 in let y : 0 < m.count = omega arith in y))

  pub begins-sound : Sound (fresh_phases limit m).stream
  unfolding fresh_phases fresh_stream
  begins-sound = (fresh-sound limit low high, (zero-sound, omega arith))

  begins_between : Between (fresh_phases limit m)
  unfolding fresh_phases fresh_stream
  begins_between = record { clean = refl; sound = begins-sound }

  -- an empty piece changes nothing
  pub fed-empty : fed_phases (fresh_phases limit m) [] ≡ fresh_phases limit m
  unfolding fresh_phases fresh_stream
  fed-empty = one_piece (fresh_phases limit m) begins-sound [] [] begins ∙ rest_is (fresh_phases limit m) [] (omega arith) begins_between begins

  abbrev all_read : Phases
  all_read = walked (whole_in bytes) (fresh_phases limit m) bytes

  abbrev left : List ℕ
  left = drop (whole_in bytes * 16) bytes

  -- the input's end, with a mark missing
  module _ (h : Looking (whole_in bytes) all_read) where
    abbrev waits : Phases
    waits = with_stream all_read (state_with Going (judged (whole_in bytes)).judge (judged (whole_in bytes)).tally left)

    few : length left < 16
    few = let c = length-drop (whole_in bytes * 16) bytes in let z : length left < 16 = omega arith in z

    lack : all_found all_read ≡ false
    lack = lacks all_read.marks.count all_read.search.found (let z : all_read.marks.count ≡ m.count = ap (λ (x : Marks). x.count) h.marks in let y = h.lacking in omega arith)

    waits-right : (phases_bounds waits ≡ true) × Right limit m bytes (report_of waits)
    unfolding judged_in
    waits-right =
        let n : ℕ = whole_in bytes in
        let now = before n h.unbroken in
        let c = length-drop (n * 16) bytes in
        let w = h.within in
        let sound = judged-sound n (let z = now.totals.records in omega arith) in
        let notyet = not_yet lines m n all_read.search h.search in
        let lt = h.lacking in
        by-test (eqb (length left) 0)
        (λ e. report_right waits n (Absent all_read.search.found) h.marks sound few h.search (omega arith) now.totals.records (omega arith) now.good
        (cond-false _ _ lack ∙ ap (lacking all_read.search.found) (cond-true _ _ e)) ((lt, notyet), refl, (let z = eqb-true (length left) 0 e in omega arith), refl))
        (λ e. report_right waits n Torn h.marks sound few h.search (omega arith) now.totals.records (omega arith) now.good
        (cond-false _ _ lack ∙ ap (lacking all_read.search.found) (cond-false _ _ e)) ((lt, notyet), refl, (λ z. eqb-false (length left) 0 e (omega arith))))

  -- WHAT IS FED IS WITHIN BOUNDS, AND ITS REPORT IS RIGHT
  pub fed-right : (phases_bounds (fed_phases (fresh_phases limit m) bytes) ≡ true) × Right limit m bytes (report_of (fed_phases (fresh_phases limit m) bytes))
  unfolding fresh_phases fresh_stream rest_kept under_way
  fed-right = go (stands (whole_in bytes) (let z : whole_in bytes ≤ whole_in bytes = omega arith in z))
    where
      fed : fed_phases (fresh_phases limit m) bytes ≡ rest_kept all_read left
      fed = one_piece (fresh_phases limit m) begins-sound bytes [] begins

      go : Looking (whole_in bytes) all_read ⊎ Over all_read → (phases_bounds (fed_phases (fresh_phases limit m) bytes) ≡ true) × Right limit m bytes (report_of (fed_phases (fresh_phases limit m) bytes))
      go (inl h) =
          let on : under_way all_read ≡ true = both_and _ _ (ap (λ (x : Stream). goes x.stop) h.stream) (ap not (lack h)) in
          let between = walked_between (whole_in bytes) (fresh_phases limit m) bytes (omega arith) begins_between in
          subst (λ q. (phases_bounds q ≡ true) × Right limit m bytes (report_of q))
          (sym (fed ∙ rest_is all_read left (few h) between on ∙ ap (λ (x : Stream). with_stream all_read (state_with Going x.judge x.tally left)) h.stream))
          (waits-right h)
      go (inr h) = subst (λ q. (phases_bounds q ≡ true) × Right limit m bytes (report_of q)) (sym (fed ∙ cond-false _ _ h.0)) h.1
