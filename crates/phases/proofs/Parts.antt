-- Many records judged at once, and only the last of them seen, is as record by record where the others do not matter. Assumes nothing.
use Prim.Native.Nat.{ℕ, zero, suc, ◌+◌, ◌-◌, ◌*◌, ◌/◌, ◌%◌, ◌≤◌, ◌<◌}
use mathlib.Core.Bool.{Bool, true, false, not, cond, ◌&&◌, ◌||◌}
use mathlib.Core.List.{List, [], ◌∷◌, ◌++◌, append_assoc, append-nil}
use mathlib.Core.Logic.{◌⊎◌, inl, inr}
use mathlib.Core.Path.{◌≡◌, refl, sym, ap, subst, ◌∙◌}
use native.Mathlib.Omega.{arith}
use lib.ListN.{length, take, drop, get_or, set, replicate, length-append, length-drop, take-append-drop, drop_of_length-le}
use lib.Seq.{length-take-le, take_all, take-add, take-suc, take-take, take-nil, drop-drop, set_at}
use lib.Dec.{eqb, leb}
use borrow.Author.Tests.{leb-true, leb-false, le-leb, eq-eqb}
use Rattle.basics.proofs.Bools.{choice, by-test, cond-true, cond-false, and_both, both_and}
use Rattle.std.proofs.Common.{Option, None, Some}
use Rattle.record.specs.declared.Record.{Record}
use Rattle.record.specs.Layout.{record_in}
use Rattle.record.specs.Packing.{lines_of}
use Rattle.rules.specs.Recording.{recording_in, sixteen}
use Rattle.rules.specs.Bounds.{SoundJudge, SoundTally}
use Rattle.rules.specs.Verdict.{most_records}
use Rattle.rules.proofs.Places.{clash, off_iff}
use Rattle.judge.proofs.Runs.{rest_is}
use Rattle.feeding.specs.declared.Stream.{Stream}
use Rattle.feeding.specs.declared.Stop.{Stop}
use Rattle.feeding.specs.declared.Stop.TheVariants.{Going}
use Rattle.feeding.specs.Input.{whole_in}
use Rattle.feeding.specs.State.{goes, padded, torn_of, state_with, gone_on, feed_of, stream_bounds}
use Rattle.feeding.proofs.Bounds.{bounds_are, are_bounds}
use Rattle.feeding.proofs.GoOn.{feed_ended, feed_more}
use Rattle.marks.specs.declared.Mark.{Mark}
use Rattle.marks.specs.declared.Marks.{Marks}
use Rattle.marks.specs.declared.Phases.{Phases}
use Rattle.marks.specs.declared.Search.{Search}
use Rattle.marks.specs.Marks.{mark_at, is_start_of}
use Rattle.marks.specs.State.{waiting, acked, seen_of, all_found, under_way, with_stream, saw_of, next_seen, rest_kept, gone_through, untorn, fed_phases}
use Rattle.marks.proofs.Onward.{Clean, Sound, Between, feed_clean, gone_rest, going_is, clean_held, walked, through_more, walked_between, rest-none, fed_over, more, fed-fits, fed-whole}
use Rattle.marks.proofs.Reported.{walked_last}
use Rattle.phases.specs.Parts.{Fit, Dull, is_waiting, matters, matters_to, Reaches}
use Rattle.phases.proofs.Looks.{lines_at}

-- ---- the judge's state
-- a piece after a piece
pub feed_feed : (s : Stream) (a b : List ℕ) → Sound s → feed_of (feed_of s a) b ≡ feed_of s (a ++ b)
unfolding feed_of
feed_feed s a b sound =
    by-test (goes s.stop)
    (λ g. ap (λ (x : Stream). feed_of x b) (cond-true _ _ g)
    ∙ feed_more s.judge s.tally sound.1.1 (torn_of s ++ a) b
    ∙ ap (gone_on s.judge s.tally) (append_assoc (torn_of s) a b)
    ∙ sym (cond-true _ _ g))
    (λ g. ap (λ (x : Stream). feed_of x b) (feed_ended s a g) ∙ feed_ended s b g ∙ sym (feed_ended s (a ++ b) g))

feed_none : (s : Stream) → Clean s → Sound s → feed_of s [] ≡ s
feed_none s c sound =
    by-test (goes s.stop)
    (λ g. feed_clean s [] g (clean_held s c) ∙ gone_rest s.judge s.tally [] (omega arith) sound.1.1 ∙ ap (λ (x : Stop). state_with x s.judge s.tally []) (sym (going_is s.stop g)) ∙ sym c)
    (λ g. feed_ended s [] g)

-- ---- a record that does not matter
pub dull-same : (m : Mark) (s : Search) (r : Record) (span : ℕ) → matters m (is_waiting s.pending) r ≡ false → seen_of m s r span ≡ s
unfolding matters seen_of
dull-same m s r span = go s.pending refl
  where
    none : (a b c : Bool) → (a || b || c) ≡ false → (a ≡ false) × ((b ≡ false) × (c ≡ false))
    none false false false e = (refl, (refl, refl))
    none true b c e = clash refl e
    none false true c e = clash refl e
    none false false true e = clash refl e

    go : (w : Option ℕ) → s.pending ≡ w → matters m (is_waiting s.pending) r ≡ false → seen_of m s r span ≡ s
    go None pe e =
        let off : is_start_of m r ≡ false = sym (ap (λ (x : Option ℕ). matters m (is_waiting x) r) pe) ∙ e in
        let same : waiting s None ≡ s = ap (waiting s) (sym pe) in
        choice (λ (x : Search). x ≡ s) r.reset (λ _. same) (λ _.
        choice (λ (x : Search). x ≡ s) r.start (λ _. ap (λ (b : Bool). waiting s (cond b (Some span) None)) off ∙ same) (λ _.
        choice (λ (x : Search). x ≡ s) r.ack (λ _. ap (λ (x : Option ℕ). acked s x (r.tm1 && r.tm0)) pe ∙ same) (λ _. refl)))
    go (Some x) pe e =
        let h = none r.reset r.start r.ack (sym (ap (λ (y : Option ℕ). matters m (is_waiting y) r) pe) ∙ e) in
        cond-false _ _ h.0 ∙ cond-false _ _ h.1.0 ∙ cond-false _ _ h.1.1

-- a record of the first n bytes is one of all
sixteen-front : (l : List ℕ) (n i : ℕ) → suc i * 16 ≤ n → sixteen (take n l) i ≡ sixteen l i
sixteen-front l n i le =
    let m : n ≡ i * 16 + (n - i * 16) = omega arith in
    ap (λ (k : ℕ). take 16 (drop (i * 16) (take k l))) m
    ∙ ap (take 16) (drop-take (i * 16) (n - i * 16) l)
    ∙ take-take 16 (n - i * 16) (drop (i * 16) l) (omega arith)
  where
    drop-take : (a b : ℕ) (x : List ℕ) → drop a (take (a + b) x) ≡ take b (drop a x)
    drop-take zero b x = ap (λ (k : ℕ). take k x) (let z : 0 + b ≡ b = omega arith in z)
    drop-take (suc a) b [] = ap (drop (suc a)) (take-nil (suc a + b)) ∙ sym (take-nil b)
    drop-take (suc a) b (y ∷ ys) = ap (λ (k : ℕ). drop (suc a) (take k (y ∷ ys))) (let z : suc a + b ≡ suc (a + b) = omega arith in z) ∙ drop-take a b ys

module _ (p : Phases) (b : Between p) (missing : all_found p ≡ false) (bytes : List ℕ) where
  -- after some bytes that the search did not see, the record at place k is seen or not: the judge has its bytes in any case
  abbrev behind : ℕ → Stream
  behind k = feed_of p.stream (take (k * 16) bytes)

  with_record : (k : ℕ) → feed_of (behind k) (sixteen bytes k) ≡ behind (suc k)
  with_record k =
      let place : k * 16 + 16 ≡ suc k * 16 = omega arith in
      feed_feed p.stream (take (k * 16) bytes) (sixteen bytes k) b.sound
      ∙ ap (feed_of p.stream) (sym (take-add (k * 16) 16 bytes) ∙ ap (λ (i : ℕ). take i bytes) place)

  -- seen: by what the judge makes of it
  next_saw : (k : ℕ) → next_seen (with_stream p (behind k)) (sixteen bytes k) ≡ saw_of p (behind (suc k)) (record_in (sixteen bytes k))
  unfolding next_seen under_way saw_of
  next_saw k =
      by-test (goes (behind k).stop)
      (λ g. cond-true _ _ (both_and _ _ g (ap not missing)) ∙ ap (λ (s : Stream). saw_of p s (record_in (sixteen bytes k))) (with_record k))
      (λ g. let same : behind (suc k) ≡ behind k = sym (with_record k) ∙ feed_ended (behind k) (sixteen bytes k) g in
      cond-false _ _ (ap (λ (x : Bool). x && not (all_found p)) g)
      ∙ sym (ap (λ (s : Stream). saw_of p s (record_in (sixteen bytes k))) same ∙ cond-false _ _ g))

  -- not seen, where it does not matter
  next-dull : (k : ℕ) → matters_to p ((recording_in bytes).lines k) ≡ false → next_seen (with_stream p (behind k)) (sixteen bytes k) ≡ with_stream p (behind (suc k))
  unfolding saw_of
  next-dull k dull =
      next_saw k
      ∙ choice (λ (x : Phases). x ≡ with_stream p (behind (suc k))) (goes (behind (suc k)).stop)
      (λ _. ap (λ (s : Search). record { stream = behind (suc k); marks = p.marks; search = s }) (dull-same (mark_at p.marks p.search.found) p.search (record_in (sixteen bytes k)) (behind (suc k)).tally.span dull))
      (λ _. refl)

  pub dull_walk : (k : ℕ) → ((i : ℕ) → i < k → matters_to p ((recording_in bytes).lines i) ≡ false) → walked k p bytes ≡ with_stream p (behind k)
  dull_walk zero dull = ap (with_stream p) (sym (feed_none p.stream b.clean b.sound))
  dull_walk (suc k) dull =
      walked_last k p bytes
      ∙ ap (λ (q : Phases). next_seen q (sixteen bytes k)) (dull_walk k (λ i lt. dull i (omega arith)))
      ∙ next-dull k (dull k (omega arith))

  -- the last of k + 1 records is seen
  last_saw : (k : ℕ) → length bytes ≡ suc k * 16 → ((i : ℕ) → i < k → matters_to p ((recording_in bytes).lines i) ≡ false)
      → gone_through (suc k) p bytes ≡ saw_of p (feed_of p.stream bytes) (record_in (sixteen bytes k))
  last_saw k size dull =
      let none : drop (suc k * 16) bytes ≡ [] = drop_of_length-le bytes (let z : length bytes ≤ suc k * 16 = omega arith in z) in
      ap (λ (n : ℕ). gone_through n p bytes) (let z : suc k ≡ suc k + 0 = omega arith in z)
      ∙ through_more (suc k) 0 p bytes
      ∙ ap (rest_kept (walked (suc k) p bytes)) none
      ∙ rest-none (walked (suc k) p bytes) (walked_between (suc k) p bytes (omega arith) b)
      ∙ walked_last k p bytes
      ∙ ap (λ (q : Phases). next_seen q (sixteen bytes k)) (dull_walk k dull)
      ∙ next_saw k
      ∙ ap (λ (l : List ℕ). saw_of p (feed_of p.stream l) (record_in (sixteen bytes k))) (take_all (suc k * 16) bytes (omega arith))

  -- no record is seen
  none_saw : ((i : ℕ) → i < whole_in bytes → matters_to p ((recording_in bytes).lines i) ≡ false)
      → gone_through (whole_in bytes) p bytes ≡ with_stream p (feed_of p.stream bytes)
  unfolding rest_kept under_way
  none_saw dull =
      let n : ℕ = whole_in bytes in
      let all : feed_of (behind n) (drop (n * 16) bytes) ≡ feed_of p.stream bytes = feed_feed p.stream (take (n * 16) bytes) (drop (n * 16) bytes) b.sound ∙ ap (feed_of p.stream) (take-append-drop (n * 16) bytes) in
      ap (λ (k : ℕ). gone_through k p bytes) (let z : n ≡ n + 0 = omega arith in z)
      ∙ through_more n 0 p bytes
      ∙ ap (λ (q : Phases). rest_kept q (drop (n * 16) bytes)) (dull_walk n dull)
      ∙ by-test (goes (behind n).stop)
      (λ g. cond-true _ _ (both_and _ _ g (ap not missing)) ∙ ap (with_stream p) all)
      (λ g. cond-false _ _ (ap (λ (x : Bool). x && not (all_found p)) g) ∙ ap (with_stream p) (sym (feed_ended (behind n) (drop (n * 16) bytes) g) ∙ all))

-- ---- a part of a piece
module _ (p : Phases) (fit : Fit p) (on : under_way p ≡ true) where
  abbrev s : Stream
  s = p.stream

  facts : SoundJudge s.judge × (SoundTally s.tally × ((s.tally.records ≤ most_records) × (s.held < 16)))
  facts = bounds_are s fit.0

  pub sound : Sound s
  sound = (facts.0, (facts.1.0, facts.1.1.0))

  pub few : s.held < 16
  few = facts.1.1.1

  going : goes s.stop ≡ true
  unfolding under_way
  going = (and_both (goes s.stop) (not (all_found p)) on).0

  missing : all_found p ≡ false
  unfolding under_way
  missing = (off_iff (all_found p)).0 (and_both (goes s.stop) (not (all_found p)) on).1

  pub found-few : p.search.found < 32
  found-few = let z = leb-false p.marks.count p.search.found missing in let y = fit.1 in omega arith

  between : Between (untorn p)
  between = record { clean = refl; sound = sound }

  -- the judge's state, fed with a piece behind what it holds, or with both where it holds nothing
  fed-untorn : (x : List ℕ) → feed_of (untorn p).stream (torn_of s ++ x) ≡ feed_of s x
  unfolding feed_of
  fed-untorn x = cond-true _ _ going ∙ sym (cond-true _ _ going)

  fed_is : (x : List ℕ) → fed_phases p x ≡ gone_through (whole_in (torn_of s ++ x)) (untorn p) (torn_of s ++ x)
  unfolding fed_phases
  fed_is x = cond-true _ _ on

  -- what the judge's call answers

  -- k + 1 records, of which the last is seen
  seen_last : (x : List ℕ) (k : ℕ) → length (torn_of s ++ x) ≡ suc k * 16
      → ((i : ℕ) → i < k → matters_to p ((recording_in (torn_of s ++ x)).lines i) ≡ false)
      → fed_phases p x ≡ saw_of p (feed_of s x) (record_in (sixteen (torn_of s ++ x) k))
  unfolding saw_of
  seen_last x k size dull =
      fed_is x
      ∙ ap (λ (n : ℕ). gone_through n (untorn p) (torn_of s ++ x)) (let z : whole_in (torn_of s ++ x) ≡ suc k = omega arith in z)
      ∙ last_saw (untorn p) between missing (torn_of s ++ x) k size dull
      ∙ ap (λ (y : Stream). saw_of p y (record_in (sixteen (torn_of s ++ x) k))) (fed-untorn x)

  -- none is seen
  seen_none : (x : List ℕ)
      → ((i : ℕ) → i < whole_in (torn_of s ++ x) → matters_to p ((recording_in (torn_of s ++ x)).lines i) ≡ false)
      → fed_phases p x ≡ with_stream p (feed_of s x)
  seen_none x dull = fed_is x ∙ none_saw (untorn p) between missing (torn_of s ++ x) dull ∙ ap (with_stream p) (fed-untorn x)

  -- ---- `advance`
  module _ (zero_held : s.held ≡ 0) (part : List ℕ) (dull : Dull p part) where
    nothing-torn : torn_of s ++ part ≡ part
    nothing-torn = ap (λ (k : ℕ). take k s.torn ++ part) zero_held

    pub advanced_whole : (next : Stream) (r : Record) (x : Phases) → length part % 16 ≡ 0 → 16 ≤ length part
        → next ≡ feed_of s part → r ≡ lines_of (take (length part - (length part - 16)) (drop (length part - 16) part)) → x ≡ saw_of p next r → x ≡ fed_phases p part
    advanced_whole next r x even long ne re xe =
        let k : ℕ = length part / 16 - 1 in
        let size : length part ≡ suc k * 16 = omega arith in
        let place : length part - 16 ≡ k * 16 = omega arith in
        let last : r ≡ record_in (sixteen part k) = lines_at part k r (let z : k < length part / 16 = omega arith in z)
        (re ∙ ap (λ (i : ℕ). lines_of (take (length part - i) (drop i part))) place ∙ ap (λ (i : ℕ). lines_of (take i (drop (k * 16) part))) (let z : length part - k * 16 ≡ k * 16 + 16 - k * 16 = omega arith in z)) in
        xe
        ∙ ap (λ (y : Stream). saw_of p y r) ne
        ∙ ap (saw_of p (feed_of s part)) (last ∙ ap (λ (l : List ℕ). record_in (sixteen l k)) (sym nothing-torn))
        ∙ sym (seen_last part k (ap length nothing-torn ∙ size) (λ i lt. ap (λ (l : List ℕ). matters_to p ((recording_in l).lines i)) nothing-torn ∙ dull i (omega arith)))

    pub advanced_rest : (next : Stream) (x : Phases) → (eqb (length part % 16) 0 && leb 16 (length part)) ≡ false → next ≡ feed_of s part → x ≡ with_stream p next → x ≡ fed_phases p part
    advanced_rest next x odd ne xe =
        xe ∙ ap (with_stream p) ne
        ∙ sym (seen_none part (λ i lt. ap (λ (l : List ℕ). matters_to p ((recording_in l).lines i)) nothing-torn
        ∙ dull i (behind_it i (subst (λ (l : List ℕ). i < whole_in l) nothing-torn lt) odd)))
      where
        behind_it : (i : ℕ) → i < length part / 16 → (eqb (length part % 16) 0 && leb 16 (length part)) ≡ false → suc i * 16 < length part
        behind_it i lt e =
            by-test (leb (length part) (suc i * 16))
            (λ le. let z = leb-true (length part) (suc i * 16) le in
            clash (both_and _ _ (eq-eqb (length part % 16) 0 (omega arith)) (le-leb 16 (length part) (omega arith))) e)
            (leb-false (length part) (suc i * 16))

  -- ---- `first_record`
  module _ (array : length s.torn ≡ 16) (piece : List ℕ) (long : 16 - s.held ≤ length piece) where
    -- the torn record but for its last byte
    abbrev nearly : List ℕ
    nearly = torn_of s ++ take (15 - s.held) piece

    nearly_size : length nearly ≡ 15
    nearly_size =
        let f = few in
        let a = length-append (torn_of s) (take (15 - s.held) piece) in
        let b = length-take-le s.held s.torn (omega arith) in
        let c = length-take-le (15 - s.held) piece (omega arith) in
        omega arith

    waits_is : (f : Stream) → f ≡ feed_of s (take (15 - s.held) piece) → f ≡ state_with Going s.judge s.tally nearly
    unfolding feed_of
    waits_is f e =
        e ∙ cond-true _ _ going ∙ gone_rest s.judge s.tally nearly (let z = nearly_size in omega arith) sound.1.1

    -- all of it
    abbrev front : List ℕ
    front = take (16 - s.held) piece

    front_is : take (15 - s.held) piece ++ (get_or piece (15 - s.held) 0 ∷ []) ≡ front
    front_is = let f = few in sym (take-suc piece (15 - s.held) 0 (omega arith)) ∙ ap (λ (k : ℕ). take k piece) (let z : suc (15 - s.held) ≡ 16 - s.held = omega arith in z)

    whole_is : (f : Stream) → f ≡ feed_of s (take (15 - s.held) piece) → set f.torn 15 (get_or piece (15 - s.held) 0) ≡ torn_of s ++ front
    unfolding padded
    whole_is f e =
        let x : ℕ = get_or piece (15 - s.held) 0 in
        ap (λ (y : Stream). set y.torn 15 x) (waits_is f e)
        ∙ ap (λ (k : ℕ). set (nearly ++ replicate k 0) 15 x) (let z = nearly_size in let w : 16 - length nearly ≡ 1 = omega arith in w)
        ∙ set_at nearly 0 [] x 15 nearly_size
        ∙ append_assoc (torn_of s) (take (15 - s.held) piece) (x ∷ [])
        ∙ ap (λ (l : List ℕ). torn_of s ++ l) front_is

    pub waits_bounds : (f : Stream) → f ≡ feed_of s (take (15 - s.held) piece) → stream_bounds f ≡ true
    waits_bounds f e =
        ap stream_bounds (waits_is f e) ∙ are_bounds (state_with Going s.judge s.tally nearly) sound.0 sound.1.0 sound.1.1 (let h = few in let z = nearly_size in omega arith)

    done_is : (f g : Stream) → f ≡ feed_of s (take (15 - s.held) piece) → g ≡ feed_of f (take (15 - s.held + 1 - (15 - s.held)) (drop (15 - s.held) piece)) → g ≡ feed_of s front
    done_is f g fe ge =
        let h = few in
        ge
        ∙ ap (λ (y : Stream). feed_of y (take (15 - s.held + 1 - (15 - s.held)) (drop (15 - s.held) piece))) fe
        ∙ ap (λ (k : ℕ). feed_of (feed_of s (take (15 - s.held) piece)) (take k (drop (15 - s.held) piece))) (let z : 15 - s.held + 1 - (15 - s.held) ≡ 1 = omega arith in z)
        ∙ feed_feed s (take (15 - s.held) piece) (take 1 (drop (15 - s.held) piece)) sound
        ∙ ap (feed_of s) (sym (take-add (15 - s.held) 1 piece) ∙ ap (λ (k : ℕ). take k piece) (let z : 15 - s.held + 1 ≡ 16 - s.held = omega arith in z))

    front-size : length (torn_of s ++ front) ≡ 16
    front-size =
        let f = few in
        let a = length-append (torn_of s) front in
        let b = length-take-le s.held s.torn (omega arith) in
        let c = length-take-le (16 - s.held) piece (omega arith) in
        omega arith

    pub first_is : (f g : Stream) (r : Record) (x : Phases) → f ≡ feed_of s (take (15 - s.held) piece)
        → g ≡ feed_of f (take (15 - s.held + 1 - (15 - s.held)) (drop (15 - s.held) piece))
        → r ≡ lines_of (set f.torn 15 (get_or piece (15 - s.held) 0)) → x ≡ saw_of p g r → x ≡ fed_phases p front
    first_is f g r x fe ge re xe =
        let all : List ℕ = torn_of s ++ front in
        let lines : r ≡ record_in (sixteen all 0) = lines_at all 0 r (let z = front-size in let y : 0 < length all / 16 = omega arith in y)
        (re ∙ ap lines_of (whole_is f fe ∙ sym (take_all 16 all (let z = front-size in let y : length all ≤ 16 = omega arith in y)))) in
        xe
        ∙ ap (λ (y : Stream). saw_of p y r) (done_is f g fe ge)
        ∙ ap (saw_of p (feed_of s front)) lines
        ∙ sym (seen_last front 0 front-size (λ i lt. absurd (omega arith)))

    -- then no torn record is left
    pub first_held : (fed_phases p front).stream.held ≡ 0
    first_held = fed-whole p front sound on (let z = front-size in omega arith)

  -- a piece that does not complete the torn record
  pub short_is : (piece : List ℕ) (f : Stream) (x : Phases) → length s.torn ≡ 16 → length piece < 16 - s.held → f ≡ feed_of s piece → x ≡ with_stream p f → x ≡ fed_phases p piece
  short_is piece f x array short fe xe =
      let h = few in
      let a = length-append (torn_of s) piece in
      let b = length-take-le s.held s.torn (omega arith) in
      xe ∙ ap (with_stream p) fe ∙ sym (seen_none piece (λ i lt. absurd (omega arith)))

-- what is fed stays fit, and an empty piece changes nothing of it
pub fit-kept : (p : Phases) (x : List ℕ) → Fit p → Fit (fed_phases p x)
fit-kept p x fit =
    let a = bounds_are p.stream fit.0 in
    let b = fed-fits p x (a.0, (a.1.0, a.1.1.0)) a.1.1.1 in
    (are_bounds (fed_phases p x).stream b.sound.0 b.sound.1.0 b.sound.1.1 b.held, subst (λ (m : Marks). m.count ≤ 32) (sym b.marks) fit.1)

pub fed-fed : (p : Phases) (x y : List ℕ) → Fit p → fed_phases (fed_phases p x) y ≡ fed_phases p (x ++ y)
fed-fed p x y fit = let a = bounds_are p.stream fit.0 in more p x y (a.0, (a.1.0, a.1.1.0))

pub settled : (p : Phases) (x : List ℕ) → Fit p → fed_phases (fed_phases p x) [] ≡ fed_phases p x
settled p x fit = fed-fed p x [] fit ∙ ap (fed_phases p) (append-nil x)

-- the first record of a piece, and what is behind it
module _ (p : Phases) (fit : Fit p) (on : under_way p ≡ true) (array : length p.stream.torn ≡ 16) (piece : List ℕ) (long : 16 - p.stream.held ≤ length piece) (n : ℕ) (x : Phases) where
  pub through_needs : n ≡ 16 - p.stream.held → x ≡ fed_phases p (take (16 - p.stream.held) piece)
      → Fit x × ((fed_phases x [] ≡ x) × ((under_way x ≡ true → x.stream.held ≡ 0) × (n ≤ length piece)))
  through_needs ne xe =
      let front : List ℕ = take (16 - p.stream.held) piece in
      subst (λ (y : Phases). Fit y × ((fed_phases y [] ≡ y) × ((under_way y ≡ true → y.stream.held ≡ 0) × (n ≤ length piece)))) (sym xe)
      (fit-kept p front fit, (settled p front fit, ((λ _. first_held p fit on array piece long), omega arith)))

  pub both_parts : (y : Phases) → n ≡ 16 - p.stream.held → x ≡ fed_phases p (take (16 - p.stream.held) piece) → y ≡ fed_phases x (drop n piece) → y ≡ fed_phases p piece
  both_parts y ne xe ye =
      ye
      ∙ ap (λ (z : Phases). fed_phases z (drop n piece)) (xe ∙ ap (λ (k : ℕ). fed_phases p (take k piece)) (sym ne))
      ∙ fed-fed p (take n piece) (drop n piece) fit
      ∙ ap (fed_phases p) (take-append-drop n piece)

-- ---- `go_through`
module _ (p : Phases) (piece : List ℕ) (from : ℕ) where
  -- what is left of the piece brings the state to where it has to come
  pub record Through (state : Phases) (at : ℕ) : Type 0 where
    pub within : at ≤ length piece
    pub fit : Fit state
    pub still : fed_phases state [] ≡ state
    pub held : under_way state ≡ true → at < length piece → state.stream.held ≡ 0
    pub same : fed_phases state (drop at piece) ≡ fed_phases p (drop from piece)

  pub through_done : (state : Phases) (at : ℕ) → Through state at → length piece ≤ at → state ≡ fed_phases p (drop from piece)
  through_done state at h le =
      sym h.still ∙ ap (fed_phases state) (sym (drop_of_length-le piece le)) ∙ h.same

  pub through_over : (state : Phases) (at : ℕ) → Through state at → under_way state ≡ false → state ≡ fed_phases p (drop from piece)
  through_over state at h over = sym (fed_over state (drop at piece) over) ∙ h.same

  -- the next part
  module _ (state : Phases) (at size : ℕ) (h : Through state at) (lt : at < length piece) (on : under_way state ≡ true)
      (reach : Reaches (mark_at state.marks state.search.found) (is_waiting state.search.pending) (drop at piece) size) where
    abbrev part : List ℕ
    part = take size (drop at piece)

    pub size_fits : at + size ≤ length piece
    size_fits = let a = reach.within in let b = length-drop at piece in omega arith

    pub size-some : 0 < size
    size-some = reach.some (let b = length-drop at piece in let z : 0 < length (drop at piece) = omega arith in z)

    part_size : length part ≡ size
    part_size = length-take-le size (drop at piece) reach.within

    pub part_dull : Dull state part
    part_dull i less =
        let z = part_size in
        ap (λ (l : List ℕ). matters_to state (record_in l)) (sixteen-front (drop at piece) size i (omega arith))
        ∙ reach.dull i (omega arith)

    pub through_next : (x : Phases) → x ≡ fed_phases state part → Through x (at + size)
    through_next x e =
        subst (λ (y : Phases). Through y (at + size)) (sym e)
        (record {
          within = size_fits;
          fit = fit-kept state part h.fit;
          still = settled state part h.fit;
          held = λ _ less. fed-whole state part (sound state h.fit on) on (even less);
          same = fed-fed state part (drop (at + size) piece) h.fit ∙ ap (fed_phases state) (ap (λ (l : List ℕ). part ++ l) (sym (drop-drop size at piece)) ∙ take-append-drop size (drop at piece)) ∙ h.same;
        })
      where
        even : at + size < length piece → length (torn_of state.stream ++ part) % 16 ≡ 0
        even less =
            let nothing : torn_of state.stream ++ part ≡ part = ap (λ (k : ℕ). take k state.stream.torn ++ part) (h.held on lt) in
            ends reach.ends (ap length nothing ∙ part_size)
          where
            ends : (size % 16 ≡ 0) ⊎ (size ≡ length (drop at piece)) → length (torn_of state.stream ++ part) ≡ size → length (torn_of state.stream ++ part) % 16 ≡ 0
            ends (inl z) n = omega arith
            ends (inr z) n = let b = length-drop at piece in absurd (omega arith)

  -- the same, as the calls have it
  module _ (state : Phases) (at size : ℕ) (mark : Mark) (waits : Bool) (h : Through state at) (lt : at < length piece) (on : under_way state ≡ true)
      (me : mark ≡ mark_at state.marks state.search.found) (we : waits ≡ is_waiting state.search.pending) (re : Reaches mark waits (take (length piece - at) (drop at piece)) size) where
    reach : Reaches (mark_at state.marks state.search.found) (is_waiting state.search.pending) (drop at piece) size
    reach =
        subst (λ (l : List ℕ). Reaches (mark_at state.marks state.search.found) (is_waiting state.search.pending) l size) (rest_is piece at)
        (subst (λ (w : Bool). Reaches (mark_at state.marks state.search.found) w (take (length piece - at) (drop at piece)) size) we
        (subst (λ (m : Mark). Reaches m waits (take (length piece - at) (drop at piece)) size) me re))

    abbrev lent : List ℕ
    lent = take (at + size - at) (drop at piece)

    lent_is : lent ≡ take size (drop at piece)
    lent_is = ap (λ (k : ℕ). take k (drop at piece)) (let z : at + size - at ≡ size = omega arith in z)

    pub call_fits : at + size ≤ length piece
    call_fits = size_fits state at size h lt on reach

    pub call_some : 0 < size
    call_some = size-some state at size h lt on reach

    pub call_needs : Fit state × ((under_way state ≡ true) × ((state.stream.held ≡ 0) × Dull state lent))
    call_needs = (h.fit, (on, (h.held on lt, subst (Dull state) (sym lent_is) (part_dull state at size h lt on reach))))

    pub call_next : (x : Phases) → x ≡ fed_phases state lent → Through x (at + size)
    call_next x e = through_next state at size h lt on reach x (e ∙ ap (fed_phases state) lent_is)
