-- A piece after a piece is as both at once. Assumes nothing.
use Prim.Native.Nat.{ℕ, zero, suc, ◌+◌, ◌-◌, ◌*◌, ◌%◌, ◌≤◌, ◌<◌}
use mathlib.Core.Bool.{Bool, true, false, not, ◌&&◌, false≢true}
use mathlib.Core.List.{List, [], ◌++◌, append_assoc}
use mathlib.Core.Path.{◌≡◌, refl, sym, ap, subst, ◌∙◌}
use native.Mathlib.Omega.{arith}
use lib.ListN.{length, take, drop, replicate, length-append, length-drop, drop_of_length-le}
use lib.Seq.{length-take-le, drop-drop, drop-append-le, take-append-le, take-append_seam}
use lib.Dec.{ltb}
use borrow.Author.Tests.{le-ltb}
use Rattle.basics.proofs.Bools.{choice, by-test, cond-true, cond-false, and_both}
use Rattle.record.specs.declared.Record.{Record}
use Rattle.record.specs.Layout.{record_in}
use Rattle.rules.specs.declared.Judge.{Judge}
use Rattle.rules.specs.declared.Tally.{Tally}
use Rattle.rules.specs.Bounds.{SoundJudge, SoundTally}
use Rattle.rules.specs.Run.{from, run_of, records_in}
use Rattle.rules.specs.Verdict.{most_records}
use Rattle.feeding.specs.declared.Stop.{Stop}
use Rattle.feeding.specs.declared.Stop.TheVariants.{Going, AtBreach, PastMost}
use Rattle.feeding.specs.declared.Stream.{Stream}
use Rattle.feeding.specs.Input.{whole_in}
use Rattle.feeding.specs.State.{goes, padded, torn_of, taken_in, kept_of, state_with, state_after, gone_on, feed_of}
use Rattle.feeding.proofs.GoOn.{after-going, gone_sound}
use Rattle.marks.specs.declared.Phases.{Phases}
use Rattle.marks.specs.State.{under_way, all_found, with_stream, saw_of, next_seen, rest_kept, gone_through, untorn, fed_phases}

-- ---- the judge's state between records
-- no torn record is held
abbrev pub Clean : Stream → Type 0
Clean s = s ≡ state_with s.stop s.judge s.tally []

-- the bounds
abbrev pub Sound : Stream → Type 0
Sound s = SoundJudge s.judge × (SoundTally s.tally × (s.tally.records ≤ most_records))

-- so what comes is judged by itself
pub feed_clean : (s : Stream) (bytes : List ℕ) → goes s.stop ≡ true → s.held ≡ 0 → feed_of s bytes ≡ gone_on s.judge s.tally bytes
unfolding feed_of
feed_clean s bytes g e = cond-true _ _ g ∙ ap (λ (k : ℕ). gone_on s.judge s.tally (take k s.torn ++ bytes)) e

pub clean_held : (s : Stream) → Clean s → s.held ≡ 0
clean_held s c = ap (λ (x : Stream). x.held) c

-- whole records leave none
pub gone_clean : (j : Judge) (t : Tally) (bytes : List ℕ) → length bytes % 16 ≡ 0 → Clean (gone_on j t bytes)
unfolding gone_on kept_of
gone_clean j t bytes even =
    let s : Stream = gone_on j t bytes in
    let none : drop (whole_in bytes * 16) bytes ≡ [] = drop_of_length-le bytes (let z : length bytes ≤ whole_in bytes * 16 = omega arith in z) in
    ap (λ (l : List ℕ). state_with s.stop s.judge s.tally l) (choice (λ (l : List ℕ). l ≡ []) (goes s.stop) (λ _. none) (λ _. refl))

-- fewer than sixteen bytes are a torn record
pub gone_rest : (j : Judge) (t : Tally) (rest : List ℕ) → length rest < 16 → t.records ≤ most_records → gone_on j t rest ≡ state_with Going j t rest
unfolding gone_on taken_in
gone_rest j t rest few room =
    let none : whole_in rest ≡ 0 = omega arith in
    let under : ltb most_records (t.records + whole_in rest) ≡ false = le-ltb most_records (t.records + whole_in rest) (omega arith) in
    ap (λ (b : Bool). state_after b (run_of (from j t) (records_in (taken_in t rest) rest)) (drop (whole_in rest * 16) rest)) under
    ∙ ap (λ (k : ℕ). state_after false (run_of (from j t) (records_in k rest)) (drop (whole_in rest * 16) rest)) (let z : taken_in t rest ≡ 0 = omega arith in z)
    ∙ ap (λ (k : ℕ). state_after false (from j t) (drop (k * 16) rest)) none
    ∙ after-going (from j t) rest refl

torn_is : (stop : Stop) (j : Judge) (t : Tally) (rest : List ℕ) → torn_of (state_with stop j t rest) ≡ rest
unfolding padded
torn_is stop j t rest = take-append_seam rest (replicate (16 - length rest) 0)

-- ---- record after record
-- the records without the rest
abbrev pub walked : ℕ → Phases → List ℕ → Phases
walked zero p bytes = p
walked (suc n) p bytes = walked n (next_seen p (take 16 bytes)) (drop 16 bytes)

-- what is over stays
pub next_over : (p : Phases) (sixteen : List ℕ) → under_way p ≡ false → next_seen p sixteen ≡ p
unfolding next_seen
next_over p sixteen e = cond-false _ _ e

pub through_over : (n : ℕ) (p : Phases) (bytes : List ℕ) → under_way p ≡ false → gone_through n p bytes ≡ p
unfolding rest_kept
through_over zero p bytes e = cond-false _ _ e
through_over (suc n) p bytes e = ap (λ (q : Phases). gone_through n q (drop 16 bytes)) (next_over p (take 16 bytes) e) ∙ through_over n p (drop 16 bytes) e

-- n records, then as many as there are more
pub through_more : (n k : ℕ) (p : Phases) (bytes : List ℕ) → gone_through (n + k) p bytes ≡ gone_through k (walked n p bytes) (drop (n * 16) bytes)
through_more zero k p bytes = ap (λ (i : ℕ). gone_through i p bytes) (let z : 0 + k ≡ k = omega arith in z)
through_more (suc n) k p bytes =
    let here : suc n + k ≡ suc (n + k) = omega arith in
    let place : 16 + n * 16 ≡ suc n * 16 = omega arith in
    ap (λ (i : ℕ). gone_through i p bytes) here
    ∙ through_more n k (next_seen p (take 16 bytes)) (drop 16 bytes)
    ∙ ap (gone_through k (walked (suc n) p bytes)) (drop-drop (n * 16) 16 bytes ∙ ap (λ (i : ℕ). drop i bytes) place)

-- bytes behind the records change nothing of them
pub walked_front : (n : ℕ) (p : Phases) (x y : List ℕ) → n * 16 ≤ length x → walked n p (x ++ y) ≡ walked n p x
walked_front zero p x y fits = refl
walked_front (suc n) p x y fits =
    let z = length-drop 16 x in
    ap (λ (l : List ℕ). walked n (next_seen p l) (drop 16 (x ++ y))) (take-append-le 16 x y (omega arith))
    ∙ ap (walked n (next_seen p (take 16 x))) (drop-append-le 16 x y (omega arith))
    ∙ walked_front n (next_seen p (take 16 x)) (drop 16 x) y (omega arith)

-- between records no torn one is held, and the bounds are kept
pub record Between (p : Phases) : Type 0 where
  pub clean : Clean p.stream
  pub sound : Sound p.stream

saw_between : (p : Phases) (s : Stream) (r : Record) → Clean s → Sound s → Between (saw_of p s r)
unfolding saw_of
saw_between p s r c h = choice Between (goes s.stop) (λ _. record { clean = c; sound = h }) (λ _. record { clean = c; sound = h })

pub next_between : (p : Phases) (sixteen : List ℕ) → length sixteen ≡ 16 → Between p → Between (next_seen p sixteen)
unfolding next_seen under_way
next_between p sixteen size b =
    choice Between (goes p.stream.stop && not (all_found p))
    (λ e. let g : goes p.stream.stop ≡ true = (and_both (goes p.stream.stop) (not (all_found p)) e).0 in
    let s = p.stream in
    let is = feed_clean s sixteen g (clean_held s b.clean) in
    saw_between p (feed_of s sixteen) (record_in sixteen)
    (subst Clean (sym is) (gone_clean s.judge s.tally sixteen (omega arith)))
    (subst Sound (sym is) (gone_sound s.judge s.tally sixteen b.sound.0 b.sound.1.0 b.sound.1.1)))
    (λ _. b)

pub walked_between : (n : ℕ) (p : Phases) (bytes : List ℕ) → n * 16 ≤ length bytes → Between p → Between (walked n p bytes)
walked_between zero p bytes fits b = b
walked_between (suc n) p bytes fits b =
    let z = length-drop 16 bytes in
    walked_between n (next_seen p (take 16 bytes)) (drop 16 bytes) (omega arith) (next_between p (take 16 bytes) (length-take-le 16 bytes (omega arith)) b)

-- ---- a piece after a piece
-- what is left of a piece waits
pub rest_is : (q : Phases) (rest : List ℕ) → length rest < 16 → Between q → under_way q ≡ true → rest_kept q rest ≡ with_stream q (state_with Going q.stream.judge q.stream.tally rest)
unfolding rest_kept under_way
rest_is q rest few b e =
    let s = q.stream in
    let g : goes s.stop ≡ true = (and_both (goes s.stop) (not (all_found q)) e).0 in
    cond-true _ _ e
    ∙ ap (with_stream q) (feed_clean s rest g (clean_held s b.clean) ∙ gone_rest s.judge s.tally rest few b.sound.1.1)

pub going_is : (s : Stop) → goes s ≡ true → s ≡ Going
going_is Going e = refl
going_is (AtBreach b) e = absurd (false≢true e)
going_is PastMost e = absurd (false≢true e)

-- a state that waits is as the one between records, with the rest held
waits_on : (q : Phases) (rest y : List ℕ) → Between q → under_way q ≡ true
    → fed_phases (with_stream q (state_with Going q.stream.judge q.stream.tally rest)) y ≡ gone_through (whole_in (rest ++ y)) q (rest ++ y)
unfolding fed_phases under_way
waits_on q rest y b e =
    let s = q.stream in
    let both = and_both (goes s.stop) (not (all_found q)) e in
    let same : state_with Going s.judge s.tally [] ≡ s = ap (λ (x : Stop). state_with x s.judge s.tally []) (sym (going_is s.stop both.0)) ∙ sym b.clean in
    cond-true _ _ both.1
    ∙ ap (λ (l : List ℕ). gone_through (whole_in (l ++ y)) (with_stream q (state_with Going s.judge s.tally [])) (l ++ y)) (torn_is Going s.judge s.tally rest)
    ∙ ap (λ (x : Stream). gone_through (whole_in (rest ++ y)) (with_stream q x) (rest ++ y)) same

left_few : (l : List ℕ) → length (drop (whole_in l * 16) l) < 16
left_few l = let c = length-drop (whole_in l * 16) l in omega arith

-- once it is over, nothing changes
pub fed_over : (p : Phases) (y : List ℕ) → under_way p ≡ false → fed_phases p y ≡ p
unfolding fed_phases
fed_over p y e = cond-false _ _ e

module _ (p : Phases) (sound : Sound p.stream) (x y : List ℕ) (e : under_way p ≡ true) where
  -- the torn record and x, their whole records, and what is left
  abbrev all : List ℕ
  all = torn_of p.stream ++ x

  abbrev n : ℕ
  n = whole_in all

  abbrev rest : List ℕ
  rest = drop (n * 16) all

  abbrev q : Phases
  q = walked n (untorn p) all

  between : Between q
  between = walked_between n (untorn p) all (omega arith) (record { clean = refl; sound = sound })

  pub one_piece : fed_phases p x ≡ rest_kept q rest
  unfolding fed_phases
  one_piece = cond-true _ _ e ∙ ap (λ (k : ℕ). gone_through k (untorn p) all) (let z : n ≡ n + 0 = omega arith in z) ∙ through_more n 0 (untorn p) all

  both_pieces : fed_phases p (x ++ y) ≡ gone_through (whole_in (rest ++ y)) q (rest ++ y)
  unfolding fed_phases
  both_pieces =
      let u = untorn p in
      let k : ℕ = whole_in (rest ++ y) in
      let a = length-append all y in
      let b = length-append rest y in
      let c = length-drop (n * 16) all in
      let count : whole_in (all ++ y) ≡ n + k = omega arith in
      cond-true _ _ e
      ∙ ap (λ (l : List ℕ). gone_through (whole_in l) u l) (sym (append_assoc (torn_of p.stream) x y))
      ∙ ap (λ (i : ℕ). gone_through i u (all ++ y)) count
      ∙ through_more n k u (all ++ y)
      ∙ ap (λ (z : Phases). gone_through k z (drop (n * 16) (all ++ y))) (walked_front n u all y (omega arith))
      ∙ ap (gone_through k q) (drop-append-le (n * 16) all y (omega arith))

  more_under_way : fed_phases (fed_phases p x) y ≡ fed_phases p (x ++ y)
  unfolding rest_kept
  more_under_way =
      let few : length rest < 16 = let c = length-drop (n * 16) all in omega arith in
      by-test (under_way q)
      (λ f. ap (λ (z : Phases). fed_phases z y) (one_piece ∙ rest_is q rest few between f) ∙ waits_on q rest y between f ∙ sym both_pieces)
      (λ f. ap (λ (z : Phases). fed_phases z y) (one_piece ∙ cond-false _ _ f) ∙ fed_over q y f ∙ sym (both_pieces ∙ through_over (whole_in (rest ++ y)) q (rest ++ y) f))

-- A PIECE AFTER A PIECE is as both at once
pub more : (p : Phases) (x y : List ℕ) → Sound p.stream → fed_phases (fed_phases p x) y ≡ fed_phases p (x ++ y)
more p x y sound =
    by-test (under_way p) (more_under_way p sound x y)
    (λ e. ap (λ (z : Phases). fed_phases z y) (fed_over p x e) ∙ fed_over p y e ∙ sym (fed_over p (x ++ y) e))

-- ---- what going on keeps
next_marks : (p : Phases) (sixteen : List ℕ) → (next_seen p sixteen).marks ≡ p.marks
unfolding next_seen saw_of
next_marks p sixteen =
    let P : Phases → Type 0 = λ q. q.marks ≡ p.marks in
    choice P (under_way p) (λ _. choice P (goes (feed_of p.stream sixteen).stop) (λ _. refl) (λ _. refl)) (λ _. refl)

walked_marks : (n : ℕ) (p : Phases) (bytes : List ℕ) → (walked n p bytes).marks ≡ p.marks
walked_marks zero p bytes = refl
walked_marks (suc n) p bytes = walked_marks n (next_seen p (take 16 bytes)) (drop 16 bytes) ∙ next_marks p (take 16 bytes)

-- nothing to keep changes nothing
pub rest-none : (q : Phases) → Between q → rest_kept q [] ≡ q
unfolding rest_kept under_way
rest-none q b =
    by-test (under_way q)
    (λ e. rest_is q [] (omega arith) b e
    ∙ ap (with_stream q) (ap (λ (x : Stop). state_with x q.stream.judge q.stream.tally []) (sym (going_is q.stream.stop (and_both (goes q.stream.stop) (not (all_found q)) e).0)) ∙ sym b.clean))
    (λ e. cond-false _ _ e)

-- the bounds of the judge in pieces, and the marks
pub record Fits (p q : Phases) : Type 0 where
  pub sound : Sound q.stream
  pub held : q.stream.held < 16
  pub marks : q.marks ≡ p.marks

pub fed-fits : (p : Phases) (x : List ℕ) → Sound p.stream → p.stream.held < 16 → Fits p (fed_phases p x)
unfolding rest_kept
fed-fits p x sound few =
    by-test (under_way p)
    (λ e. let b = between p sound x [] e in
    let same = walked_marks (n p sound x [] e) (untorn p) (all p sound x [] e) in
    subst (Fits p) (sym (one_piece p sound x [] e))
    (by-test (under_way (q p sound x [] e))
    (λ f. subst (Fits p) (sym (rest_is (q p sound x [] e) (rest p sound x [] e) (left_few (torn_of p.stream ++ x)) b f)) (record { sound = b.sound; held = left_few (torn_of p.stream ++ x); marks = same }))
    (λ f. subst (Fits p) (sym (cond-false _ _ f)) (record { sound = b.sound; held = (let z = clean_held _ b.clean in omega arith); marks = same }))))
    (λ e. subst (Fits p) (sym (fed_over p x e)) (record { sound = sound; held = few; marks = refl }))

-- whole records leave no torn one
pub fed-whole : (p : Phases) (x : List ℕ) → Sound p.stream → under_way p ≡ true → length (torn_of p.stream ++ x) % 16 ≡ 0 → (fed_phases p x).stream.held ≡ 0
fed-whole p x sound e even =
    let b = between p sound x [] e in
    let none : rest p sound x [] e ≡ [] = drop_of_length-le (torn_of p.stream ++ x) (let z : length (torn_of p.stream ++ x) ≤ whole_in (torn_of p.stream ++ x) * 16 = omega arith in z) in
    ap (λ (z : Phases). z.stream.held) (one_piece p sound x [] e ∙ ap (rest_kept (q p sound x [] e)) none ∙ rest-none (q p sound x [] e) b) ∙ clean_held _ b.clean
