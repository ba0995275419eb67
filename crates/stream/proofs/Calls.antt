-- What the functions put together is what the definitions say. Assumes nothing.
use Prim.Native.Nat.{ℕ, ◌+◌, ◌-◌, ◌*◌, ◌%◌, ◌≤◌, ◌<◌, min}
use mathlib.Core.Bool.{Bool, true, false, cond, ◌&&◌}
use mathlib.Core.List.{List, ◌++◌, append_assoc}
use mathlib.Core.Path.{◌≡◌, refl, sym, ap, subst, ◌∙◌}
use native.Mathlib.Omega.{arith}
use lib.ListN.{length, take, drop, replicate, length-append, length-drop, take-append-drop}
use lib.Seq.{paste, take-paste, length-take-le, take-length, take_all}
use lib.Dec.{ltb}
use borrow.Author.Tests.{ltb-true, ltb-false}
use Rattle.std.specs.Prelude.{Result, Ok, Err}
use Rattle.std.specs.Result.{result_unwrap_or}
use Rattle.basics.specs.Answers.{Answer, answered}
use Rattle.basics.specs.declared.refusal.Refusal.{Refusal}
use Rattle.basics.proofs.Bools.{by-test, cond-true, and_both}
use Rattle.rules.specs.declared.Judge.{Judge}
use Rattle.rules.specs.declared.Tally.{Tally}
use Rattle.rules.specs.declared.Progress.{Progress}
use Rattle.rules.specs.declared.Outcome.{Outcome}
use Rattle.rules.specs.Bounds.{SoundJudge, SoundTally}
use Rattle.rules.specs.Verdict.{most_records, verdict_of, outcome_in, outcome_of}
use Rattle.judge.proofs.Runs.{rest_is}
use Rattle.feeding.specs.declared.Stop.{Stop}
use Rattle.feeding.specs.declared.Stream.{Stream}
use Rattle.feeding.specs.Input.{whole_in}
use Rattle.feeding.specs.State.{goes, padded, stream_bounds, taken_in, stop_of, kept_of, gone_on, feed_of, fed_of}
use Rattle.feeding.proofs.GoOn.{judged_of, outcome-taken, padded_is, kept_is, behind_in, feed_ended, feed_more, feed_whole, gone_sound}

-- the part of a list from a place on
abbrev pub part : ℕ → List ℕ → List ℕ
part at bytes = take (length bytes - at) (drop at bytes)

-- such a part has fewer than sixteen bytes
pub part_few : (g : Bool) (bytes : List ℕ) (at : ℕ) → at ≡ cond g (whole_in bytes * 16) (length bytes) → 0 + length (part at bytes) ≤ 16
part_few g bytes at e = let h = (behind_in g bytes at e).1 in
    let size : length (part at bytes) ≡ length bytes - at = ap length (rest_is bytes at) ∙ length-drop at bytes in
    omega arith

-- what `go_on` puts together
module _ (bytes : List ℕ) (j : Judge) (t : Tally) (hj : SoundJudge j) (ht : SoundTally t) (room : t.records ≤ most_records) where
  pub went_on : (taken : ℕ) (o : Outcome) (stop : Stop) (g : Bool) (behind : ℕ) (kept : List ℕ)
      → taken ≡ min (whole_in bytes) (most_records - t.records)
      → o ≡ outcome_of (take (taken * 16) bytes) j t
      → stop ≡ stop_of (ltb most_records (t.records + whole_in bytes)) o.verdict
      → g ≡ goes stop
      → behind ≡ cond g (whole_in bytes * 16) (length bytes)
      → kept ≡ paste (replicate 16 0) 0 (part behind bytes) (length (part behind bytes))
      → ◌≡◌ {A = Stream} (record { judge = o.judge; tally = o.tally; stop = stop; torn = kept; held = length bytes - behind }) (gone_on j t bytes)
  unfolding gone_on taken_in
  went_on taken o stop g behind kept te oe se ge be ke =
      let p : Progress = judged_of j t bytes in
      let past : Bool = ltb most_records (t.records + whole_in bytes) in
      let rest : List ℕ = drop (whole_in bytes * 16) bytes in
      let is : o ≡ outcome_in p = oe ∙ ap (λ (k : ℕ). outcome_of (take (k * 16) bytes) j t) te ∙ outcome-taken bytes j t hj ht room in
      let stops : stop ≡ stop_of past (verdict_of p) = se ∙ ap (λ (x : Outcome). stop_of past x.verdict) is in
      let from : behind ≡ cond (goes (stop_of past (verdict_of p))) (whole_in bytes * 16) (length bytes) = be ∙ ap (λ (b : Bool). cond b (whole_in bytes * 16) (length bytes)) (ge ∙ ap goes stops) in
      let keeps : part behind bytes ≡ kept_of (stop_of past (verdict_of p)) rest = rest_is bytes behind ∙ ap (λ (k : ℕ). drop k bytes) from ∙ kept_is (stop_of past (verdict_of p)) bytes in
      let size : length bytes - behind ≡ length (kept_of (stop_of past (verdict_of p)) rest) = sym (length-drop behind bytes) ∙ ap length (sym (rest_is bytes behind) ∙ keeps) in
      let few : length bytes - behind < 16 = (behind_in g bytes behind be).1 in
      let pads : kept ≡ padded (kept_of (stop_of past (verdict_of p)) rest) = ke ∙ ap (λ (l : List ℕ). paste (replicate 16 0) 0 l (length l)) keeps ∙ padded_is (kept_of (stop_of past (verdict_of p)) rest) (omega arith) in
      same o.judge p.judge o.tally p.tally stop (stop_of past (verdict_of p)) kept (padded (kept_of (stop_of past (verdict_of p)) rest)) (length bytes - behind) (length (kept_of (stop_of past (verdict_of p)) rest)) (ap (λ (x : Outcome). x.judge) is) (ap (λ (x : Outcome). x.tally) is) stops pads size
    where
      same : (a b : Judge) (c d : Tally) (e f : Stop) (g h : List ℕ) (i k : ℕ) → a ≡ b → c ≡ d → e ≡ f → g ≡ h → i ≡ k
          → ◌≡◌ {A = Stream} (record { judge = a; tally = c; stop = e; torn = g; held = i }) (record { judge = b; tally = d; stop = f; torn = h; held = k })
      same a b c d e f g h i k p q r s u = cc

-- what `complete` puts together: n bytes of the piece behind the first `held` of the torn record, and then the rest of it
module _ (torn piece : List ℕ) (held n : ℕ) (sixteen : length torn ≡ 16) (few : held < 16) (ne : n ≡ min (16 - held) (length piece)) where
  abbrev front : List ℕ
  front = paste torn held (take n piece) (length (take n piece))

  taken-size : length (take n piece) ≡ n
  taken-size = length-take-le n piece (omega arith)

  pub fills : held + length (take n piece) ≤ 16
  fills = let e = taken-size in omega arith

  pub front_is : (l : List ℕ) → l ≡ front → take (held + n) l ≡ take held torn ++ take n piece
  front_is l e =
      let m : ℕ = length (take n piece) in
      ap (λ (k : List ℕ). take (held + n) k) e
      ∙ ap (λ (k : ℕ). take (held + k) front) (sym taken-size)
      ∙ take-paste torn held (take n piece) m (omega arith) (omega arith)
      ∙ ap (λ (k : List ℕ). take held torn ++ k) (take-length (take n piece))

  pub front-size : (l : List ℕ) → l ≡ front → held + n ≡ length (take (held + n) l)
  front-size l e =
      let a = length-append (take held torn) (take n piece) in
      let b = length-take-le held torn (omega arith) in
      let c = taken-size in
      let d = ap length (front_is l e) in
      omega arith

  all_is : (take held torn ++ take n piece) ++ drop n piece ≡ take held torn ++ piece
  all_is = append_assoc (take held torn) (take n piece) (drop n piece) ∙ ap (λ (k : List ℕ). take held torn ++ k) (take-append-drop n piece)

  module _ (j : Judge) (t : Tally) (room : t.records ≤ most_records) (l : List ℕ) (le : l ≡ front) (first : Stream) (fe : first ≡ gone_on j t (take (held + n) l)) (g : Bool) (ge : g ≡ goes first.stop) where
    first_is : first ≡ gone_on j t (take held torn ++ take n piece)
    first_is = fe ∙ ap (gone_on j t) (front_is l le)

    -- the piece goes on behind the record
    pub goes_on : (next : Stream) → next ≡ gone_on first.judge first.tally (part n piece) → (g && ltb n (length piece)) ≡ true → next ≡ gone_on j t (take held torn ++ piece)
    goes_on next e both =
        let going = and_both g (ltb n (length piece)) both in
        let size = front-size l le in
        let same = ap length (front_is l le) in
        let lt = ltb-true n (length piece) going.1 in
        let even : length (take held torn ++ take n piece) % 16 ≡ 0 = omega arith in
        e ∙ ap (gone_on first.judge first.tally) (rest_is piece n)
        ∙ ap (λ (s : Stream). gone_on s.judge s.tally (drop n piece)) first_is
        ∙ sym (feed_whole j t (take held torn ++ take n piece) (drop n piece) even (ap (λ (s : Stream). goes s.stop) (sym first_is) ∙ sym ge ∙ going.0))
        ∙ feed_more j t room (take held torn ++ take n piece) (drop n piece)
        ∙ ap (gone_on j t) all_is

    -- it ends there, or the judging has
    pub ends_there : (g && ltb n (length piece)) ≡ false → first ≡ gone_on j t (take held torn ++ piece)
    ends_there not-both =
        by-test (goes first.stop)
        (λ going. let short : length piece ≤ n = ltb-false n (length piece) (ap (λ (b : Bool). b && ltb n (length piece)) (sym (ge ∙ going)) ∙ not-both) in
        first_is ∙ ap (λ (k : List ℕ). gone_on j t (take held torn ++ k)) (take_all n piece short))
        (λ ended. first_is
        ∙ sym (feed_ended (gone_on j t (take held torn ++ take n piece)) (drop n piece) (ap (λ (s : Stream). goes s.stop) (sym first_is) ∙ ended))
        ∙ feed_more j t room (take held torn ++ take n piece) (drop n piece)
        ∙ ap (gone_on j t) all_is)

-- the next call's bounds
pub bounds_kept : (j : Judge) (t : Tally) (x : List ℕ) (s : Stream) → SoundJudge j → SoundTally t → t.records ≤ most_records → s ≡ gone_on j t x → SoundJudge s.judge × (SoundTally s.tally × (s.tally.records ≤ most_records))
bounds_kept j t x s hj ht room e = subst (λ (y : Stream). SoundJudge y.judge × (SoundTally y.tally × (y.tally.records ≤ most_records))) (sym e) (gone_sound j t x hj ht room)

-- ---- the calls
pub took_in : (s : Stream) (piece : List ℕ) (r : Stream) → goes s.stop ≡ true → r ≡ gone_on s.judge s.tally (take s.held s.torn ++ piece) → r ≡ feed_of s piece
unfolding feed_of
took_in s piece r g e = e ∙ sym (cond-true _ _ g)

pub took_whole : (s : Stream) (piece : List ℕ) (r : Stream) → goes s.stop ≡ true → s.held ≡ 0 → r ≡ gone_on s.judge s.tally piece → r ≡ feed_of s piece
took_whole s piece r g z e = took_in s piece r g (e ∙ ap (λ (k : ℕ). gone_on s.judge s.tally (take k s.torn ++ piece)) (sym z))

-- the next state of a caller whose state is within the bounds, `unwrap_or` giving his own where it isn't
answer_or : {A : Type 0} (back : A) (r : Result A Refusal) → result_unwrap_or r back ≡ (answered back r).value
answer_or back (Ok v) = refl
answer_or back (Err r) = refl

pub fed_or : (s : Stream) (piece : List ℕ) (r : Result Stream Refusal) (next : Stream) → answered s r ≡ fed_of s piece → next ≡ result_unwrap_or r s → stream_bounds s ≡ true → next ≡ feed_of s piece
unfolding fed_of
fed_or s piece r next e ne b = ne ∙ answer_or s r ∙ ap (λ (a : Answer Stream). a.value) (e ∙ cond-true _ _ b)
