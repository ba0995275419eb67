-- Whatever the pieces are, `finish` says what the whole input comes to, and that is right of the recording itself. Assumes nothing.
use Prim.Native.Nat.{ℕ, ◌+◌, ◌*◌, ◌%◌, ◌≤◌}
use mathlib.Core.Bool.{Bool, true, false}
use mathlib.Core.List.{List, [], ◌∷◌, ◌++◌, append_assoc, append-nil}
use mathlib.Core.Path.{◌≡◌, refl, sym, ap, subst, ◌∙◌}
use mathlib.Core.Logic.{◌↔◌}
use native.Mathlib.Omega.{arith}
use native.Mathlib.Nat.{zero-add}
use lib.ListN.{length, drop, length-drop}
use lib.Dec.{eqb, ltb, leb}
use borrow.Author.Tests.{eqb-true, eqb-false, leb-true}
use Rattle.basics.specs.Answers.{accepted}
use Rattle.basics.specs.Numbers.{lawful_limit}
use Rattle.basics.proofs.Bools.{by-test, choice, cond-true, cond-false, and_both}
use Rattle.rules.specs.declared.Judge.{Judge}
use Rattle.rules.specs.declared.Tally.{Tally}
use Rattle.rules.specs.declared.Progress.{Progress}
use Rattle.rules.specs.declared.Verdict.{Verdict}
use Rattle.rules.specs.declared.Verdict.TheVariants.{OutOfBounds}
use Rattle.rules.specs.Recording.{recording_in}
use Rattle.rules.specs.Run.{from, run_of, records_in}
use Rattle.rules.specs.State.{is_open, fresh_judge, zero_tally}
use Rattle.rules.specs.Totals.{Totals}
use Rattle.rules.specs.Verdict.{most_records, verdict_of, outcome_in}
use Rattle.rules.specs.Exact.{counted, OpenAt, joined}
use Rattle.rules.proofs.Laws.{fresh-sound}
use Rattle.rules.proofs.Reach.{reached}
use Rattle.rules.proofs.Exactly.{reached_exact, rightly_only, totals-only}
use Rattle.rules.proofs.Told.{zero-sound}
use Rattle.feeding.specs.declared.Stop.TheVariants.{Going}
use Rattle.feeding.specs.declared.Stream.{Stream}
use Rattle.feeding.specs.declared.Ending.{Ending}
use Rattle.feeding.specs.Input.{whole_in, judged_in, end_of, input_verdict, Answers, ending_with, ending_of}
use Rattle.feeding.specs.State.{goes, torn_of, stream_bounds, taken_in, kept_of, state_after, gone_on, fresh_stream, fresh_of, feed_of, fed_of, last_verdict, finish_of}
use Rattle.feeding.specs.Pieces.{fed_all, Feeding}
use Rattle.feeding.proofs.GoOn.{judged_of, outcome-taken, breach-verdict, conforming_verdict, after-breach, after-past, after-going, feed_ended, feed_more, gone_sound, gone_held}
use Rattle.feeding.proofs.Bounds.{are_bounds}

-- ---- all the pieces
-- pieces after some bytes are as all the bytes at once
fed_on : (j : Judge) (t : Tally) → t.records ≤ most_records → (x : List ℕ) (pieces : List (List ℕ)) → fed_all (gone_on j t x) pieces ≡ gone_on j t (x ++ joined pieces)
fed_on j t room x [] = ap (gone_on j t) (sym (append-nil x))
fed_on j t room x (piece ∷ pieces) =
    ap (λ (s : Stream). fed_all s pieces) (feed_more j t room x piece)
    ∙ fed_on j t room (x ++ piece) pieces
    ∙ ap (gone_on j t) (append_assoc x piece (joined pieces))

-- a state that has ended stays
pub fed-ended : (s : Stream) (pieces : List (List ℕ)) → goes s.stop ≡ false → fed_all s pieces ≡ s
fed-ended s [] e = refl
fed-ended s (piece ∷ pieces) e = ap (λ (x : Stream). fed_all x pieces) (feed_ended s piece e) ∙ fed-ended s pieces e

-- an input from the start
abbrev pub input_state : ℕ → List ℕ → Stream
input_state limit bytes = gone_on (fresh_judge limit) zero_tally bytes

fresh_is : (limit : ℕ) → fresh_stream limit ≡ input_state limit []
unfolding fresh_stream gone_on taken_in kept_of verdict_of
fresh_is limit = refl

pub fed-all : (limit : ℕ) (pieces : List (List ℕ)) → fed_all (fresh_stream limit) pieces ≡ input_state limit (joined pieces)
fed-all limit pieces = ap (λ (s : Stream). fed_all s pieces) (fresh_is limit) ∙ fed_on (fresh_judge limit) zero_tally (omega arith) [] pieces

-- ---- what it comes to
-- the verdict at the end
last-breach : (past : Bool) (p : Progress) (rest bytes : List ℕ) → (p.rule ≡ 0 → ⊥) → last_verdict (state_after past p rest).stop (state_after past p rest).held ≡ input_verdict bytes (verdict_of p)
last-breach past p rest bytes ne =
    ap (λ (s : Stream). last_verdict s.stop s.held) (after-breach past p rest ne) ∙ sym (ap (input_verdict bytes) (breach-verdict p ne))

last-past : (p : Progress) (rest bytes : List ℕ) → p.rule ≡ 0 → ltb most_records (whole_in bytes) ≡ true → last_verdict (state_after true p rest).stop (state_after true p rest).held ≡ input_verdict bytes (verdict_of p)
unfolding end_of
last-past p rest bytes e over =
    ap (λ (s : Stream). last_verdict s.stop s.held) (after-past p rest e) ∙ sym (ap (input_verdict bytes) (conforming_verdict p e) ∙ cond-true _ _ over)

last-going : (p : Progress) (bytes : List ℕ) → p.rule ≡ 0 → ltb most_records (whole_in bytes) ≡ false
    → last_verdict (state_after false p (drop (whole_in bytes * 16) bytes)).stop (state_after false p (drop (whole_in bytes * 16) bytes)).held ≡ input_verdict bytes (verdict_of p)
unfolding end_of
last-going p bytes e under =
    let size : length (drop (whole_in bytes * 16) bytes) ≡ length bytes % 16 = let h = length-drop (whole_in bytes * 16) bytes in omega arith in
    ap (λ (s : Stream). last_verdict s.stop s.held) (after-going p (drop (whole_in bytes * 16) bytes) e)
    ∙ ap (last_verdict Going) size
    ∙ sym (ap (input_verdict bytes) (conforming_verdict p e) ∙ cond-false _ _ under)

last_is : (past : Bool) (p : Progress) (bytes : List ℕ) → past ≡ ltb most_records (whole_in bytes)
    → last_verdict (state_after past p (drop (whole_in bytes * 16) bytes)).stop (state_after past p (drop (whole_in bytes * 16) bytes)).held ≡ input_verdict bytes (verdict_of p)
last_is past p bytes pe = by-test (eqb p.rule 0) (λ e. unbroken past pe (eqb-true p.rule 0 e)) (λ e. last-breach past p (drop (whole_in bytes * 16) bytes) bytes (eqb-false p.rule 0 e))
  where
    unbroken : (b : Bool) → b ≡ ltb most_records (whole_in bytes) → p.rule ≡ 0 → last_verdict (state_after b p (drop (whole_in bytes * 16) bytes)).stop (state_after b p (drop (whole_in bytes * 16) bytes)).held ≡ input_verdict bytes (verdict_of p)
    unbroken true be e = last-past p (drop (whole_in bytes * 16) bytes) bytes e (sym be)
    unbroken false be e = last-going p bytes e (sym be)

module _ (limit : ℕ) (low : 1 ≤ limit) (high : limit ≤ 16) where
  pub state_bounds : (bytes : List ℕ) → stream_bounds (input_state limit bytes) ≡ true
  state_bounds bytes =
      let h = gone_sound (fresh_judge limit) zero_tally bytes (fresh-sound limit low high) zero-sound (omega arith) in
      are_bounds (input_state limit bytes) h.0 h.1.0 h.1.1 (gone_held (fresh_judge limit) zero_tally bytes)

  -- the records judged are those of the definition, and the judge's call on them
  pub ending_is : (bytes : List ℕ) → ending_of limit bytes ≡ ending_with bytes (outcome_in (judged_of (fresh_judge limit) zero_tally bytes))
  unfolding ending_of judged_in taken_in
  ending_is bytes = ap (ending_with bytes) (outcome-taken bytes (fresh_judge limit) zero_tally (fresh-sound limit low high) zero-sound (omega arith))

  pub finish_is : (bytes : List ℕ) → finish_of (input_state limit bytes) ≡ ending_of limit bytes
  unfolding finish_of gone_on
  finish_is bytes =
      let p : Progress = judged_of (fresh_judge limit) zero_tally bytes in
      let past : ltb most_records (0 + whole_in bytes) ≡ ltb most_records (whole_in bytes) = ap (ltb most_records) (zero-add (whole_in bytes)) in
      cond-true _ _ (state_bounds bytes)
      ∙ ap (λ (v : Verdict). record { verdict = v; tally = p.tally; opened = is_open p.judge.transfer }) (last_is (ltb most_records (0 + whole_in bytes)) p bytes past)
      ∙ sym (ending_is bytes)

  pub says : (pieces : List (List ℕ)) → finish_of (fed_all (fresh_stream limit) pieces) ≡ ending_of limit (joined pieces)
  says pieces = ap finish_of (fed-all limit pieces) ∙ finish_is (joined pieces)

  -- ---- it is right, and the only one
  pub right : (bytes : List ℕ) → Answers limit bytes (ending_of limit bytes)
  unfolding judged_in taken_in
  right bytes =
      let n : ℕ = judged_in bytes in
      let p : Progress = judged_of (fresh_judge limit) zero_tally bytes in
      record {
        outcome = outcome_in p;
        exact = reached_exact limit (recording_in bytes) n p (reached limit bytes n low high);
        verdict = ap (λ (e : Ending). e.verdict) (ending_is bytes);
        totals = ap (λ (e : Ending). e.tally) (ending_is bytes);
        opened = ap (λ (e : Ending). e.opened) (ending_is bytes);
      }

  -- ---- the calls
  accepts : (pieces : List (List ℕ)) (piece : List ℕ) → fed_of (fed_all (fresh_stream limit) pieces) piece ≡ accepted (feed_of (fed_all (fresh_stream limit) pieces) piece)
  unfolding fed_of
  accepts pieces piece = cond-true _ _ (ap stream_bounds (fed-all limit pieces) ∙ state_bounds (joined pieces))

  rest-same : (pieces : List (List ℕ)) (rest : List ℕ) → goes (fed_all (fresh_stream limit) pieces).stop ≡ false → ending_of limit (joined pieces ++ rest) ≡ ending_of limit (joined pieces)
  rest-same pieces rest ended =
      let x : List ℕ = joined pieces in
      sym (finish_is (x ++ rest))
      ∙ ap finish_of (sym (feed_more (fresh_judge limit) zero_tally (omega arith) x rest) ∙ feed_ended (input_state limit x) rest (ap (λ (s : Stream). goes s.stop) (sym (fed-all limit pieces)) ∙ ended))
      ∙ finish_is x

-- of two tests that say the same, both are the same
same_test : {A : Type 0} (a b : Bool) → (a ≡ true) ↔ A → (b ≡ true) ↔ A → a ≡ b
same_test true b p q = sym (q.1 (p.0 refl))
same_test false true p q = p.1 (q.0 refl)
same_test false false p q = refl

pub answers_only : (limit : ℕ) (bytes : List ℕ) (e f : Ending) → Answers limit bytes e → Answers limit bytes f → e ≡ f
answers_only limit bytes e f a b =
    same e.verdict f.verdict e.tally f.tally e.opened f.opened
    (a.verdict ∙ ap (input_verdict bytes) verdict ∙ sym b.verdict)
    (a.totals ∙ tally ∙ sym b.totals)
    (a.opened ∙ opened ∙ sym b.opened)
  where
    verdict : a.outcome.verdict ≡ b.outcome.verdict
    verdict = rightly_only limit (recording_in bytes) (judged_in bytes) a.outcome.verdict b.outcome.verdict a.exact.verdict b.exact.verdict

    at : counted (judged_in bytes) a.outcome.verdict ≡ counted (judged_in bytes) b.outcome.verdict
    at = ap (counted (judged_in bytes)) verdict

    tally : a.outcome.tally ≡ b.outcome.tally
    tally = totals-only (recording_in bytes).lines (counted (judged_in bytes) b.outcome.verdict) a.outcome.tally b.outcome.tally (subst (λ k. Totals (recording_in bytes).lines k a.outcome.tally) at a.exact.totals) b.exact.totals

    opened : is_open a.outcome.judge.transfer ≡ is_open b.outcome.judge.transfer
    opened = same_test (is_open a.outcome.judge.transfer) (is_open b.outcome.judge.transfer) (subst (λ k. (is_open a.outcome.judge.transfer ≡ true) ↔ OpenAt (recording_in bytes) k) at a.exact.opened) b.exact.opened

    same : (v w : Verdict) (t u : Tally) (o p : Bool) → v ≡ w → t ≡ u → o ≡ p → ◌≡◌ {A = Ending} (record { verdict = v; tally = t; opened = o }) (record { verdict = w; tally = u; opened = p })
    same v w t u o p x y z = cc

-- after the 2^30th record no piece changes the totals or the judge's state
full : (s : Stream) (piece : List ℕ) → s.tally.records ≡ most_records → ((feed_of s piece).tally ≡ s.tally) × ((feed_of s piece).judge ≡ s.judge)
unfolding feed_of gone_on taken_in
full s piece e =
    choice (λ (x : Stream). (x.tally ≡ s.tally) × (x.judge ≡ s.judge)) (goes s.stop) (λ _. (ap (λ (p : Progress). p.tally) none, ap (λ (p : Progress). p.judge) none)) (λ _. (refl, refl))
  where
    none : judged_of s.judge s.tally (torn_of s ++ piece) ≡ from s.judge s.tally
    none = let z : taken_in s.tally (torn_of s ++ piece) ≡ 0 = omega arith in ap (λ (k : ℕ). run_of (from s.judge s.tally) (records_in k (torn_of s ++ piece))) z

pub lawful_limits : (limit : ℕ) → lawful_limit limit ≡ true → (1 ≤ limit) × (limit ≤ 16)
lawful_limits limit e = let z = and_both (leb 1 limit) (leb limit 16) e in (leb-true 1 limit z.0, leb-true limit 16 z.1)

-- THE PROMISE
pub feeding : (limit : ℕ) → lawful_limit limit ≡ true → Feeding limit
unfolding fresh_of
feeding limit e =
    let low = (lawful_limits limit e).0 in
    let high = (lawful_limits limit e).1 in
    record {
      begins = cond-true _ _ e;
      accepts = accepts limit low high;
      says = says limit low high;
      right = right limit low high;
      only = answers_only limit;
      ended = λ pieces more stops. fed-ended (fed_all (fresh_stream limit) pieces) more stops;
      rest = rest-same limit low high;
      full = λ pieces piece records. full (fed_all (fresh_stream limit) pieces) piece records;
    }

-- what whoever fed pieces and finishes is told
pub finished : (s : Stream) (r : Ending) → r ≡ finish_of s → (limit : ℕ) (pieces : List (List ℕ)) → lawful_limit limit ≡ true → s ≡ fed_all (fresh_stream limit) pieces → Answers limit (joined pieces) r
finished s r e limit pieces lawful fed =
    let h = feeding limit lawful in
    subst (Answers limit (joined pieces)) (sym (e ∙ ap finish_of fed ∙ h.says pieces)) (h.right (joined pieces))

-- the same, as the contract of `finish` has it
pub finished_as : (s : Stream) (r : Ending) → r ≡ finish_of s → (r ≡ finish_of s) × ((limit : ℕ) (pieces : List (List ℕ)) → lawful_limit limit ≡ true → s ≡ fed_all (fresh_stream limit) pieces → Answers limit (joined pieces) r)
finished_as s r e = (e, finished s r e)

pub ended_in : (s : Stream) (v : Verdict) (o : Bool) → stream_bounds s ≡ true → v ≡ last_verdict s.stop s.held → o ≡ is_open s.judge.transfer → record { verdict = v; tally = s.tally; opened = o } ≡ finish_of s
unfolding finish_of
ended_in s v o b ve oe =
    ap (λ (x : Verdict). record { verdict = x; tally = s.tally; opened = o }) ve
    ∙ ap (λ (x : Bool). record { verdict = last_verdict s.stop s.held; tally = s.tally; opened = x }) oe
    ∙ sym (cond-true _ _ b)

pub ended_out : (s : Stream) (t : Tally) → stream_bounds s ≡ false → t ≡ zero_tally → record { verdict = OutOfBounds; tally = t; opened = false } ≡ finish_of s
unfolding finish_of
ended_out s t b e = ap (λ (x : Tally). record { verdict = OutOfBounds; tally = x; opened = false }) e ∙ sym (cond-false _ _ b)
