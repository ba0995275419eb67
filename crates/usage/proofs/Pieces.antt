-- Whatever the pieces are, the account is that of the whole input. Assumes nothing.
use Prim.Native.Nat.{ℕ, ◌+◌, ◌-◌, ◌*◌, ◌/◌, ◌≤◌}
use mathlib.Core.Bool.{Bool, true, false, false≢true}
use mathlib.Core.List.{List, [], ◌∷◌, ◌++◌, append_assoc, append-nil}
use mathlib.Core.Path.{◌≡◌, refl, sym, ap, subst, ◌∙◌}
use native.Mathlib.Omega.{arith}
use lib.ListN.{length, take, drop, get_or, replicate, length-replicate, take-append-drop}
use lib.Seq.{length-take-le, take-append_seam, ext_get_or}
use lib.Dec.{eqb, ltb}
use borrow.Author.Tests.{eqb-true, eqb-false, ltb-false}
use Rattle.basics.specs.Numbers.{lawful_limit}
use Rattle.basics.proofs.Bools.{by-test, both_and, cond-true}
use Rattle.entries.specs.declared.Entry.{Entry}
use Rattle.entries.specs.Entries.{zero_entry}
use Rattle.rules.specs.declared.Judge.{Judge}
use Rattle.rules.specs.declared.Tally.{Tally}
use Rattle.rules.specs.declared.Progress.{Progress}
use Rattle.rules.specs.declared.Verdict.{Verdict}
use Rattle.rules.specs.Recording.{recording_in}
use Rattle.rules.specs.Run.{Taken, records_in, from, run_of}
use Rattle.rules.specs.State.{fresh_judge, zero_tally}
use Rattle.rules.specs.Verdict.{most_records, broken_by, verdict_of}
use Rattle.rules.specs.Exact.{joined}
use Rattle.rules.proofs.Laws.{fresh-sound, refusal-none}
use Rattle.rules.proofs.Told.{start, fresh_of_lem, zero-sound, records-take}
use Rattle.feeding.specs.declared.Stop.TheVariants.{Going}
use Rattle.feeding.specs.declared.Stream.{Stream}
use Rattle.feeding.specs.declared.Ending.{Ending}
use Rattle.feeding.specs.Input.{whole_in, ending_of}
use Rattle.feeding.specs.State.{goes, padded, torn_of, taken_in, kept_of, state_with, state_after, gone_on, fresh_stream, feed_of}
use Rattle.feeding.specs.Pieces.{fed_all}
use Rattle.feeding.proofs.GoOn.{judged_of, taken-fits, run_count, breach-verdict, conforming_verdict, after-breach, after-past, after-going, feed_ended, feed_going, feed_more}
use Rattle.feeding.proofs.Feeding.{input_state, state_bounds, ending_is, finish_is, right, answers_only, lawful_limits, feeding}
use Rattle.usage.specs.declared.Ledger.{Ledger}
use Rattle.usage.specs.declared.Closing.{Closing}
use Rattle.usage.specs.declared.Accounted.{Accounted}
use Rattle.usage.specs.Using.{Used, UsedBy}
use Rattle.usage.specs.Charge.{none_used, Passes, account_of}
use Rattle.usage.specs.Calls.{entries_bounds, accounted_in, accounted_of}
use Rattle.usage.specs.Told.{AfterUse, fresh as freshUse, later as laterUse}
use Rattle.usage.specs.Pieces.{ledger_bounds, fresh_ledger, begun_of, post_of, posted_of, closing_of, Accounts, reckoning_of, posted_all, Reckoning}
use Rattle.usage.proofs.Running.{state_of, run_passes, passed, account-append, records-more}
use Rattle.usage.proofs.Counting.{used, used_only}
use Rattle.usage.proofs.Calling.{accounted_judged, refusal-same, past_bounds}
use Rattle.usage.proofs.Telling.{breach-leaves}

-- ---- the records that are counted
-- the first m records of some bytes are those of more bytes
pub records-front : (m : ℕ) (x y : List ℕ) → m * 16 ≤ length x → records_in m (x ++ y) ≡ records_in m x
records-front m x y fits =
    let z : m - m ≡ 0 = omega arith in
    records-more m m x y (omega arith) fits
    ∙ ap (λ (k : ℕ). records_in m x ++ records_in k (drop (m * 16) x ++ y)) z
    ∙ append-nil (records_in m x)

-- an input's state, with the account of the records that it counts
abbrev ledger_in : ℕ → List ℕ → Ledger
ledger_in limit bytes =
    record {
      stream = input_state limit bytes;
      entries = account_of (fresh_judge limit) none_used (records_in (judged_of (fresh_judge limit) zero_tally bytes).tally.records bytes);
    }

-- ---- piece after piece
-- a state that waits for more has judged all whole records, and holds the rest
record Waits (j : Judge) (t : Tally) (x : List ℕ) : Type 0 where
  unbroken : (judged_of j t x).rule ≡ 0
  within : t.records + whole_in x ≤ most_records
  is : gone_on j t x ≡ state_with Going (judged_of j t x).judge (judged_of j t x).tally (drop (whole_in x * 16) x)

waits : (j : Judge) (t : Tally) (x : List ℕ) → goes (gone_on j t x).stop ≡ true → Waits j t x
unfolding gone_on
waits j t x g =
    by-test (eqb p.rule 0)
    (λ e. let z = eqb-true p.rule 0 e in
    by-test (ltb most_records (t.records + whole_in x))
    (λ over. absurd (false≢true (sym (ap (λ (s : Stream). goes s.stop) (ap (λ (b : Bool). state_after b p rest) over ∙ after-past p rest z)) ∙ g)))
    (λ under. record { unbroken = z; within = ltb-false most_records (t.records + whole_in x) under; is = ap (λ (b : Bool). state_after b p rest) under ∙ after-going p rest z }))
    (λ e. absurd (false≢true (sym (ap (λ (s : Stream). goes s.stop) (after-breach (ltb most_records (t.records + whole_in x)) p rest (eqb-false p.rule 0 e))) ∙ g)))
  where
    p : Progress
    p = judged_of j t x

    rest : List ℕ
    rest = drop (whole_in x * 16) x

taken-whole : (t : Tally) (x : List ℕ) → t.records + whole_in x ≤ most_records → taken_in t x ≡ whole_in x
unfolding taken_in
taken-whole t x le = omega arith

torn_is : (j : Judge) (t : Tally) (rest : List ℕ) → torn_of (state_with Going j t rest) ≡ rest
unfolding padded
torn_is j t rest = take-append_seam rest (replicate (16 - length rest) 0)

gone_tally : (j : Judge) (t : Tally) (x : List ℕ) → (gone_on j t x).tally ≡ (judged_of j t x).tally
unfolding gone_on
gone_tally j t x = refl

gone_judge : (j : Judge) (t : Tally) (x : List ℕ) → (gone_on j t x).judge ≡ (judged_of j t x).judge
unfolding gone_on
gone_judge j t x = refl

module _ (limit : ℕ) (x y : List ℕ) where
  abbrev j : Judge
  j = fresh_judge limit

  -- before and after the piece
  abbrev p : Progress
  p = judged_of (fresh_judge limit) zero_tally x

  abbrev q : Progress
  q = judged_of (fresh_judge limit) zero_tally (x ++ y)

  front_fits : p.tally.records * 16 ≤ length x
  front_fits =
      let a = (passed (taken_in zero_tally x) j zero_tally x).most in
      let b = taken-fits zero_tally x in
      omega arith

  more : feed_of (input_state limit x) y ≡ input_state limit (x ++ y)
  more = feed_more (fresh_judge limit) zero_tally (omega arith) x y

  records-after : (feed_of (input_state limit x) y).tally.records ≡ q.tally.records
  records-after = ap (λ (s : Stream). s.tally.records) more ∙ ap (λ (t : Tally). t.records) (gone_tally j zero_tally (x ++ y))

  records-before : (input_state limit x).tally.records ≡ p.tally.records
  records-before = ap (λ (t : Tally). t.records) (gone_tally j zero_tally x)

  -- the entries that a piece leaves
  abbrev left : List Entry
  left = account_of (input_state limit x).judge (ledger_in limit x).entries (records_in ((feed_of (input_state limit x) y).tally.records - (input_state limit x).tally.records) (torn_of (input_state limit x) ++ y))

  left_ended : goes (input_state limit x).stop ≡ false → left ≡ (ledger_in limit (x ++ y)).entries
  left_ended e =
      let stays = feed_ended (input_state limit x) y e in
      let still : (feed_of (input_state limit x) y).tally.records ≡ (input_state limit x).tally.records = ap (λ (s : Stream). s.tally.records) stays in
      let none : (feed_of (input_state limit x) y).tally.records - (input_state limit x).tally.records ≡ 0 = omega arith in
      let same : p.tally.records ≡ q.tally.records = sym records-before ∙ sym still ∙ records-after in
      ap (λ (k : ℕ). account_of (input_state limit x).judge (ledger_in limit x).entries (records_in k (torn_of (input_state limit x) ++ y))) none
      ∙ ap (account_of (fresh_judge limit) none_used) (sym (records-front p.tally.records x y front_fits))
      ∙ ap (λ (k : ℕ). account_of (fresh_judge limit) none_used (records_in k (x ++ y))) same

  left_waits : Waits (fresh_judge limit) zero_tally x → left ≡ (ledger_in limit (x ++ y)).entries
  left_waits w =
      ap (λ (s : Judge). account_of s (ledger_in limit x).entries (records_in ((feed_of (input_state limit x) y).tally.records - (input_state limit x).tally.records) (torn_of (input_state limit x) ++ y))) state
      ∙ ap (λ (k : ℕ). account_of (state_of j (records_in p.tally.records x)) (ledger_in limit x).entries (records_in k (torn_of (input_state limit x) ++ y))) count
      ∙ ap (λ (l : List ℕ). account_of (state_of j (records_in p.tally.records x)) (ledger_in limit x).entries (records_in (q.tally.records - p.tally.records) (l ++ y))) torn
      ∙ sym (account-append j none_used (records_in p.tally.records x) (records_in (q.tally.records - p.tally.records) (drop (p.tally.records * 16) x ++ y)))
      ∙ ap (account_of j none_used) (sym (records-more p.tally.records q.tally.records x y grows front_fits))
    where
      all-counted : p.tally.records ≡ taken_in zero_tally x
      all-counted = let z = run_count (from j zero_tally) (taken_in zero_tally x) x refl w.unbroken in omega arith

      whole : p.tally.records ≡ whole_in x
      whole = all-counted ∙ taken-whole zero_tally x w.within

      count : (feed_of (input_state limit x) y).tally.records - (input_state limit x).tally.records ≡ q.tally.records - p.tally.records
      count = let a = records-after in let b = records-before in omega arith

      torn : torn_of (input_state limit x) ≡ drop (p.tally.records * 16) x
      torn = ap torn_of w.is ∙ torn_is p.judge p.tally (drop (whole_in x * 16) x) ∙ ap (λ (k : ℕ). drop (k * 16) x) (sym whole)

      state : (input_state limit x).judge ≡ state_of j (records_in p.tally.records x)
      state = gone_judge j zero_tally x ∙ (run_passes j zero_tally (records_in (taken_in zero_tally x) x) w.unbroken).1 ∙ ap (λ (k : ℕ). state_of j (records_in k x)) (sym all-counted)

      rest : List ℕ
      rest = drop (whole_in x * 16) x

      grows : p.tally.records ≤ q.tally.records
      grows =
          let next : (feed_of (input_state limit x) y).tally.records ≡ (judged_of p.judge p.tally (rest ++ y)).tally.records =
          ap (λ (s : Stream). (feed_of s y).tally.records) w.is
          ∙ ap (λ (s : Stream). s.tally.records) (feed_going p.judge p.tally rest y)
          ∙ ap (λ (t : Tally). t.records) (gone_tally p.judge p.tally (rest ++ y)) in
          let a = (passed (taken_in p.tally (rest ++ y)) p.judge p.tally (rest ++ y)).more in
          let b = records-after in
          omega arith

  post_more : post_of (ledger_in limit x) y ≡ ledger_in limit (x ++ y)
  unfolding post_of
  post_more = ledger_same more (by-test (goes (input_state limit x).stop) (λ g. left_waits (waits j zero_tally x g)) left_ended)
    where
      ledger_same : {s u : Stream} {a b : List Entry} → s ≡ u → a ≡ b → ◌≡◌ {A = Ledger} (record { stream = s; entries = a }) (record { stream = u; entries = b })
      ledger_same e f = cc

-- all the pieces
posted_on : (limit : ℕ) (x : List ℕ) (pieces : List (List ℕ)) → posted_all (ledger_in limit x) pieces ≡ ledger_in limit (x ++ joined pieces)
posted_on limit x [] = ap (ledger_in limit) (sym (append-nil x))
posted_on limit x (piece ∷ pieces) =
    ap (λ (l : Ledger). posted_all l pieces) (post_more limit x piece)
    ∙ posted_on limit (x ++ piece) pieces
    ∙ ap (ledger_in limit) (append_assoc x piece (joined pieces))

fresh_is : (limit : ℕ) → fresh_ledger limit ≡ ledger_in limit []
unfolding fresh_ledger fresh_stream gone_on taken_in verdict_of kept_of
fresh_is limit = refl

pub posted_all_lem : (limit : ℕ) (pieces : List (List ℕ)) → posted_all (fresh_ledger limit) pieces ≡ ledger_in limit (joined pieces)
posted_all_lem limit pieces = ap (λ (l : Ledger). posted_all l pieces) (fresh_is limit) ∙ posted_on limit [] pieces

pub post_stream : (l : Ledger) (pieces : List (List ℕ)) → (posted_all l pieces).stream ≡ fed_all l.stream pieces
unfolding post_of
post_stream l [] = refl
post_stream l (piece ∷ pieces) = post_stream (post_of l piece) pieces

post_ended : (l : Ledger) (piece : List ℕ) → goes l.stream.stop ≡ false → post_of l piece ≡ l
unfolding post_of
post_ended l piece e =
    let stays = feed_ended l.stream piece e in
    let z : l.stream.tally.records - l.stream.tally.records ≡ 0 = omega arith in
    ap (λ (s : Stream). record { stream = s; entries = account_of l.stream.judge l.entries (records_in (s.tally.records - l.stream.tally.records) (torn_of l.stream ++ piece)) }) stays
    ∙ ap (λ (k : ℕ). record { stream = l.stream; entries = account_of l.stream.judge l.entries (records_in k (torn_of l.stream ++ piece)) }) z

posted_ended : (l : Ledger) (more : List (List ℕ)) → goes l.stream.stop ≡ false → posted_all l more ≡ l
posted_ended l [] e = refl
posted_ended l (piece ∷ more) e = ap (λ (k : Ledger). posted_all k more) (post_ended l piece e) ∙ posted_ended l more e

-- ---- bounds
module _ (limit : ℕ) (low : 1 ≤ limit) (high : limit ≤ 16) (bytes : List ℕ) where
  abbrev run : Progress
  run = judged_of (fresh_judge limit) zero_tally bytes

  -- the bytes of the records that are judged
  abbrev part : List ℕ
  part = take (taken_in zero_tally bytes * 16) bytes

  size : length part ≡ taken_in zero_tally bytes * 16
  size = length-take-le (taken_in zero_tally bytes * 16) bytes (taken-fits zero_tally bytes)

  room : taken_in zero_tally bytes ≤ most_records
  unfolding taken_in
  room = omega arith

  abbrev call : Accounted
  call = accounted_of part (fresh_judge limit) zero_tally none_used

  call_is : call ≡ accounted_in part (fresh_judge limit) zero_tally none_used run
  call_is =
      let s = size in
      let r = room in
      let n : length part / 16 ≡ taken_in zero_tally bytes = omega arith in
      accounted_judged part (fresh_judge limit) zero_tally none_used
      (refusal-same (length part) (fresh_judge limit) zero_tally none_used refl (length-replicate 16 zero_entry)
      ∙ refusal-none (length part) (fresh_judge limit) zero_tally (fresh-sound limit low high) zero-sound (omega arith) (omega arith))
      ∙ ap (λ (k : ℕ). accounted_in part (fresh_judge limit) zero_tally none_used (run_of (start limit) (records_in k part))) n
      ∙ ap (λ (rs : List Taken). accounted_in part (fresh_judge limit) zero_tally none_used (run_of (start limit) rs)) (records-take (taken_in zero_tally bytes) bytes (taken-fits zero_tally bytes))

  begun : AfterUse limit [] (fresh_judge limit) zero_tally none_used
  begun = freshUse (fresh_of_lem limit low high)

  call_bounds : entries_bounds call.tally call.entries ≡ true
  call_bounds =
      by-test (eqb run.rule 0)
      (λ e. past_bounds limit part call.judge call.tally call.entries
      (laterUse part begun (ap (λ (v : Verdict). record { verdict = v; judge = call.judge; tally = call.tally; entries = call.entries }) (verdict_is ∙ conforming_verdict run (eqb-true run.rule 0 e)))))
      (λ e. past_bounds limit _ call.judge call.tally call.entries
      (breach-leaves limit [] part (fresh_judge limit) zero_tally none_used (broken_by run) begun (verdict_is ∙ breach-verdict run (eqb-false run.rule 0 e))))
    where
      verdict_is : call.verdict ≡ verdict_of run
      verdict_is = ap (λ (a : Accounted). a.verdict) call_is

  counted-passes : Passes (fresh_judge limit) (records_in run.tally.records bytes)
  counted-passes =
      let z : run.tally.records - 0 ≡ run.tally.records = omega arith in
      subst (λ (k : ℕ). Passes (fresh_judge limit) (records_in k bytes)) z (passed (taken_in zero_tally bytes) (fresh_judge limit) zero_tally bytes).pass

  entries_bounds_lem : entries_bounds run.tally (ledger_in limit bytes).entries ≡ true
  entries_bounds_lem =
      let s = size in
      let most = (passed (taken_in zero_tally bytes) (fresh_judge limit) zero_tally bytes).most in
      let z : run.tally.records - 0 ≡ run.tally.records = omega arith in
      let fits : run.tally.records * 16 ≤ length part = omega arith in
      let front : records_in run.tally.records bytes ≡ records_in run.tally.records part = ap (records_in run.tally.records) (sym (take-append-drop (taken_in zero_tally bytes * 16) bytes)) ∙ records-front run.tally.records part (drop (taken_in zero_tally bytes * 16) bytes) fits in
      ap (λ (rs : List Taken). entries_bounds run.tally (account_of (fresh_judge limit) none_used rs)) front
      ∙ ap (λ (k : ℕ). entries_bounds run.tally (account_of (fresh_judge limit) none_used (records_in k part))) (sym z)
      ∙ sym (ap (λ (a : Accounted). entries_bounds a.tally a.entries) call_is)
      ∙ call_bounds

  ledger_bounds_lem : ledger_bounds (ledger_in limit bytes) ≡ true
  unfolding ledger_bounds
  ledger_bounds_lem =
      both_and _ _ (state_bounds limit low high bytes)
      (ap (λ (t : Tally). entries_bounds t (ledger_in limit bytes).entries) (gone_tally (fresh_judge limit) zero_tally bytes) ∙ entries_bounds_lem)

  -- ---- what it comes to
  ending-tally : (ending_of limit bytes).tally ≡ run.tally
  ending-tally = ap (λ (e : Ending). e.tally) (ending_is limit low high bytes)

  closing_is : closing_of (ledger_in limit bytes) ≡ reckoning_of limit bytes
  unfolding closing_of reckoning_of
  closing_is =
      cond-true _ _ ledger_bounds_lem
      ∙ ap (λ (e : Ending). record { ending = e; entries = (ledger_in limit bytes).entries }) (finish_is limit low high bytes)
      ∙ ap (λ (t : Tally). record { ending = ending_of limit bytes; entries = account_of (fresh_judge limit) none_used (records_in t.records bytes) }) (sym ending-tally)

  reckoning_right : Accounts limit bytes (reckoning_of limit bytes)
  unfolding reckoning_of
  reckoning_right =
      record {
        ending = right limit low high bytes;
        account = subst (λ (t : Tally). UsedBy (recording_in bytes).lines t.records (account_of (fresh_judge limit) none_used (records_in t.records bytes))) (sym ending-tally) (used limit bytes run.tally.records low high counted-passes);
      }

accounts_only : (limit : ℕ) (bytes : List ℕ) (c d : Closing) → Accounts limit bytes c → Accounts limit bytes d → c ≡ d
accounts_only limit bytes c d a b = same c.ending d.ending c.entries d.entries ending entries
  where
    ending : c.ending ≡ d.ending
    ending = answers_only limit bytes c.ending d.ending a.ending b.ending

    place : c.ending.tally.records ≡ d.ending.tally.records
    place = ap (λ (e : Ending). e.tally.records) ending

    entries : c.entries ≡ d.entries
    entries =
        let x = a.account.sixteen in
        ext_get_or zero_entry c.entries d.entries (x ∙ sym b.account.sixteen) (λ s lt.
        used_only (recording_in bytes).lines s d.ending.tally.records (get_or c.entries s zero_entry) (get_or d.entries s zero_entry)
        (subst (λ (n : ℕ). Used (recording_in bytes).lines s n (get_or c.entries s zero_entry)) place (a.account.each s (omega arith))) (b.account.each s (omega arith)))

    same : (e f : Ending) (g h : List Entry) → e ≡ f → g ≡ h → ◌≡◌ {A = Closing} (record { ending = e; entries = g }) (record { ending = f; entries = h })
    same e f g h x y = cc

rest-same : (limit : ℕ) → lawful_limit limit ≡ true → (pieces : List (List ℕ)) (rest : List ℕ) → goes (fed_all (fresh_stream limit) pieces).stop ≡ false → reckoning_of limit (joined pieces ++ rest) ≡ reckoning_of limit (joined pieces)
unfolding reckoning_of
rest-same limit lawful pieces rest e =
    let x : List ℕ = joined pieces in
    let bounds = lawful_limits limit lawful in
    let fits : (ending_of limit x).tally.records * 16 ≤ length x = subst (λ (t : Tally). t.records * 16 ≤ length x) (sym (ending-tally limit bounds.0 bounds.1 x)) (front_fits limit x rest) in
    ap (λ (f : Ending). record { ending = f; entries = account_of (fresh_judge limit) none_used (records_in f.tally.records (x ++ rest)) }) ((feeding limit lawful).rest pieces rest e)
    ∙ ap (λ (rs : List Taken). record { ending = ending_of limit x; entries = account_of (fresh_judge limit) none_used rs }) (records-front (ending_of limit x).tally.records x rest fits)

-- ---- THE PROMISE
pub reckoning : (limit : ℕ) → lawful_limit limit ≡ true → Reckoning limit
unfolding begun_of posted_of fresh_ledger
reckoning limit lawful =
    let low = (lawful_limits limit lawful).0 in
    let high = (lawful_limits limit lawful).1 in
    record {
      begins = cond-true _ _ lawful;
      judges = λ pieces. post_stream (fresh_ledger limit) pieces;
      accepts = λ pieces piece. cond-true _ _ (ap ledger_bounds (posted_all_lem limit pieces) ∙ ledger_bounds_lem limit low high (joined pieces));
      says = λ pieces. ap closing_of (posted_all_lem limit pieces) ∙ closing_is limit low high (joined pieces);
      right = reckoning_right limit low high;
      only = accounts_only limit;
      ended = λ pieces more stops. posted_ended (posted_all (fresh_ledger limit) pieces) more stops;
      rest = λ pieces rest stops. rest-same limit lawful pieces rest (ap (λ (s : Stream). goes s.stop) (sym (post_stream (fresh_ledger limit) pieces)) ∙ stops);
    }

-- what whoever fed pieces and finishes is told, as the contract of `finish` has it
pub closed_as : (l : Ledger) (c : Closing) → c ≡ closing_of l → (c ≡ closing_of l) × ((limit : ℕ) (pieces : List (List ℕ)) → lawful_limit limit ≡ true → l ≡ posted_all (fresh_ledger limit) pieces → Accounts limit (joined pieces) c)
closed_as l c e = (
  e,
  λ limit pieces lawful fed. let h = reckoning limit lawful in
      subst (Accounts limit (joined pieces)) (sym (e ∙ ap closing_of fed ∙ h.says pieces)) (h.right (joined pieces)),
)
