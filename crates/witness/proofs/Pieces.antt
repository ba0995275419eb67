-- Piece after piece is as all the bytes at once, and what is said at the end is right of the recording itself. Assumes nothing.
use Prim.Native.Nat.{ℕ, suc, ◌+◌, ◌-◌, ◌*◌, ◌%◌, ◌≤◌, ◌<◌}
use mathlib.Core.Bool.{Bool, true, false, cond, false≢true}
use mathlib.Core.List.{List, [], ◌∷◌, ◌++◌, append-nil}
use mathlib.Core.Path.{◌≡◌, refl, sym, ap, subst, ◌∙◌}
use mathlib.Core.Logic.{inl, inr}
use native.Mathlib.Omega.{arith}
use lib.Dec.{eqb, ltb}
use lib.ListN.{length, take, drop, replicate, length-append, length-drop}
use lib.Seq.{length-take-le, take-append-le, take-append_seam, drop-append-le, drop-drop}
use borrow.Author.Tests.{eqb-true, eqb-false, le-ltb}
use Rattle.basics.proofs.Bools.{choice, by-test, cond-true, cond-false}
use Rattle.basics.specs.Answers.{accepted}
use Rattle.rules.specs.declared.Broken.{Broken}
use Rattle.rules.specs.declared.Judge.{Judge}
use Rattle.rules.specs.declared.Progress.{Progress}
use Rattle.rules.specs.declared.Verdict.{Verdict}
use Rattle.rules.specs.declared.Verdict.TheVariants.{Conforming, Breach, OutOfBounds, TooMany, Torn}
use Rattle.rules.specs.declared.Outcome.{Outcome}
use Rattle.rules.specs.Names.{rule_in}
use Rattle.rules.specs.State.{fresh_judge, zero_tally, diff_of}
use Rattle.rules.specs.Run.{Taken, rule_of, from, next_of, run_of, records_in}
use Rattle.rules.specs.Verdict.{most_records, broken_by, verdict_of}
use Rattle.rules.specs.Recording.{recording_in, sixteen}
use Rattle.rules.proofs.Laws.{step_good, step_bad, next_open, next_stopped, fresh-sound, arb-le}
use Rattle.rules.proofs.Reach.{Reached, Ended, reached}
use Rattle.rules.proofs.Told.{zero-sound}
use Rattle.feeding.specs.declared.Stop.TheVariants.{Going}
use Rattle.feeding.specs.declared.Stream.{Stream}
use Rattle.feeding.specs.declared.Ending.{Ending}
use Rattle.feeding.specs.Input.{whole_in, judged_in, end_of, input_verdict, ending_of}
use Rattle.feeding.specs.State.{goes, padded, torn_of, taken_in, state_with, state_after, gone_on, fresh_stream, feed_of}
use Rattle.feeding.proofs.GoOn.{judged_of, taken-fits, outcome-taken, run_more, run_count, breach-verdict, conforming_verdict, after-breach, after-past, after-going, feed_ended, feed_more, going-within}
use Rattle.feeding.proofs.Feeding.{input_state, fed-all, state_bounds, ending_is, finish_is}
use Rattle.why.specs.declared.Figures.{Figures}
use Rattle.why.specs.Figures.{figures}
use Rattle.why.specs.Found.{Found}
use Rattle.why.proofs.Tied.{figures-right}
use Rattle.witness.specs.declared.Witness.{Witness}
use Rattle.witness.specs.State.{broken_figures, figures_by, no_record, caught_in, fresh_witness, note_of, noted_of, reason_in}
use Rattle.witness.specs.Input.{state_at, place_in, reason_of, Explained}

-- ---- a run counts no record back
next_up : (p : Progress) (r : Taken) → p.tally.records ≤ (next_of p r).tally.records
next_up p r = by-test (eqb p.rule 0) (λ e. open_up (eqb-true p.rule 0 e)) (λ e. let same : (next_of p r).tally.records ≡ p.tally.records = ap (λ (q : Progress). q.tally.records) (next_stopped p r (eqb-false p.rule 0 e)) in omega arith)
  where
    n : ℕ
    n = (rule_of p.judge r (diff_of p.judge r.lines.stamp)).number

    open_up : p.rule ≡ 0 → p.tally.records ≤ (next_of p r).tally.records
    open_up z =
        by-test (eqb n 0)
        (λ e. let one : (next_of p r).tally.records ≡ p.tally.records + 1 = ap (λ (q : Progress). q.tally.records) (next_open p r z ∙ step_good p.judge p.tally r (eqb-true n 0 e)) in let y : p.tally.records ≤ (next_of p r).tally.records = omega arith in y)
        (λ e. let none : (next_of p r).tally.records ≡ p.tally.records = ap (λ (q : Progress). q.tally.records) (next_open p r z ∙ step_bad p.judge p.tally r (eqb-false n 0 e)) in let y : p.tally.records ≤ (next_of p r).tally.records = omega arith in y)

run_up : (p : Progress) (rs : List Taken) → p.tally.records ≤ (run_of p rs).tally.records
run_up p [] = omega arith
run_up p (r ∷ rs) = let a = next_up p r in let b = run_up (next_of p r) rs in omega arith

-- ---- sixteen bytes
-- a record that stands whole in x
whole_same : (x y : List ℕ) (k : ℕ) → suc k * 16 ≤ length x → sixteen (x ++ y) k ≡ sixteen x k
whole_same x y k fits =
    let size = length-drop (k * 16) x in
    ap (take 16) (drop-append-le (k * 16) x y (omega arith)) ∙ take-append-le 16 (drop (k * 16) x) y (omega arith)

padded-whole : (x : List ℕ) (k : ℕ) → suc k * 16 ≤ length x → padded (sixteen x k) ≡ sixteen x k
unfolding padded
padded-whole x k fits =
    let size = length-drop (k * 16) x in
    let long : length (sixteen x k) ≡ 16 = length-take-le 16 (drop (k * 16) x) (omega arith) in
    let none : 16 - length (sixteen x k) ≡ 0 = omega arith in
    ap (λ (n : ℕ). sixteen x k ++ replicate n 0) none ∙ append-nil (sixteen x k)

-- a verdict that the end of an input gives is no breach
abbrev is_breach : Verdict → Bool
is_breach Conforming = false
is_breach (Breach b) = true
is_breach OutOfBounds = false
is_breach TooMany = false
is_breach Torn = false

end-not : (bytes : List ℕ) → is_breach (end_of bytes) ≡ false
unfolding end_of
end-not bytes =
    let P : Verdict → Type 0 = λ v. is_breach v ≡ false in
    choice P (ltb most_records (whole_in bytes)) (λ _. refl) (λ _. choice P (eqb (length bytes % 16) 0) (λ _. refl) (λ _. refl))

no_figures : (v : Verdict) (j : Judge) (a : List ℕ) → is_breach v ≡ false → figures_by v j a ≡ figures 0 0
no_figures Conforming j a e = refl
no_figures (Breach b) j a e = absurd (false≢true (sym e))
no_figures OutOfBounds j a e = refl
no_figures TooMany j a e = refl
no_figures Torn j a e = refl

abbrev broken_in : Broken → Verdict → Broken
broken_in d Conforming = d
broken_in d (Breach b) = b
broken_in d OutOfBounds = d
broken_in d TooMany = d
broken_in d Torn = d

module _ (limit : ℕ) (low : 1 ≤ limit) (high : limit ≤ 16) where
  abbrev judged : List ℕ → Progress
  judged bytes = judged_of (fresh_judge limit) zero_tally bytes

  -- the state of all the bytes at once
  abbrev pub witness_of : List ℕ → Witness
  witness_of bytes = record { stream = input_state limit bytes; bytes = caught_in (input_state limit bytes).stop 0 bytes }

  -- what is kept of a record, by whether a rule is broken
  caught_is : (bytes : List ℕ) (n : ℕ) (l : List ℕ) → caught_in (input_state limit bytes).stop n l ≡ cond (eqb (judged bytes).rule 0) no_record (padded (sixteen l ((judged bytes).tally.records - n)))
  unfolding gone_on
  caught_is bytes n l = by-test (eqb p.rule 0) (λ e. unbroken (ltb most_records (0 + whole_in bytes)) (eqb-true p.rule 0 e) ∙ sym (cond-true _ _ e)) (λ e.
      ap (λ (s : Stream). caught_in s.stop n l) (after-breach (ltb most_records (0 + whole_in bytes)) p rest (eqb-false p.rule 0 e)) ∙ sym (cond-false _ _ e))
    where
      p : Progress
      p = judged bytes

      rest : List ℕ
      rest = drop (whole_in bytes * 16) bytes

      unbroken : (past : Bool) → p.rule ≡ 0 → caught_in (state_after past p rest).stop n l ≡ no_record
      unbroken true z = ap (λ (s : Stream). caught_in s.stop n l) (after-past p rest z)
      unbroken false z = ap (λ (s : Stream). caught_in s.stop n l) (after-going p rest z)

  -- the record at a breach stands whole in the bytes
  breach-within : (bytes : List ℕ) → ((judged bytes).rule ≡ 0 → ⊥) → suc (judged bytes).tally.records * 16 ≤ length bytes
  breach-within bytes ne = by_end h.ends
    where
      h : Reached limit (recording_in bytes) (taken_in zero_tally bytes) (judged bytes)
      h = reached limit bytes (taken_in zero_tally bytes) low high

      by_end : Ended limit (recording_in bytes) (taken_in zero_tally bytes) (judged bytes) h.place → suc (judged bytes).tally.records * 16 ≤ length bytes
      by_end (inl e) = absurd (ne e.0)
      by_end (inr e) = let lt : h.place < taken_in zero_tally bytes = e.1 in let at = h.before.totals.records in let fits = taken-fits zero_tally bytes in omega arith

  -- ---- piece after piece
  module _ (x y : List ℕ) where
    fed_is : feed_of (input_state limit x) y ≡ input_state limit (x ++ y)
    fed_is = feed_more (fresh_judge limit) zero_tally (omega arith) x y

    module _ (g : goes (input_state limit x).stop ≡ true) where
      unbroken_yet : (judged x).rule ≡ 0
      unfolding gone_on
      unbroken_yet =
          by-test (eqb (judged x).rule 0) (eqb-true (judged x).rule 0)
          (λ e. absurd (false≢true (sym (ap (λ (s : Stream). goes s.stop) (after-breach (ltb most_records (0 + whole_in x)) (judged x) (drop (whole_in x * 16) x) (eqb-false (judged x).rule 0 e))) ∙ g)))

      waiting : input_state limit x ≡ state_with Going (judged x).judge (judged x).tally (drop (whole_in x * 16) x)
      unfolding gone_on
      waiting =
          let room = going-within (fresh_judge limit) zero_tally x g in
          ap (λ (b : Bool). state_after b (judged x) (drop (whole_in x * 16) x)) (under room) ∙ after-going (judged x) (drop (whole_in x * 16) x) unbroken_yet
        where
          under : 0 + whole_in x ≤ most_records → ltb most_records (0 + whole_in x) ≡ false
          under le = le-ltb most_records (0 + whole_in x) le

      counted : (judged x).tally.records ≡ whole_in x
      unfolding taken_in
      counted =
          let room = going-within (fresh_judge limit) zero_tally x g in
          let c = run_count (from (fresh_judge limit) zero_tally) (taken_in zero_tally x) x refl unbroken_yet in
          omega arith

      torn_is : torn_of (input_state limit x) ++ y ≡ drop (whole_in x * 16) (x ++ y)
      unfolding padded
      torn_is =
          ap (λ (s : Stream). torn_of s ++ y) waiting
          ∙ ap (λ (l : List ℕ). l ++ y) (take-append_seam (drop (whole_in x * 16) x) (replicate (16 - length (drop (whole_in x * 16) x)) 0))
          ∙ sym (drop-append-le (whole_in x * 16) x y (omega arith))

      no_fewer : whole_in x ≤ (judged (x ++ y)).tally.records
      unfolding taken_in
      no_fewer =
          let long = length-append x y in
          let m : ℕ = taken_in zero_tally x in
          let n : ℕ = taken_in zero_tally (x ++ y) in
          let up = run_up (judged x) (records_in (n - m) (drop (m * 16) x ++ y)) in
          let is : (judged (x ++ y)).tally.records ≡ (run_of (judged x) (records_in (n - m) (drop (m * 16) x ++ y))).tally.records = ap (λ (q : Progress). q.tally.records) (run_more (from (fresh_judge limit) zero_tally) m n x y (omega arith) (taken-fits zero_tally x)) in
          let c = counted in
          omega arith

      same_place : (k : ℕ) → whole_in x ≤ k → sixteen (torn_of (input_state limit x) ++ y) (k - (input_state limit x).tally.records) ≡ sixteen (x ++ y) (k - 0)
      same_place k le =
          let records : (input_state limit x).tally.records ≡ whole_in x = ap (λ (s : Stream). s.tally.records) waiting ∙ counted in
          let at : whole_in x * 16 + (k - (input_state limit x).tally.records) * 16 ≡ (k - 0) * 16 = omega arith in
          ap (λ (l : List ℕ). sixteen l (k - (input_state limit x).tally.records)) torn_is
          ∙ ap (take 16) (drop-drop ((k - (input_state limit x).tally.records) * 16) (whole_in x * 16) (x ++ y) ∙ ap (λ (n : ℕ). drop n (x ++ y)) at)

      more-going : note_of (witness_of x) y ≡ witness_of (x ++ y)
      unfolding note_of
      more-going =
          cond-true _ _ g
          ∙ ap (λ (s : Stream). record { stream = s; bytes = caught_in s.stop (input_state limit x).tally.records (torn_of (input_state limit x) ++ y) }) fed_is
          ∙ ap (λ (l : List ℕ). record { stream = input_state limit (x ++ y); bytes = l })
          (caught_is (x ++ y) (input_state limit x).tally.records (torn_of (input_state limit x) ++ y)
          ∙ ap (λ (l : List ℕ). cond (eqb (judged (x ++ y)).rule 0) no_record (padded l)) (same_place (judged (x ++ y)).tally.records no_fewer)
          ∙ sym (caught_is (x ++ y) 0 (x ++ y)))

    module _ (g : goes (input_state limit x).stop ≡ false) where
      pub ended_same : input_state limit (x ++ y) ≡ input_state limit x
      ended_same = sym fed_is ∙ feed_ended (input_state limit x) y g

      kept_same : caught_in (input_state limit x).stop 0 x ≡ caught_in (input_state limit x).stop 0 (x ++ y)
      kept_same =
          caught_is x 0 x
          ∙ by-test (eqb (judged x).rule 0)
          (λ e. cond-true _ _ e ∙ sym (cond-true _ _ e))
          (λ e.
          let fits = breach-within x (eqb-false (judged x).rule 0 e) in
          ap (λ (l : List ℕ). cond (eqb (judged x).rule 0) no_record (padded l)) (sym (whole_same x y ((judged x).tally.records - 0) (omega arith))))
          ∙ sym (caught_is x 0 (x ++ y))

      more-ended : note_of (witness_of x) y ≡ witness_of (x ++ y)
      unfolding note_of
      more-ended =
          cond-false _ _ g
          ∙ ap (λ (l : List ℕ). record { stream = input_state limit x; bytes = l }) kept_same
          ∙ ap (λ (s : Stream). record { stream = s; bytes = caught_in s.stop 0 (x ++ y) }) (sym ended_same)

    -- A PIECE AFTER A PIECE is as both at once
    pub note_more : note_of (witness_of x) y ≡ witness_of (x ++ y)
    note_more = by-test (goes (input_state limit x).stop) more-going more-ended

    -- and no piece is refused
    pub noted_more : noted_of (witness_of x) y ≡ accepted (witness_of (x ++ y))
    unfolding noted_of
    noted_more = cond-true _ _ (state_bounds limit low high x) ∙ ap accepted note_more

  -- an input from the start
  pub witness_fresh : fresh_witness limit ≡ witness_of []
  unfolding fresh_stream
  witness_fresh = ap (λ (s : Stream). record { stream = s; bytes = caught_in s.stop 0 [] }) (fed-all limit [])

  -- ---- the end
  state_is : (bytes : List ℕ) → (input_state limit bytes).judge ≡ state_at limit bytes
  unfolding gone_on state_at judged_in taken_in
  state_is bytes = sym (ap (λ (o : Outcome). o.judge) (outcome-taken bytes (fresh_judge limit) zero_tally (fresh-sound limit low high) zero-sound (omega arith)))

  verdict_is : (bytes : List ℕ) → (ending_of limit bytes).verdict ≡ input_verdict bytes (verdict_of (judged bytes))
  verdict_is bytes = ap (λ (e : Ending). e.verdict) (ending_is limit low high bytes)

  verdict-breach : (bytes : List ℕ) → ((judged bytes).rule ≡ 0 → ⊥) → (ending_of limit bytes).verdict ≡ Breach (broken_by (judged bytes))
  verdict-breach bytes ne = verdict_is bytes ∙ ap (input_verdict bytes) (breach-verdict (judged bytes) ne)

  verdict-end : (bytes : List ℕ) → (judged bytes).rule ≡ 0 → is_breach (ending_of limit bytes).verdict ≡ false
  verdict-end bytes z = ap is_breach (verdict_is bytes ∙ ap (input_verdict bytes) (conforming_verdict (judged bytes) z)) ∙ end-not bytes

  -- the record that is kept is the one at the breach
  same-figures : (bytes : List ℕ) (j : Judge) → figures_by (ending_of limit bytes).verdict j (caught_in (input_state limit bytes).stop 0 bytes) ≡ figures_by (ending_of limit bytes).verdict j (sixteen bytes (place_in (ending_of limit bytes).verdict))
  same-figures bytes j = by-test (eqb (judged bytes).rule 0)
      (λ e. let none = verdict-end bytes (eqb-true (judged bytes).rule 0 e) in no_figures (ending_of limit bytes).verdict j (caught_in (input_state limit bytes).stop 0 bytes) none ∙ sym (no_figures (ending_of limit bytes).verdict j (sixteen bytes (place_in (ending_of limit bytes).verdict)) none))
      (λ e.
      let ne = eqb-false (judged bytes).rule 0 e in
      let fits = breach-within bytes ne in
      let kept : caught_in (input_state limit bytes).stop 0 bytes ≡ sixteen bytes ((judged bytes).tally.records - 0) = caught_is bytes 0 bytes ∙ cond-false _ _ e ∙ padded-whole bytes ((judged bytes).tally.records - 0) (omega arith) in
      let at : (judged bytes).tally.records - 0 ≡ (judged bytes).tally.records = omega arith in
      ap (λ (l : List ℕ). figures_by (ending_of limit bytes).verdict j l) (kept ∙ ap (sixteen bytes) (at ∙ sym (ap place_in (verdict-breach bytes ne)))))

  pub reason_is : (bytes : List ℕ) → reason_in (witness_of bytes) ≡ reason_of limit bytes
  unfolding reason_in reason_of
  reason_is bytes =
      ap (λ (e : Ending). record { ending = e; figures = figures_by e.verdict (input_state limit bytes).judge (caught_in (input_state limit bytes).stop 0 bytes) }) (finish_is limit low high bytes)
      ∙ ap (λ (f : Figures). record { ending = ending_of limit bytes; figures = f })
      (same-figures bytes (input_state limit bytes).judge
      ∙ ap (λ (j : Judge). figures_by (ending_of limit bytes).verdict j (sixteen bytes (place_in (ending_of limit bytes).verdict))) (state_is bytes))

  -- what is behind the bytes once the judging has ended changes nothing
  pub rest-same : (bytes rest : List ℕ) → goes (input_state limit bytes).stop ≡ false → reason_of limit (bytes ++ rest) ≡ reason_of limit bytes
  unfolding note_of
  rest-same bytes rest g = sym (reason_is (bytes ++ rest)) ∙ ap reason_in (sym (note_more bytes rest) ∙ cond-false _ _ g) ∙ reason_is bytes

  -- ---- the figures are those of the recording
  found_at : (bytes : List ℕ) → ((judged bytes).rule ≡ 0 → ⊥) → Found limit (recording_in bytes) (judged bytes).tally.records (rule_in (broken_by (judged bytes))) (broken_figures (broken_by (judged bytes)) (judged bytes).judge (sixteen bytes (judged bytes).tally.records))
  unfolding broken_figures
  found_at bytes ne = by_end h.ends
    where
      p : Progress
      p = judged bytes

      h : Reached limit (recording_in bytes) (taken_in zero_tally bytes) p
      h = reached limit bytes (taken_in zero_tally bytes) low high

      by_end : Ended limit (recording_in bytes) (taken_in zero_tally bytes) p h.place → Found limit (recording_in bytes) p.tally.records (rule_in (broken_by p)) (broken_figures (broken_by p) p.judge (sixteen bytes p.tally.records))
      by_end (inl e) = absurd (ne e.0)
      by_end (inr e) =
          subst (λ k. Found limit (recording_in bytes) k (rule_in (broken_by p)) (broken_figures (broken_by p) p.judge (sixteen bytes k))) (sym h.before.totals.records)
          (figures-right limit (recording_in bytes) h.place p.judge h.before.judge (arb-le (sixteen bytes h.place)) (rule_in (broken_by p)) e.2)

  pub explained : (bytes : List ℕ) → Explained limit bytes (reason_of limit bytes)
  unfolding reason_of gone_on
  explained bytes b e = by-test (eqb (judged bytes).rule 0)
      (λ z. absurd (false≢true (sym (verdict-end bytes (eqb-true (judged bytes).rule 0 z)) ∙ ap is_breach e)))
      (λ z.
      let ne = eqb-false (judged bytes).rule 0 z in
      let same : broken_by (judged bytes) ≡ b = ap (broken_in b) (sym (verdict-breach bytes ne) ∙ e) in
      subst (λ (v : Verdict). Found limit (recording_in bytes) b.place (rule_in b) (figures_by v (state_at limit bytes) (sixteen bytes (place_in v)))) (sym e)
      (subst (λ (j : Judge). Found limit (recording_in bytes) b.place (rule_in b) (broken_figures b j (sixteen bytes b.place))) (state_is bytes)
      (subst (λ (x : Broken). Found limit (recording_in bytes) x.place (rule_in x) (broken_figures x (judged bytes).judge (sixteen bytes x.place))) same (found_at bytes ne))))
