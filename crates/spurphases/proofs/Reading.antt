-- Laws of what the program reads: the search that is fed keeps to what `reading` asks. Assumes nothing.
use Prim.Native.Nat.{ℕ, ◌<◌}
use mathlib.Core.Bool.{Bool, true, false, not, false≢true}
use mathlib.Core.List.{List, [], ◌∷◌, ◌++◌, append-nil}
use mathlib.Core.Path.{◌≡◌, refl, sym, ap, subst, ◌∙◌}
use native.Mathlib.Omega.{arith}
use lib.ListN.{length}
use lib.Dec.{leb, eqb}
use borrow.Author.Tests.{leb-true}
use Rattle.basics.proofs.Bools.{by-test, choice, cond-true, cond-false, and_both, not-true}
use Rattle.rules.specs.declared.Verdict.{Verdict}
use Rattle.rules.proofs.Laws.{unless-zero}
use Rattle.rules.proofs.Places.{off_iff}
use Rattle.feeding.specs.declared.Stop.{Stop}
use Rattle.feeding.specs.declared.Stop.TheVariants.{Going, AtBreach, PastMost}
use Rattle.feeding.specs.declared.Ending.{Ending}
use Rattle.feeding.specs.State.{goes, stream_bounds, fresh_stream, last_verdict, finish_of}
use Rattle.feeding.specs.Input.{whole_in, judged_in}
use Rattle.feeding.proofs.Feeding.{ended_in}
use Rattle.marks.specs.declared.Marks.{Marks}
use Rattle.marks.specs.declared.Phases.{Phases}
use Rattle.basics.specs.Answers.{Answer}
use Rattle.marks.specs.declared.Report.{Report}
use Rattle.marks.specs.declared.Why.{Why}
use Rattle.marks.specs.declared.Why.TheVariants.{Complete, AtBreach as Broke, Torn, TooMany, Absent, OutOfBounds}
use Rattle.marks.specs.Report.{Because}
use Rattle.marks.specs.State.{some_marks, under_way, all_found, phases_bounds, begin_refusal, fresh_phases, fed_phases, phased_of, lacking, report_with, no_report, report_of}
use Rattle.marks.specs.Pieces.{report_in}
use Rattle.marks.proofs.Phasing.{fed-all, phasing}
use Rattle.reading.specs.Reads.{bytes_most, Piecewise}
use Rattle.spurphases.specs.Pages.{searching}

-- ---- a report that ends with the input has read all of its whole records
abbrev ends : Why → Bool
ends Complete = false
ends (Broke b) = false
ends Torn = true
ends TooMany = false
ends (Absent place) = true
ends OutOfBounds = false

ends_read : (limit : ℕ) (m : Marks) (bytes : List ℕ) (n found : ℕ) (why : Why) → Because limit m bytes n found why → ends why ≡ true → n ≡ whole_in bytes
ends_read limit m bytes n found Complete h e = absurd (false≢true e)
ends_read limit m bytes n found (Broke b) h e = absurd (false≢true e)
ends_read limit m bytes n found Torn h e = h.1
ends_read limit m bytes n found TooMany h e = absurd (false≢true e)
ends_read limit m bytes n found (Absent place) h e = h.1
ends_read limit m bytes n found OutOfBounds h e = absurd h

-- and one that is under way would end with it
going-ends : (stop : Stop) (place held : ℕ) → goes stop ≡ true → ends (lacking place (last_verdict stop held)) ≡ true
going-ends Going place held e = choice (λ (v : Verdict). ends (lacking place v) ≡ true) (eqb held 0) (λ _. refl) (λ _. refl)
going-ends (AtBreach b) place held e = absurd (false≢true e)
going-ends PastMost place held e = absurd (false≢true e)

module _ (p : Phases) (bounds : phases_bounds p ≡ true) where
  finish-verdict : (finish_of p.stream).verdict ≡ last_verdict p.stream.stop p.stream.held
  unfolding phases_bounds
  finish-verdict =
      let within : stream_bounds p.stream ≡ true = (and_both _ _ (and_both _ _ (and_both _ _ bounds).0).0).0 in
      ap (λ (e : Ending). e.verdict) (sym (ended_in p.stream _ _ within refl refl))

  report_is : report_of p ≡ report_with p (finish_of p.stream)
  unfolding report_of
  report_is = cond-true _ _ bounds

  report_ends : under_way p ≡ true → ends (report_of p).why ≡ true
  unfolding under_way
  report_ends on =
      let z = and_both (goes p.stream.stop) (not (all_found p)) on in
      ap (λ (r : Report). ends r.why) report_is
      ∙ ap ends (cond-false _ _ ((off_iff (all_found p)).0 z.1))
      ∙ ap (λ (v : Verdict). ends (lacking p.search.found v)) finish-verdict
      ∙ going-ends p.stream.stop p.search.found p.stream.held z.0

-- a report that is right is one of a state within bounds
report_bounds : (limit : ℕ) (m : Marks) (bytes : List ℕ) (n found : ℕ) (p : Phases) → Because limit m bytes n found (report_of p).why → phases_bounds p ≡ true
unfolding report_of no_report
report_bounds limit m bytes n found p h =
    by-test (phases_bounds p) (λ e. e) (λ e. absurd (subst (λ (r : Report). Because limit m bytes n found r.why) (cond-false _ no_report e) h))

-- ---- the search
module _ (limit : ℕ) (m : Marks) (lawful : begin_refusal limit m ≡ 0) where
  abbrev fresh : Phases
  fresh = fresh_phases limit m

  pub fed_is : (bytes : List ℕ) → searching.fed fresh bytes ≡ fed_phases fresh bytes
  fed_is bytes = ap (λ (r : Answer Phases). r.value) ((phasing limit m lawful).accepts [] bytes)

  fed_on : (bytes piece : List ℕ) → searching.fed (searching.fed fresh bytes) piece ≡ searching.fed fresh (bytes ++ piece)
  fed_on bytes piece =
      ap (λ (p : Phases). (phased_of p piece).value) (fed_is bytes)
      ∙ ap (λ (r : Answer Phases). r.value) ((phasing limit m lawful).accepts (bytes ∷ []) piece)
      ∙ fed-all limit m lawful (bytes ∷ piece ∷ [])
      ∙ ap (λ (l : List ℕ). fed_phases fresh (bytes ++ l)) (append-nil piece)
      ∙ sym (fed_is (bytes ++ piece))

  some : some_marks m ≡ true
  unfolding begin_refusal
  some = (unless-zero (some_marks m) 9 _ refl lawful).0

  goes_first : under_way fresh ≡ true
  unfolding under_way fresh_phases fresh_stream
  goes_first =
      let first = (and_both (leb 1 m.count) (leb m.count 32) some).0 in
      ap not (not-true (leb m.count 0) (λ e. let low = leb-true 1 m.count first in let none = leb-true m.count 0 e in omega arith))

  -- while it is under way, no whole record past 2^30 was fed
  fed-within : (bytes : List ℕ) → searching.going (searching.fed fresh bytes) ≡ true → length bytes < bytes_most
  unfolding judged_in report_in
  fed-within bytes e =
      let right = (phasing limit m lawful).right bytes in
      let p : Phases = fed_phases fresh bytes in
      let bounds = report_bounds limit m bytes _ _ p right.why in
      let all = ends_read limit m bytes _ _ (report_of p).why right.why (report_ends p bounds (ap under_way (sym (fed_is bytes)) ∙ e)) in
      let most = right.within in
      omega arith

  pub searching_pieces : Piecewise searching fresh
  searching_pieces = record { goes = goes_first; none = fed_is [] ∙ sym (fed-all limit m lawful []); more = fed_on; within = fed-within }
