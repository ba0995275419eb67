-- The text that the program makes is that of the whole input. Assumes nothing.
use Prim.Native.Nat.{ℕ, min}
use mathlib.Core.Bool.{Bool, true, false}
use mathlib.Core.List.{List, [], ◌∷◌, ◌++◌, append-nil}
use mathlib.Core.Path.{◌≡◌, refl, sym, ap, ◌∙◌}
use native.Mathlib.Omega.{arith}
use lib.Dec.{eqb}
use borrow.Author.Tests.{eq-eqb, ne_eqb, eqb-true}
use Rattle.basics.specs.Numbers.{lawful_limit}
use Rattle.basics.specs.Order.{unless}
use Rattle.basics.proofs.Bools.{choice, cond-true}
use Rattle.rules.proofs.Laws.{unless-zero}
use Rattle.marks.specs.declared.Marks.{Marks}
use Rattle.std.specs.Prelude.{Result, Ok, Err}
use Rattle.basics.specs.declared.refusal.Refusal.{Refusal}
use Rattle.basics.specs.Answers.{Answer, accepted, refusal_number, answered}
use Rattle.basics.proofs.Refusals.{some_number}
use Rattle.marks.specs.declared.Phases.{Phases}
use Rattle.marks.specs.declared.Report.{Report}
use Rattle.marks.specs.State.{some_marks, named_to, under_way, begin_refusal, fresh_phases, no_phases, begun_of, report_of}
use Rattle.marks.specs.Pieces.{report_in}
use Rattle.marks.proofs.Phasing.{phasing}
use Rattle.phaselines.specs.Lines.{report_lines, phases_page}
use Rattle.reading.specs.Pages.{Telling}
use Rattle.reading.proofs.Narrow.{narrow_same, narrow_lawful}
use Rattle.spurphases.specs.Pages.{searching}
use Rattle.spurphases.proofs.Reading.{fed_is}

-- ---- an input that was read
module _ (limit : ℕ) (m : Marks) (lawful : begin_refusal limit m ≡ 0) where
  page_of_lem : (e : Report) (bytes : List ℕ) → e ≡ report_in limit m bytes → report_lines e ≡ phases_page limit m bytes
  page_of_lem e bytes is = ap report_lines is ∙ sym (cond-true _ _ (eq-eqb (begin_refusal limit m) 0 lawful))

  report_of_lem : (bytes : List ℕ) → report_of (searching.fed (fresh_phases limit m) bytes) ≡ report_in limit m bytes
  unfolding report_in
  report_of_lem bytes = ap report_of (fed_is limit m lawful bytes)

  -- what is behind the bytes that were read changes nothing
  behind-same : (bytes rest : List ℕ) → under_way (searching.fed (fresh_phases limit m) bytes) ≡ false → report_in limit m (bytes ++ rest) ≡ report_in limit m bytes
  behind-same bytes rest ended =
      ap (λ (l : List ℕ). report_in limit m (l ++ rest)) (sym (append-nil bytes))
      ∙ (phasing limit m lawful).rest (bytes ∷ []) rest (ap under_way (sym (fed_is limit m lawful bytes)) ∙ ended)
      ∙ ap (report_in limit m) (append-nil bytes)

  pub searching_tells : Telling searching (fresh_phases limit m) (phases_page limit m) (λ p. report_lines (report_of p))
  searching_tells =
      record {
        says = λ bytes. page_of_lem _ bytes (report_of_lem bytes);
        rest = λ bytes rest ended. sym (page_of_lem _ (bytes ++ rest) (sym (behind-same bytes rest ended))) ∙ page_of_lem _ bytes refl;
      }

-- ---- the limit and the marks
begun_number : (limit : ℕ) (m : Marks) → (begun_of limit m).number ≡ begin_refusal limit m
unfolding begun_of
begun_number limit m = choice (λ (r : Answer Phases). r.number ≡ begin_refusal limit m) (eqb (begin_refusal limit m) 0) (λ e. sym (eqb-true _ 0 e)) (λ _. refl)

limit-lawful : (limit : ℕ) (m : Marks) → begin_refusal limit m ≡ 0 → lawful_limit limit ≡ true
unfolding begin_refusal
limit-lawful limit m e = (unless-zero (lawful_limit limit) 3 0 refl (unless-zero (named_to m m.count) 2 _ refl (unless-zero (some_marks m) 9 _ refl e).1).1).0

module _ (limit narrow : ℕ) (m : Marks) (begun : Result Phases Refusal) (ne : narrow ≡ min limit 255) (be : answered no_phases begun ≡ begun_of narrow m) where
  refusal-same : (begun_of narrow m).number ≡ begin_refusal limit m
  unfolding begin_refusal
  refusal-same =
      begun_number narrow m
      ∙ ap (λ (b : Bool). unless (some_marks m) 9 (unless (named_to m m.count) 2 (unless b 3 0))) (narrow_lawful limit narrow ne)

  pub begun_lawful : (p : Phases) → begun ≡ Ok p → (begin_refusal limit m ≡ 0) × (p ≡ fresh_phases limit m)
  begun_lawful p e =
      let ok : accepted p ≡ begun_of narrow m = sym (ap (answered no_phases) e) ∙ be in
      let zero : 0 ≡ (begun_of narrow m).number = ap (λ (r : Answer Phases). r.number) ok in
      let none : begin_refusal narrow m ≡ 0 = sym (begun_number narrow m) ∙ sym zero in
      let same : limit ≡ narrow = narrow_same limit narrow ne (limit-lawful narrow m none) in
      (sym refusal-same ∙ sym zero, ap (λ (r : Answer Phases). r.value) (ok ∙ (phasing narrow m none).begins) ∙ ap (λ (k : ℕ). fresh_phases k m) (sym same))

  pub begun_refused : (r : Refusal) → begun ≡ Err r → (eqb (begin_refusal limit m) 0 ≡ false) × (refusal_number r ≡ begin_refusal limit m)
  begun_refused r e =
      let is : refusal_number r ≡ begin_refusal limit m = ap (λ (a : Answer Phases). a.number) (sym (ap (answered no_phases) e) ∙ be) ∙ refusal-same in
      (ne_eqb _ 0 (λ z. let some = some_number r in omega arith), is)
