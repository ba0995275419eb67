-- THE PROMISE to whoever feeds an input in pieces and looks for marks in it. Assumes nothing.
use Prim.Native.Nat.{ℕ, zero, suc, ◌+◌, ◌-◌, ◌≤◌, ◌<◌}
use mathlib.Core.Bool.{true, false}
use mathlib.Core.List.{List, [], ◌∷◌, ◌++◌, append_assoc, append-nil}
use mathlib.Core.Path.{◌≡◌, refl, sym, ap, subst, ◌∙◌}
use native.Mathlib.Omega.{arith}
use lib.ListN.{get_or}
use borrow.Author.Tests.{eq-eqb}
use Rattle.basics.proofs.Bools.{cond-true, both_and}
use Rattle.basics.specs.Numbers.{lawful_limit}
use Rattle.rules.specs.Recording.{Lines, recording_in, cycle}
use Rattle.rules.specs.Exact.{joined}
use Rattle.rules.specs.Names.{rule_in}
use Rattle.rules.specs.Thirteen.{rules, Keeps}
use Rattle.rules.proofs.Exactly.{kept-not}
use Rattle.rules.proofs.Laws.{unless-zero}
use Rattle.feeding.specs.Input.{judged_in}
use Rattle.feeding.proofs.Feeding.{lawful_limits}
use Rattle.marks.specs.declared.Marks.{Marks}
use Rattle.marks.specs.declared.Phases.{Phases}
use Rattle.marks.specs.declared.Report.{Report}
use Rattle.marks.specs.declared.Why.{Why}
use Rattle.marks.specs.declared.Why.TheVariants.{Complete, AtBreach, Torn, TooMany, Absent, OutOfBounds}
use Rattle.marks.specs.Marks.{MarkAt}
use Rattle.marks.specs.Report.{NotYet, Because, Right}
use Rattle.basics.specs.Answers.{accepted}
use Rattle.marks.specs.State.{some_marks, named_to, lawful_marks, under_way, begin_refusal, begun_of, fresh_phases, fed_phases, phased_of, phases_bounds, report_of}
use Rattle.marks.specs.Pieces.{fed_all, report_in, summed, Phasing}
use Rattle.marks.proofs.Only.{mark-only, mark-earlier, right-only}
use Rattle.marks.proofs.Onward.{Sound, fed_over, more}
use Rattle.marks.proofs.Reported.{in_order, begins-sound, fed-empty, fed-right}

-- marks and a limit that are not refused
begins-lawful : (limit : ℕ) (m : Marks) → begin_refusal limit m ≡ 0 → (lawful_marks m ≡ true) × (lawful_limit limit ≡ true)
unfolding begin_refusal lawful_marks
begins-lawful limit m e =
    let a = unless-zero (some_marks m) 9 _ refl e in
    let b = unless-zero (named_to m m.count) 2 _ refl a.1 in
    (both_and _ _ a.0 b.0, (unless-zero (lawful_limit limit) 3 0 refl b.1).0)

-- ---- pieces
fed_on : (p : Phases) → Sound p.stream → (x : List ℕ) (pieces : List (List ℕ)) → fed_all (fed_phases p x) pieces ≡ fed_phases p (x ++ joined pieces)
fed_on p sound x [] = ap (fed_phases p) (sym (append-nil x))
fed_on p sound x (piece ∷ pieces) =
    ap (λ (q : Phases). fed_all q pieces) (more p x piece sound)
    ∙ fed_on p sound (x ++ piece) pieces
    ∙ ap (fed_phases p) (append_assoc x piece (joined pieces))

pub fed-ended : (p : Phases) (pieces : List (List ℕ)) → under_way p ≡ false → fed_all p pieces ≡ p
fed-ended p [] e = refl
fed-ended p (piece ∷ pieces) e = ap (λ (q : Phases). fed_all q pieces) (fed_over p piece e) ∙ fed-ended p pieces e

module _ (limit : ℕ) (m : Marks) (lawful : begin_refusal limit m ≡ 0) where
  low : 1 ≤ limit
  low = (lawful_limits limit (begins-lawful limit m lawful).1).0

  high : limit ≤ 16
  high = (lawful_limits limit (begins-lawful limit m lawful).1).1

  named : lawful_marks m ≡ true
  named = (begins-lawful limit m lawful).0

  abbrev fresh : Phases
  fresh = fresh_phases limit m

  pub fed-all : (pieces : List (List ℕ)) → fed_all fresh pieces ≡ fed_phases fresh (joined pieces)
  fed-all [] = sym (fed-empty limit low high m named [])
  fed-all (piece ∷ pieces) = fed_on fresh (begins-sound limit low high m named []) piece pieces

  says : (pieces : List (List ℕ)) → report_of (fed_all fresh pieces) ≡ report_in limit m (joined pieces)
  unfolding report_in
  says pieces = ap report_of (fed-all pieces)

  right : (bytes : List ℕ) → Right limit m bytes (report_in limit m bytes)
  unfolding report_in
  right bytes = (fed-right limit low high m named bytes).1

  accepts : (pieces : List (List ℕ)) (piece : List ℕ) → phased_of (fed_all fresh pieces) piece ≡ accepted (fed_phases (fed_all fresh pieces) piece)
  unfolding phased_of
  accepts pieces piece = cond-true _ _ (ap phases_bounds (fed-all pieces) ∙ (fed-right limit low high m named (joined pieces)).0)

  rest-same : (pieces : List (List ℕ)) (rest : List ℕ) → under_way (fed_all fresh pieces) ≡ false → report_in limit m (joined pieces ++ rest) ≡ report_in limit m (joined pieces)
  unfolding report_in
  rest-same pieces rest e =
      ap report_of (sym (more fresh (joined pieces) rest (begins-sound limit low high m named [])) ∙ fed_over (fed_phases fresh (joined pieces)) rest (ap under_way (sym (fed-all pieces)) ∙ e))

  -- ---- the whole recording
  module _ (bytes : List ℕ) where
    abbrev lines : Lines
    lines = (recording_in bytes).lines

    abbrev report : Report
    report = report_in limit m bytes

    -- whoever has read all that is judged has found the last mark, if it is there
    none_lacks : (last k i n found : ℕ) → suc last ≡ m.count → MarkAt lines m last k i → i < judged_in bytes → judged_in bytes ≤ n → found < m.count → NotYet lines m n found → ⊥
    none_lacks last k i n found e x lt le less none =
        let a = mark-earlier lines m last found k i x (let z : found ≤ last = omega arith in z) in
        none a.start a.ack a.mark (let y = a.acks in omega arith)

    completes : (last k i : ℕ) → ((j : ℕ) → j < judged_in bytes → Keeps limit (recording_in bytes) j) → suc last ≡ m.count → MarkAt lines m last k i → i < judged_in bytes
        → (why : Why) → Because limit m bytes report.records report.found why → why ≡ Complete
    unfolding judged_in
    completes last k i keeps e x lt Complete h = refl
    completes last k i keeps e x lt (AtBreach b) h = absurd (kept-not (rules limit (recording_in bytes) report.records) (rule_in b) (keeps report.records h.1) h.3)
    completes last k i keeps e x lt Torn h = absurd (none_lacks last k i report.records report.found e x lt (let z = h.1 in omega arith) h.0.0 h.0.1)
    completes last k i keeps e x lt TooMany h = absurd (none_lacks last k i report.records report.found e x lt (let z = h.1 in omega arith) h.0.0 h.0.1)
    completes last k i keeps e x lt (Absent p) h = absurd (none_lacks last k i report.records report.found e x lt (let z = h.1 in omega arith) h.0.0 h.0.1)
    completes last k i keeps e x lt OutOfBounds h = absurd h

    whole : (last k i : ℕ) → ((j : ℕ) → j < judged_in bytes → Keeps limit (recording_in bytes) j) → suc last ≡ m.count → MarkAt lines m last k i → i < judged_in bytes
        → (report.why ≡ Complete) × ((p l j : ℕ) → MarkAt lines m p l j → p ≤ last → get_or report.spans p 0 ≡ cycle lines l)
    whole last k i keeps e x lt =
        let why : report.why ≡ Complete = completes last k i keeps e x lt report.why (right bytes).why in
        let all : report.found ≡ m.count = (subst (Because limit m bytes report.records report.found) why (right bytes).why).0 in
        (why, λ p l j y le. let a = (right bytes).found p (omega arith) in a.time ∙ ap (cycle lines) (mark-only lines m p a.start a.ack l j a.mark y).0)

    sums : (n : ℕ) → n < report.found → get_or report.spans 0 0 + summed report.spans n ≡ get_or report.spans n 0
    sums zero lt = omega arith
    sums (suc n) lt =
        let h = sums n (let z : n < report.found = omega arith in z) in
        let o = in_order lines m report.records n _ _ ((right bytes).found n (let z : n < report.found = omega arith in z)) ((right bytes).found (suc n) lt) in
        let z : get_or report.spans 0 0 + (summed report.spans n + (get_or report.spans (suc n) 0 - get_or report.spans n 0)) ≡ get_or report.spans (suc n) 0 = omega arith in
        z

-- THE PROMISE
pub phasing : (limit : ℕ) (m : Marks) → begin_refusal limit m ≡ 0 → Phasing limit m
unfolding begun_of
phasing limit m e =
    record {
      begins = cond-true _ _ (eq-eqb (begin_refusal limit m) 0 e);
      accepts = accepts limit m e;
      says = says limit m e;
      right = right limit m e;
      only = right-only limit m;
      ended = λ pieces more stops. fed-ended (fed_all (fresh_phases limit m) pieces) more stops;
      rest = rest-same limit m e;
      whole = whole limit m e;
      sums = sums limit m e;
    }
