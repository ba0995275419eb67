-- What the functions on a state put together is what the definitions say. Assumes nothing.
use Prim.Native.Nat.{ℕ, ◌≤◌, ◌<◌}
use mathlib.Core.Bool.{Bool, true, false, cond, ◌&&◌}
use mathlib.Core.List.{List}
use mathlib.Core.Path.{◌≡◌, refl, sym, ap, subst, ◌∙◌}
use native.Mathlib.Omega.{arith}
use lib.ListN.{length, get_or, replicate, get_or-replicate}
use lib.Seq.{ext_get_or}
use lib.Dec.{eqb, leb}
use borrow.Author.Tests.{leb-true, eq-eqb, ne_eqb}
use Rattle.basics.specs.Numbers.{lawful_limit}
use Rattle.basics.specs.Order.{unless}
use Rattle.std.specs.Result.{IsOk}
use Rattle.std.proofs.Common.{Option, None, Result, Ok, Err}
use Rattle.basics.specs.declared.refusal.Refusal.{Refusal}
use Rattle.basics.specs.Answers.{Answer, refusal_number, accepted, refused, answered}
use Rattle.basics.proofs.Refusals.{some_number}
use Rattle.basics.proofs.Bools.{by-test, cond-true, cond-false, and_both}
use Rattle.rules.specs.Exact.{joined}
use Rattle.feeding.specs.declared.Stream.{Stream}
use Rattle.feeding.specs.declared.Ending.{Ending}
use Rattle.feeding.specs.State.{stream_bounds, no_stream, fresh_of, feed_of, fed_of, finish_of}
use Rattle.marks.specs.declared.Marks.{Marks}
use Rattle.marks.specs.declared.Phases.{Phases}
use Rattle.marks.specs.declared.Report.{Report}
use Rattle.marks.specs.declared.Search.{Search}
use Rattle.marks.specs.declared.Why.{Why}
use Rattle.marks.specs.declared.Why.TheVariants.{Complete}
use Rattle.marks.specs.Pieces.{fed_all}
use Rattle.marks.specs.Report.{diffs_of, Right}
use Rattle.marks.specs.State.{some_marks, named_to, lawful_marks, begin_refusal, all_found, rises_to, phases_bounds, fresh_search, fresh_phases, no_phases, begun_of, lacking, report_with, no_report, report_of}
use Rattle.marks.proofs.Phasing.{phasing}
use Rattle.phases.specs.Parts.{Fit}

-- ---- bounds
pub some-few : (m : Marks) (some : Bool) → some ≡ some_marks m → some ≡ true → m.count ≤ 32
some-few m some se on = leb-true m.count 32 (and_both (leb 1 m.count) (leb m.count 32) (sym se ∙ on)).1

pub lawful-few : (m : Marks) → lawful_marks m ≡ true → m.count ≤ 32
unfolding lawful_marks
lawful-few m e = some-few m (some_marks m) refl (and_both (some_marks m) (named_to m m.count) e).0

module _ (p : Phases) (inner lawful : Bool) (le : lawful ≡ lawful_marks p.marks) where
  pub few-found : (inner && lawful && leb p.search.found p.marks.count) ≡ true → p.search.found ≤ 32
  few-found e =
      let a = and_both (inner && lawful) (leb p.search.found p.marks.count) e in
      let b = lawful-few p.marks (sym le ∙ (and_both inner lawful a.0).1) in
      let c = leb-true p.search.found p.marks.count a.1 in
      omega arith

-- what the bounds say
pub record Bounded (p : Phases) : Type 0 where
  pub fit : Fit p
  pub few : p.search.found ≤ 32
  pub rises : rises_to p.search.spans p.search.found ≡ true

pub bounded : (p : Phases) → phases_bounds p ≡ true → Bounded p
unfolding phases_bounds
bounded p e =
    let a = and_both _ (rises_to p.search.spans p.search.found) e in
    let b = and_both _ (leb p.search.found p.marks.count) a.0 in
    let c = and_both (stream_bounds p.stream) (lawful_marks p.marks) b.0 in
    let d = lawful-few p.marks c.1 in
    let f = leb-true p.search.found p.marks.count b.1 in
    record { fit = (c.0, d); few = omega arith; rises = a.1 }

-- ---- the calls
-- the judge takes what it is fed within its bounds
pub fed_ok : (s : Stream) (x : List ℕ) (r : Result Stream Refusal) → stream_bounds s ≡ true → answered s r ≡ fed_of s x → IsOk r
unfolding fed_of
fed_ok s x (Ok next) e answer = refl
fed_ok s x (Err r) e answer =
    let some = some_number r in
    let none : refusal_number r ≡ 0 = ap (λ (a : Answer Stream). a.number) (answer ∙ cond-true _ _ e) in
    absurd (omega arith)

pub fed-taken : (s : Stream) (x : List ℕ) (r : Result Stream Refusal) (next : Stream) → stream_bounds s ≡ true → answered s r ≡ fed_of s x → r ≡ Ok next → next ≡ feed_of s x
unfolding fed_of
fed-taken s x r next e answer is = ap (λ (a : Answer Stream). a.value) (sym (ap (answered s) is) ∙ answer ∙ cond-true _ _ e)

-- what is answered to the limit that was looked at is answered to the one that was given, where the two are one number
pub fresh_at : (seen limit : ℕ) (a : Answer Stream) → a ≡ fresh_of seen → seen ≡ limit → a ≡ fresh_of limit
fresh_at seen limit a e same = e ∙ ap fresh_of same

-- a refused judge's stream is all zeros
none_is : (none : Answer Stream) → none ≡ fresh_of 0 → none.value ≡ no_stream
unfolding fresh_of
none_is none ze = ap (λ (a : Answer Stream). a.value) ze

-- a search by its parts is the one that has found nothing
pub fresh_is : (x : Search) → length x.spans ≡ 32 → ((i d : ℕ) → i < 32 → get_or x.spans i d ≡ 0) → x.found ≡ 0 → x.pending ≡ None → x ≡ fresh_search
fresh_is x size zeros found pending =
    same x.spans (replicate 32 0) x.found 0 x.pending None
    (ext_get_or 0 x.spans (replicate 32 0) size (λ i lt. zeros i 0 (omega arith) ∙ sym (get_or-replicate 32 i 0 0 (omega arith))))
    found pending
  where
    same : (a b : List ℕ) (n k : ℕ) (v w : Option ℕ) → a ≡ b → n ≡ k → v ≡ w → ◌≡◌ {A = Search} (record { spans = a; found = n; pending = v }) (record { spans = b; found = k; pending = w })
    same a b n k v w p q r = cc

module _ (limit : ℕ) (m : Marks) where
  refused_is : (n : ℕ) → (n ≡ 0 → ⊥) → begin_refusal limit m ≡ n → refused n no_phases ≡ begun_of limit m
  unfolding begun_of
  refused_is n ne e =
      ap (λ (k : ℕ). refused k no_phases) (sym e) ∙ sym (cond-false _ _ (ap (λ (k : ℕ). eqb k 0) e ∙ ne_eqb n 0 ne))

  pub refused_9 : some_marks m ≡ false → refused 9 no_phases ≡ begun_of limit m
  unfolding begin_refusal
  refused_9 off = refused_is 9 (λ z. absurd (omega arith)) (ap (λ (b : Bool). unless b 9 (unless (named_to m m.count) 2 (unless (lawful_limit limit) 3 0))) off)

  module _ (on : some_marks m ≡ true) where
    past_9 : begin_refusal limit m ≡ unless (named_to m m.count) 2 (unless (lawful_limit limit) 3 0)
    unfolding begin_refusal
    past_9 = ap (λ (b : Bool). unless b 9 (unless (named_to m m.count) 2 (unless (lawful_limit limit) 3 0))) on

    pub refused_2 : named_to m m.count ≡ false → refused 2 no_phases ≡ begun_of limit m
    refused_2 off = refused_is 2 (λ z. absurd (omega arith)) (past_9 ∙ ap (λ (b : Bool). unless b 2 (unless (lawful_limit limit) 3 0)) off)

    module _ (yes : named_to m m.count ≡ true) where
      past_2 : begin_refusal limit m ≡ unless (lawful_limit limit) 3 0
      past_2 = past_9 ∙ ap (λ (b : Bool). unless b 2 (unless (lawful_limit limit) 3 0)) yes

      -- what the judge refuses, this does
      pub refused_3 : (r : Refusal) → answered no_stream (Err r) ≡ fresh_of limit → answered no_phases (Err r) ≡ begun_of limit m
      unfolding fresh_of
      refused_3 r e =
          by-test (lawful_limit limit)
          (λ yes. let some = some_number r in
          let none : refusal_number r ≡ 0 = ap (λ (a : Answer Stream). a.number) (e ∙ cond-true _ _ yes) in
          absurd (omega arith))
          (λ no. ap (λ (k : ℕ). refused k no_phases) (ap (λ (a : Answer Stream). a.number) (e ∙ cond-false _ _ no))
          ∙ refused_is 3 (λ z. absurd (omega arith)) (past_2 ∙ ap (λ (b : Bool). unless b 3 0) no))

      -- and where it begins, this does
      pub begun_is : (s : Stream) (x : Search) → answered no_stream (Ok s) ≡ fresh_of limit → x ≡ fresh_search → accepted (record { stream = s; marks = m; search = x }) ≡ begun_of limit m
      unfolding begun_of fresh_phases fresh_of
      begun_is s x e xe =
          by-test (lawful_limit limit)
          (λ yes. ap (λ (y : Search). accepted (record { stream = s; marks = m; search = y })) xe
          ∙ ap (λ (y : Stream). accepted (record { stream = y; marks = m; search = fresh_search })) (ap (λ (a : Answer Stream). a.value) (e ∙ cond-true _ _ yes))
          ∙ sym (cond-true _ _ (eq-eqb (begin_refusal limit m) 0 (past_2 ∙ ap (λ (b : Bool). unless b 3 0) yes))))
          (λ no. let one : 0 ≡ 3 = ap (λ (a : Answer Stream). a.number) (e ∙ cond-false _ _ no) in absurd (omega arith))

-- ---- the report
-- whoever fed pieces is told what is right
pub reported : (p : Phases) (r : Report) → r ≡ report_of p → (r ≡ report_of p) × ((limit : ℕ) (m : Marks) (pieces : List (List ℕ)) → begin_refusal limit m ≡ 0 → p ≡ fed_all (fresh_phases limit m) pieces → Right limit m (joined pieces) r)
reported p r e = (e, λ limit m pieces lawful fed. let h = phasing limit m lawful in subst (Right limit m (joined pieces)) (sym (e ∙ ap report_of fed ∙ h.says pieces)) (h.right (joined pieces)))

pub report_is : (p : Phases) (b a : Bool) (e : Ending) (why : Why) (diffs : List ℕ) → b ≡ phases_bounds p → b ≡ true → e ≡ finish_of p.stream → a ≡ all_found p
    → why ≡ cond a Complete (lacking p.search.found e.verdict) → diffs ≡ diffs_of p.search.spans p.search.found
    → ◌≡◌ {A = Report} (record { why = why; found = p.search.found; spans = p.search.spans; diffs = diffs; records = e.tally.records }) (report_of p)
unfolding report_of
report_is p b a e why diffs be on ee ae we de =
    ap (λ (w : Why). record { why = w; found = p.search.found; spans = p.search.spans; diffs = diffs; records = e.tally.records }) (we ∙ ap (λ (x : Bool). cond x Complete (lacking p.search.found e.verdict)) ae)
    ∙ ap (λ (d : List ℕ). record { why = cond (all_found p) Complete (lacking p.search.found e.verdict); found = p.search.found; spans = p.search.spans; diffs = d; records = e.tally.records }) de
    ∙ ap (report_with p) ee
    ∙ sym (cond-true _ _ (sym be ∙ on))

pub report_none : (p : Phases) (b : Bool) → b ≡ phases_bounds p → b ≡ false → no_report ≡ report_of p
unfolding report_of
report_none p b be off = sym (cond-false _ _ (sym be ∙ off))
