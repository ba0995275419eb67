-- A mark is at one place at most, and of an input one report at most is right. Assumes nothing.
use Prim.Native.Nat.{ℕ, suc, ◌≤◌, ◌<◌}
use mathlib.Core.List.{List}
use mathlib.Core.Path.{◌≡◌, refl, sym, ap, subst, ◌∙◌}
use mathlib.Core.Logic.{◌⊎◌, inl, inr}
use native.Mathlib.Omega.{arith}
use lib.Seq.{ext_get_or}
use lib.Dec.{ltb}
use borrow.Author.Tests.{ltb-true, ltb-false}
use Rattle.basics.proofs.Bools.{by-test}
use Rattle.rules.specs.Recording.{Lines, recording_in, cycle}
use Rattle.rules.specs.declared.Rule.{Rule}
use Rattle.rules.specs.Names.{rule_in}
use Rattle.rules.specs.Thirteen.{rules}
use Rattle.rules.specs.Exact.{span_at}
use Rattle.rules.proofs.Places.{below, same_place, clash}
use Rattle.rules.proofs.Exactly.{kept-not, first-only, same-breach}
use Rattle.feeding.specs.Input.{judged_in}
use Rattle.marks.specs.declared.Mark.{Mark}
use Rattle.marks.specs.declared.Marks.{Marks}
use Rattle.marks.specs.declared.Report.{Report}
use Rattle.marks.specs.declared.Why.{Why}
use Rattle.marks.specs.declared.Why.TheVariants.{Complete, AtBreach, Torn, TooMany, Absent, OutOfBounds}
use Rattle.marks.specs.Marks.{mark_at, Written, FirstWrite, MarkAt, first, next}
use Rattle.marks.specs.Report.{diffs_of, NotYet, LastAck, Lacks, Because, Right}

-- ---- places
written_once : (r : Lines) (m : Mark) (k i j : ℕ) → Written r m k i → Written r m k j → i ≡ j
written_once r m k i j v w =
    same_place i j (λ lt. clash v.ends (w.opened.unanswered i v.opened.earlier lt)) (λ lt. clash w.ends (v.opened.unanswered j w.opened.earlier lt))

write_only : (r : Lines) (m : Mark) (from k i l j : ℕ) → FirstWrite r m from k i → FirstWrite r m from l j → (k ≡ l) × (i ≡ j)
write_only r m from k i l j v w =
    let starts : k ≡ l = same_place k l (λ lt. w.none k i v.behind lt v.written) (λ lt. v.none l j w.behind lt w.written) in
    (starts, written_once r m l i j (subst (λ x. Written r m x i) starts v.written) w.written)

-- A MARK IS AT ONE PLACE AT MOST
pub mark-only : (r : Lines) (m : Marks) (p k i l j : ℕ) → MarkAt r m p k i → MarkAt r m p l j → (k ≡ l) × (i ≡ j)
mark-only r m _ k i l j (first v) (first w) = write_only r (mark_at m 0) 0 k i l j v w
mark-only r m _ a b c d (next {p} x v) (next y w) =
    write_only r (mark_at m (suc p)) _ a b c d (subst (λ z. FirstWrite r (mark_at m (suc p)) (suc z) a b) (mark-only r m p _ _ _ _ x y).1 v) w

-- where a mark is, the ones before it are
pub record Earlier (r : Lines) (m : Marks) (q k i : ℕ) : Type 0 where
  pub start : ℕ
  pub ack : ℕ
  pub mark : MarkAt r m q start ack
  pub starts : start ≤ k
  pub acks : ack ≤ i

pub mark-earlier : (r : Lines) (m : Marks) (p q k i : ℕ) → MarkAt r m p k i → q ≤ p → Earlier r m q k i
mark-earlier r m _ q k i (first v) le =
    record { start = k; ack = i; mark = subst (λ x. MarkAt r m x k i) (let z : 0 ≡ q = omega arith in z) (first v); starts = omega arith; acks = omega arith }
mark-earlier r m _ q c d (next {p} {k} {i} x v) le =
    below q (suc p) (let z : q < suc (suc p) = omega arith in z)
    (λ lt. let h = mark-earlier r m p q k i x (let z : q ≤ p = omega arith in z) in
    let a = h.starts in
    let b = h.acks in
    let e = opens x in
    let f = v.behind in
    let g = v.written.opened.earlier in
    record { start = h.start; ack = h.ack; mark = h.mark; starts = omega arith; acks = omega arith })
    (λ e. record { start = c; ack = d; mark = subst (λ y. MarkAt r m y c d) (sym e) (next x v); starts = omega arith; acks = omega arith })
  where
    opens : {p a b : ℕ} → MarkAt r m p a b → a < b
    opens (first w) = w.written.opened.earlier
    opens (next y w) = w.written.opened.earlier

-- ---- reports
-- a report is complete, or the next mark is not among what is read
either : (limit : ℕ) (m : Marks) (bytes : List ℕ) (n found : ℕ) (why : Why) → Because limit m bytes n found why
    → ((found ≡ m.count) × LastAck (recording_in bytes).lines m n) ⊎ Lacks m bytes n found
either limit m bytes n found Complete h = inl h
either limit m bytes n found (AtBreach b) h = inr h.0
either limit m bytes n found Torn h = inr h.0
either limit m bytes n found TooMany h = inr h.0
either limit m bytes n found (Absent p) h = inr h.0
either limit m bytes n found OutOfBounds h = absurd h

module _ (limit : ℕ) (m : Marks) (bytes : List ℕ) where
  abbrev lines : Lines
  lines = (recording_in bytes).lines

  -- whoever reads behind the last mark's ACK has found all marks there, and so has stopped
  not_behind : (n k : ℕ) (found : ℕ) (why : Why) → LastAck lines m n → n < k → Because limit m bytes k found why → ⊥
  not_behind n k found why a lt h = go (either limit m bytes k found why h)
    where
      go : ((found ≡ m.count) × LastAck lines m k) ⊎ ((found < m.count) × NotYet lines m k found) → ⊥
      go (inl c) =
          let b = c.1 in
          let same : b.place ≡ a.place = let x = a.last in let y = b.last in omega arith in
          let e = (mark-only lines m a.place b.start b.ack a.start a.ack (subst (λ p. MarkAt lines m p b.start b.ack) same b.mark) a.mark).1 in
          let x = a.here in
          let y = b.here in
          omega arith
      go (inr c) =
          let b = mark-earlier lines m a.place found a.start a.ack a.mark (let x = a.last in let y = c.0 in let z : found ≤ a.place = omega arith in z) in
          c.1 b.start b.ack b.mark (let x = a.here in let y = b.acks in omega arith)

  -- of two right reports neither reads more
  module _ (e f : Report) (a : Right limit m bytes e) (b : Right limit m bytes f) where
    no_more : e.records < f.records → ⊥
    unfolding judged_in
    no_more lt = stops e.why a.why
      where
        stops : (why : Why) → Because limit m bytes e.records e.found why → ⊥
        stops Complete h = not_behind e.records f.records f.found f.why h.1 lt b.why
        stops (AtBreach x) h = kept-not (rules limit (recording_in bytes) e.records) (rule_in x) (b.kept e.records lt) h.3
        stops Torn h = let x = h.1 in let y = b.within in omega arith
        stops TooMany h = let x = h.1 in let y = b.within in omega arith
        stops (Absent p) h = let x = h.1 in let y = b.within in omega arith
        stops OutOfBounds h = h

    -- nor finds more, both having read the same
    finds_no_more : e.records ≡ f.records → e.found < f.found → ⊥
    finds_no_more same lt = go (either limit m bytes e.records e.found e.why a.why) (either limit m bytes f.records f.found f.why b.why)
      where
        go : ((e.found ≡ m.count) × LastAck lines m e.records) ⊎ ((e.found < m.count) × NotYet lines m e.records e.found)
            → ((f.found ≡ m.count) × LastAck lines m f.records) ⊎ ((f.found < m.count) × NotYet lines m f.records f.found) → ⊥
        go (inr c) d = let x = b.found e.found lt in c.1 x.start x.ack x.mark (let y = x.read in omega arith)
        go (inl c) (inl d) = let x = c.0 in let y = d.0 in omega arith
        go (inl c) (inr d) = let x = c.0 in let y = d.0 in omega arith

    same-spans : e.records ≡ f.records → e.found ≡ f.found → e.spans ≡ f.spans
    same-spans records found =
        ext_get_or 0 e.spans f.spans (a.places ∙ sym b.places)
        (λ p lt. by-test (ltb p e.found)
        (λ l. let x = a.found p (ltb-true p e.found l) in
        let y = b.found p (let z = ltb-true p e.found l in omega arith) in
        x.time ∙ ap (cycle lines) (mark-only lines m p x.start x.ack y.start y.ack x.mark y.mark).0 ∙ sym y.time)
        (λ l. let z = ltb-false p e.found l in a.others p z ∙ sym (b.others p (omega arith))))

  -- nor stops for another reason
  why-only : (n found : ℕ) (v w : Why) → Because limit m bytes n found v → Because limit m bytes n found w → v ≡ w
  unfolding judged_in
  why-only n found Complete Complete a b = refl
  why-only n found Complete (AtBreach y) a b = let p = a.0 in let q = b.0.0 in absurd (omega arith)
  why-only n found Complete Torn a b = let p = a.0 in let q = b.0.0 in absurd (omega arith)
  why-only n found Complete TooMany a b = let p = a.0 in let q = b.0.0 in absurd (omega arith)
  why-only n found Complete (Absent y) a b = let p = a.0 in let q = b.0.0 in absurd (omega arith)
  why-only n found (AtBreach x) Complete a b = let p = a.0.0 in let q = b.0 in absurd (omega arith)
  why-only n found Torn Complete a b = let p = a.0.0 in let q = b.0 in absurd (omega arith)
  why-only n found TooMany Complete a b = let p = a.0.0 in let q = b.0 in absurd (omega arith)
  why-only n found (Absent x) Complete a b = let p = a.0.0 in let q = b.0 in absurd (omega arith)
  why-only n found (AtBreach x) (AtBreach y) a b =
      let name = first-only (rules limit (recording_in bytes) n) (rule_in x) (rule_in y) a.3 b.3 in
      ap AtBreach (same-breach x y name (a.2 ∙ sym b.2) (a.4 ∙ ap (λ (r : Rule). span_at lines n r.number) name ∙ sym b.4))
  why-only n found (AtBreach x) Torn a b = let p = a.1 in let q = b.1 in absurd (omega arith)
  why-only n found (AtBreach x) TooMany a b = let p = a.1 in let q = b.1 in absurd (omega arith)
  why-only n found (AtBreach x) (Absent y) a b = let p = a.1 in let q = b.1 in absurd (omega arith)
  why-only n found Torn (AtBreach y) a b = let p = a.1 in let q = b.1 in absurd (omega arith)
  why-only n found TooMany (AtBreach y) a b = let p = a.1 in let q = b.1 in absurd (omega arith)
  why-only n found (Absent x) (AtBreach y) a b = let p = a.1 in let q = b.1 in absurd (omega arith)
  why-only n found Torn Torn a b = refl
  why-only n found Torn TooMany a b = let p = a.1 in let q = b.1 in let s = b.2 in absurd (omega arith)
  why-only n found Torn (Absent y) a b = absurd (a.2 b.2)
  why-only n found TooMany TooMany a b = refl
  why-only n found TooMany Torn a b = let p = a.1 in let q = b.1 in let s = a.2 in absurd (omega arith)
  why-only n found TooMany (Absent y) a b = let p = a.1 in let q = b.1 in let s = a.2 in absurd (omega arith)
  why-only n found (Absent x) (Absent y) a b = ap Absent (a.3 ∙ sym b.3)
  why-only n found (Absent x) Torn a b = absurd (b.2 a.2)
  why-only n found (Absent x) TooMany a b = let p = a.1 in let q = b.1 in let s = b.2 in absurd (omega arith)
  why-only n found OutOfBounds w a b = absurd a
  why-only n found Complete OutOfBounds a b = absurd b
  why-only n found (AtBreach x) OutOfBounds a b = absurd b
  why-only n found Torn OutOfBounds a b = absurd b
  why-only n found TooMany OutOfBounds a b = absurd b
  why-only n found (Absent x) OutOfBounds a b = absurd b

  -- OF TWO REPORTS THAT ARE RIGHT, both are the same
  pub right-only : (e f : Report) → Right limit m bytes e → Right limit m bytes f → e ≡ f
  right-only e f a b =
      same e.why f.why e.found f.found e.spans f.spans e.diffs f.diffs e.records f.records
      (why-only f.records f.found e.why f.why moved b.why) found spans diffs records
    where
      records : e.records ≡ f.records
      records = same_place e.records f.records (no_more e f a b) (no_more f e b a)

      found : e.found ≡ f.found
      found = same_place e.found f.found (finds_no_more e f a b records) (finds_no_more f e b a (sym records))

      spans : e.spans ≡ f.spans
      spans = same-spans e f a b records found

      diffs : e.diffs ≡ f.diffs
      diffs = a.diffs ∙ ap (λ l. diffs_of l e.found) spans ∙ ap (diffs_of f.spans) found ∙ sym b.diffs

      moved : Because limit m bytes f.records f.found e.why
      moved = subst (λ x. Because limit m bytes x f.found e.why) records (subst (λ x. Because limit m bytes e.records x e.why) found a.why)

      same : (v w : Why) (p q : ℕ) (s t : List ℕ) (c d : List ℕ) (x y : ℕ) → v ≡ w → p ≡ q → s ≡ t → c ≡ d → x ≡ y
          → ◌≡◌ {A = Report} (record { why = v; found = p; spans = s; diffs = c; records = x }) (record { why = w; found = q; spans = t; diffs = d; records = y })
      same v w p q s t c d x y f g h i j = cc
