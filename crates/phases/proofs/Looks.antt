-- What the functions on marks and records put together is what the definitions say. Assumes nothing.
use Prim.Native.Nat.{ℕ, zero, suc, ◌+◌, ◌-◌, ◌*◌, ◌/◌, ◌%◌, ◌≤◌, ◌<◌}
use mathlib.Core.Bool.{Bool, true, false, false≢true, ◌&&◌}
use mathlib.Core.List.{List}
use mathlib.Core.Path.{◌≡◌, refl, sym, ap, subst, ◌∙◌}
use mathlib.Core.Logic.{inl, inr}
use native.Mathlib.Omega.{arith}
use lib.ListN.{length, take, drop, get_or, set}
use lib.Seq.{length-take-le, get_or-take}
use lib.Dec.{eqb, leb}
use borrow.Author.Tests.{leb-true, le-leb}
use Rattle.std.specs.List.{All}
use Rattle.std.specs.List.Sorted.{IsNonDecreasing}
use Rattle.std.proofs.lemmas.List.Elements.{All-from_get_or}
use Rattle.std.proofs.Common.{◌↔◌, MatchBool, Result, Ok, Err}
use Rattle.basics.specs.declared.refusal.Refusal.{Refusal}
use Rattle.basics.specs.declared.refusal.Refusal.TheVariants.{Length, Place, Value, Code, Bounds, Room, Incoherent, TooMany, Marks as NoMarks}
use Rattle.basics.proofs.Bools.{by-test, and_both, both_and}
use Rattle.record.specs.declared.Record.{Record}
use Rattle.record.specs.Packing.{lines_of, spare_of}
use denote.Enum.Bare.{sameb}
use Rattle.codes.specs.contracts.Unit.{the_type}
use Rattle.codes.specs.declared.Unit.{Unit}
use Rattle.codes.specs.declared.Unit.TheVariants.{Byte, Halfword, Word, Two, Four, Eight, Sixteen}
use Rattle.codes.specs.declared.Meaning.{Meaning}
use Rattle.codes.specs.Start.{decoded_answer}
use Rattle.rules.specs.Recording.{recording_in}
use Rattle.rules.specs.Run.{Taken}
use Rattle.rules.proofs.Places.{below}
use Rattle.judge.proofs.Runs.{record_of}
use Rattle.marks.specs.declared.Mark.{Mark}
use Rattle.marks.specs.declared.Marks.{Marks}
use Rattle.marks.specs.Marks.{is_word, zero_mark, mark_at, writes_to}
use Rattle.marks.specs.Report.{diffs_of}
use Rattle.marks.specs.State.{named_to, rises_to}
use Rattle.phases.specs.Parts.{Named, matters, Reaches}

-- ---- a mark's START
-- whether a unit is the word
pub word_is : (u : Unit) → sameb the_type u Word ≡ is_word u
word_is Byte = refl
word_is Halfword = refl
word_is Word = refl
word_is Two = refl
word_is Four = refl
word_is Eight = refl
word_is Sixteen = refl

pub writes_means : (m : Mark) (n : Meaning) (d : Result Meaning Refusal) (word : Bool) → d ≡ Ok n → word ≡ is_word n.operation.unit
    → (n.operation.write && word && eqb (n.operation.address / 1048576) (0xF00 + m.slot * 16) && eqb (n.operation.address / 4 % 16) m.number) ≡ writes_to m (decoded_answer d)
unfolding writes_to
writes_means m n d word de we = rw (de, we)

pub writes-none : (m : Mark) (d : Result Meaning Refusal) (r : Refusal) → d ≡ Err r → false ≡ writes_to m (decoded_answer d)
unfolding writes_to
writes-none m d r de = none r ∙ sym (ap (λ (x : Result Meaning Refusal). writes_to m (decoded_answer x)) de)
  where
    none : (r : Refusal) → false ≡ writes_to m (decoded_answer (Err r))
    none Length = refl
    none Place = refl
    none Value = refl
    none Code = refl
    none Bounds = refl
    none Room = refl
    none Incoherent = refl
    none TooMany = refl
    none NoMarks = refl

-- ---- records that matter
-- the record at place i of a part, as it is lent to be read
pub lines_at : (s : List ℕ) (i : ℕ) (r : Record) → i < length s / 16 → r ≡ lines_of (take (i * 16 + 16 - i * 16) (drop (i * 16) s)) → r ≡ (recording_in s).lines i
lines_at s i r lt e = ap (λ (x : Taken). x.lines) (record_of s i r (spare_of (take (i * 16 + 16 - i * 16) (drop (i * 16) s))) lt e refl)

-- of the first i records none matters
abbrev pub DullTo : Mark → Bool → List ℕ → ℕ → Type 0
DullTo m w s i = (k : ℕ) → k < i → matters m w ((recording_in s).lines k) ≡ false

pub dull-more : (m : Mark) (w b : Bool) (s : List ℕ) (i : ℕ) (r : Record) → DullTo m w s i → i < length s / 16 → r ≡ lines_of (take (i * 16 + 16 - i * 16) (drop (i * 16) s)) → b ≡ matters m w r → b ≡ false → DullTo m w s (i + 1)
dull-more m w b s i r h lt re be e k less =
    below k i (let z : k < suc i = omega arith in z) (h k)
    (λ q. subst (λ x. matters m w ((recording_in s).lines x) ≡ false) (sym q) (ap (matters m w) (sym (lines_at s i r lt re)) ∙ sym be ∙ e))

pub reaches_record : (m : Mark) (w : Bool) (s : List ℕ) (i : ℕ) → DullTo m w s i → i < length s / 16 → Reaches m w s (i * 16 + 16)
reaches_record m w s i h lt =
    record { within = omega arith; some = λ z. omega arith; dull = λ k less. h k (omega arith); ends = inl (omega arith) }

pub reaches_all : (m : Mark) (w : Bool) (s : List ℕ) (i : ℕ) → DullTo m w s i → length s / 16 ≤ i → Reaches m w s (length s)
reaches_all m w s i h le =
    record { within = omega arith; some = λ z. z; dull = λ k less. h k (omega arith); ends = inr refl }

-- ---- spans
-- what is in order at each place is so up to n
rises_from : (l : List ℕ) (n : ℕ) → ((i : ℕ) → suc i < n → get_or l i 0 ≤ get_or l (suc i) 0) → rises_to l n ≡ true
rises_from l zero up = refl
rises_from l (suc zero) up = refl
rises_from l (suc (suc n)) up =
    both_and _ _ (rises_from l (suc n) (λ i lt. up i (omega arith))) (le-leb (get_or l n 0) (get_or l (suc n) 0) (up n (omega arith)))

-- where a loop from 1 up to n ends
abbrev pub up_to : ℕ → ℕ
up_to n = n + (1 - n)

pub rises_end : (l : List ℕ) (i n : ℕ) → 1 ≤ i → i ≤ up_to n → n ≤ i → rises_to l i ≡ rises_to l n
rises_end l i zero low le ge = ap (rises_to l) (let z : i ≡ 1 = omega arith in z)
rises_end l i (suc n) low le ge = ap (rises_to l) (let z : i ≡ suc n = omega arith in z)

pub diffs-end : (l : List ℕ) (i n : ℕ) → 1 ≤ i → i ≤ up_to n → n ≤ i → diffs_of l i ≡ diffs_of l n
diffs-end l i zero low le ge = ap (diffs_of l) (let z : i ≡ 1 = omega arith in z)
diffs-end l i (suc n) low le ge = ap (diffs_of l) (let z : i ≡ suc n = omega arith in z)

-- what is in order up to n is so at each place
pub rises_at : (l : List ℕ) (n i : ℕ) → rises_to l n ≡ true → suc i < n → get_or l i 0 ≤ get_or l (suc i) 0
rises_at l zero i e lt = absurd (omega arith)
rises_at l (suc zero) i e lt = absurd (omega arith)
rises_at l (suc (suc n)) i e lt =
    let z = and_both (rises_to l (suc n)) (leb (get_or l n 0) (get_or l (suc n) 0)) e in
    below i n (let y : i < suc n = omega arith in y) (λ less. rises_at l (suc n) i z.0 (let y : suc i < suc n = omega arith in y))
    (λ q. subst (λ k. get_or l k 0 ≤ get_or l (suc k) 0) (sym q) (leb-true _ _ z.1))

-- what the library finds of the first n spans
pub rises_is : (l : List ℕ) (n : ℕ) (b : Bool) → n ≤ length l
    → MatchBool b (IsNonDecreasing (take n l)) ((k : ℕ) × (k + 1 < length (take n l)) × ((d : ℕ) → get_or (take n l) (k + 1) d < get_or (take n l) k d)) → b ≡ rises_to l n
rises_is l n true fits up =
    let size = length-take-le n l fits in
    sym (rises_from l n (λ i lt. let z = up i (suc i) 0 (omega arith) (omega arith) in
    let a = get_or-take n l i 0 (omega arith) in
    let b = get_or-take n l (suc i) 0 lt in
    omega arith))
rises_is l n false fits (k, lt, down) =
    let size = length-take-le n l fits in
    by-test (rises_to l n)
    (λ e. let up = rises_at l n k e (omega arith) in
    let less : get_or (take n l) (suc k) 0 < get_or (take n l) k 0 = subst (λ i. get_or (take n l) i 0 < get_or (take n l) k 0) (let z : k + 1 ≡ suc k = omega arith in z) (down 0) in
    let a = get_or-take n l k 0 (omega arith) in
    let b = get_or-take n l (suc k) 0 (omega arith) in
    absurd (omega arith))
    sym

pub rises_before : (l : List ℕ) (n i : ℕ) → rises_to l n ≡ true → 1 ≤ i → i < n → get_or l (i - 1) 0 ≤ get_or l i 0
rises_before l n zero e low lt = absurd (omega arith)
rises_before l n (suc i) e low lt = subst (λ k. get_or l k 0 ≤ get_or l (suc i) 0) (let z : i ≡ suc i - 1 = omega arith in z) (rises_at l n i e lt)

pub diffs-more : (l d : List ℕ) (i : ℕ) → 1 ≤ i → d ≡ diffs_of l i → set d i (get_or l i 0 - get_or l (i - 1) 0) ≡ diffs_of l (i + 1)
diffs-more l d zero le e = absurd (omega arith)
diffs-more l d (suc i) le e =
    let a : suc i - 1 ≡ i = omega arith in
    let b : suc i + 1 ≡ suc (suc i) = omega arith in
    ap (λ (k : ℕ). set d (suc i) (get_or l (suc i) 0 - get_or l k 0)) a
    ∙ ap (λ (x : List ℕ). set x (suc i) (get_or l (suc i) 0 - get_or l i 0)) e
    ∙ ap (diffs_of l) (sym b)

-- ---- marks
named_from : (m : Marks) (n : ℕ) → ((i : ℕ) → i < n → Named (mark_at m i)) → named_to m n ≡ true
named_from m zero all = refl
named_from m (suc n) all =
    let here = all n (omega arith) in
    both_and _ _ (both_and _ _ (named_from m n (λ i lt. all i (omega arith))) (le-leb _ 15 here.0)) (le-leb _ 15 here.1)

named-each : (m : Marks) (n i : ℕ) → named_to m n ≡ true → i < n → Named (mark_at m i)
named-each m zero i e lt = absurd (omega arith)
named-each m (suc n) i e lt =
    let outer = and_both _ (leb (mark_at m n).number 15) e in
    let inner = and_both (named_to m n) (leb (mark_at m n).slot 15) outer.0 in
    below i n lt (λ less. named-each m n i inner.0 less) (λ q. subst (λ k. Named (mark_at m k)) (sym q) (leb-true _ 15 inner.1, leb-true _ 15 outer.1))

-- what is found of the first marks
pub named_is : (m : Marks) (b : Bool) → m.count ≤ length m.marks → (b ≡ true) ↔ All Named (take m.count m.marks) → b ≡ named_to m m.count
named_is m b fits h =
    let size = length-take-le m.count m.marks fits in
    let one : (i : ℕ) → i < m.count → get_or (take m.count m.marks) i zero_mark ≡ mark_at m i = λ i lt. get_or-take m.count m.marks i zero_mark lt in
    by-test b
    (λ e. e ∙ sym (named_from m m.count (λ i lt. subst Named (one i lt) (h.0 e i zero_mark (omega arith)))))
    (λ e. e ∙ by-test (named_to m m.count)
    (λ yes. absurd (false≢true (sym e ∙ h.1 (All-from_get_or Named _ zero_mark (λ i lt. subst Named (sym (one i (omega arith))) (named-each m m.count i yes (omega arith)))))))
    sym)
