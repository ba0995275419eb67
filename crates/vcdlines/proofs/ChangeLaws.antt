-- Laws of a record's text: a line by its test, the levels in fives, and how long a text is at most. Assumes nothing.
use Prim.Native.Nat.{ℕ, suc, ◌+◌, ◌*◌, ◌≤◌}
use mathlib.Core.Path.{◌≡◌, refl, sym, ap, ◌∙◌}
use mathlib.Core.Bool.{Bool, true, false, not, ◌||◌}
use mathlib.Core.List.{List, [], ◌∷◌, ◌++◌, append_assoc, append-nil}
use native.Mathlib.Omega.{arith}
use lib.Dec.{eqb}
use lib.ListN.{length, take, drop, length-append, drop_of_length-le}
use Rattle.std.proofs.lemmas.List.{nil_from_length}
use Rattle.io.specs.Digits.{last_digits}
use Rattle.basics.proofs.Bools.{choice, cond-true, cond-false}
use Rattle.record.specs.declared.Record.{Record}
use Rattle.record.specs.Packing.{blank}
use Rattle.text.specs.Decimal.{spelled, decimal_of}
use Rattle.text.proofs.DecimalLaws.{decimal_length}
use Rattle.text.specs.Places.{front, put_at}
use Rattle.text.proofs.PlaceLaws.{put_front}
use Rattle.figures.proofs.DigitLaws.{digits-length}
use Rattle.vcdlines.specs.Signals.{Signal, signals, levels_of, levels, first_code}
use Rattle.vcdlines.specs.Head.{head_text}
use Rattle.vcdlines.specs.Dump.{time_line, cycle_behind, level_line, change_of, changes_of, step_text, missing, change_text}

-- ---- a line

pub changed : (first : Bool) (code before after : ℕ) → (first || not (eqb before after)) ≡ true → change_of first code before after ≡ level_line code after
unfolding change_of
changed first code before after t = cond-true _ _ t

pub unchanged : (first : Bool) (code before after : ℕ) → (first || not (eqb before after)) ≡ false → change_of first code before after ≡ []
unfolding change_of
unchanged first code before after t = cond-false _ _ t

-- where one record has no line left, none has changed
pub no_befores : (first : Bool) (code : ℕ) (xs ys : List ℕ) → length xs ≡ 0 → changes_of first code xs ys ≡ []
no_befores first code xs ys e = rw (nil_from_length xs e)

pub no_afters : (first : Bool) (code : ℕ) (xs ys : List ℕ) → length ys ≡ 0 → changes_of first code xs ys ≡ []
no_afters first code [] ys e = refl
no_afters first code (x ∷ xs) ys e = rw (nil_from_length ys e)

-- ---- the levels in fives
levels-append : (xs ys : List Signal) (r : Record) → levels_of (xs ++ ys) r ≡ levels_of xs r ++ levels_of ys r
levels-append [] ys r = refl
levels-append (x ∷ xs) ys r =
    let mine = last_digits 2 x.bits (x.value r) in
    ap (λ (t : List ℕ). mine ++ t) (levels-append xs ys r) ∙ sym (append_assoc mine (levels_of xs r) (levels_of ys r))

pub in_fives : (r : Record) → levels r ≡ (levels_of (take 5 signals) r ++ levels_of (take 5 (drop 5 signals)) r) ++ levels_of (drop 10 signals) r
unfolding levels
in_fives r =
    levels-append (take 10 signals) (drop 10 signals) r
    ∙ ap (λ (t : List ℕ). t ++ levels_of (drop 10 signals) r) (levels-append (take 5 signals) (take 5 (drop 5 signals)) r)

-- as many as the lines
abbrev lines_in : List Signal → ℕ
lines_in [] = 0
lines_in (s ∷ ss) = s.bits + lines_in ss

levels-many : (ss : List Signal) (r : Record) → length (levels_of ss r) ≡ lines_in ss
levels-many [] r = refl
levels-many (s ∷ ss) r =
    length-append (last_digits 2 s.bits (s.value r)) (levels_of ss r)
    ∙ ap (λ (n : ℕ). n + length (levels_of ss r)) (digits-length 2 s.bits (s.value r))
    ∙ ap (λ (n : ℕ). s.bits + n) (levels-many ss r)

pub levels-length : (r : Record) → length (levels r) ≡ 81
unfolding levels
levels-length r = levels-many signals r

-- so they fill an array of 81
pub fills : (array text : List ℕ) → length text ≡ length array → put_at array front text ≡ text
fills array text e =
    let all : length array ≤ length text = omega arith in
    put_front array text (omega arith) ∙ ap (λ (rest : List ℕ). text ++ rest) (drop_of_length-le array all) ∙ append-nil text

-- a step's lines, from arrays that hold the levels
pub step_from : (first : Bool) (last lines : Record) {before after : List ℕ} → before ≡ levels last → after ≡ levels lines → changes_of first first_code (levels last) (levels lines) ≡ changes_of first first_code before after
step_from first last lines e f = rw (e, f)

-- ---- the steps where cycles are missing
pub to_none : (stood : ℕ) (last : Record) {next : ℕ} {none : Record} → next ≡ cycle_behind stood → none ≡ blank → step_text false last (cycle_behind stood) blank ≡ step_text false last next none
to_none stood last e f = rw (e, f)

pub from-none : (cycle : ℕ) (lines : Record) {none : Record} → none ≡ blank → step_text false blank cycle lines ≡ step_text false none cycle lines
from-none cycle lines f = rw f

-- ---- how long a text is at most
pub time-most : (cycle : ℕ) → length (time_line cycle) ≤ 22
unfolding time_line
time-most cycle = simp length-append (omega (arith, (decimal_length cycle).1))

change_of_most : (first : Bool) (code before after : ℕ) → length (change_of first code before after) ≤ 3
unfolding change_of
change_of_most first code before after =
    choice (λ (l : List ℕ). length l ≤ 3) (first || not (eqb before after)) (λ _. omega arith) (λ _. omega arith)

changes_most : (first : Bool) (code : ℕ) (xs ys : List ℕ) → length (changes_of first code xs ys) ≤ 3 * length xs
changes_most first code [] ys = omega arith
changes_most first code (x ∷ xs) [] = omega arith
changes_most first code (x ∷ xs) (y ∷ ys) =
    rw length-append (one_more (change_of_most first code x y) (changes_most first (suc code) xs ys))
  where
    one_more : {a b : ℕ} → a ≤ 3 → b ≤ 3 * length xs → a + b ≤ 3 * suc (length xs)
    one_more h l = omega arith

step_most : (first : Bool) (last : Record) (cycle : ℕ) (lines : Record) → length (step_text first last cycle lines) ≤ 265
unfolding step_text
step_most first last cycle lines =
    let m = changes_most first first_code (levels last) (levels lines) in
    rw length-append (omega (arith, time-most cycle, m, levels-length last))

pub change_most : (first : Bool) (stood : ℕ) (last : Record) (gap cycle : ℕ) (lines : Record) → length (change_text first stood last gap cycle lines) ≤ 530
unfolding change_text
change_most first stood last gap cycle lines =
    choice (λ (l : List ℕ). length l ≤ 530) (missing first gap)
    (λ _. rw length-append (omega (arith, step_most false last (cycle_behind stood) blank, step_most false blank cycle lines)))
    (λ _. omega (arith, step_most first last cycle lines))

pub head_most : length head_text ≤ 2218
unfolding head_text decimal_of spelled
head_most = omega arith
