-- Laws of the program's words. Assumes nothing.
use Prim.Native.Nat.{ℕ, suc, ◌+◌, ◌-◌, ◌≤◌, ◌<◌}
use mathlib.Core.List.{List, [], ◌∷◌, ◌++◌}
use mathlib.Core.Path.{◌≡◌, refl, sym, ap, ◌∙◌}
use native.Mathlib.Omega.{arith}
use native.Mathlib.Numerals.{add-one}
use lib.ListN.{length, get_or, take, drop, set, length-append, length-drop, drop_of_length-le}
use lib.Seq.{drop-cons, take_all}
use lib.Dec.{ltb}
use borrow.Author.Tests.{eq-eqb, ne_eqb, lt-ltb, le-ltb}
use Rattle.basics.proofs.Bools.{choice, cond-true, cond-false}
use Rattle.std.specs.Prelude.{Option, Some, None}
use Rattle.text.specs.Numbers.{number_of, is_number}
use Rattle.marks.specs.declared.Marks.{Marks}
use Rattle.marks.specs.declared.Mark.{Mark}
use Rattle.spurphases.specs.Words.{slash_in, mark_of, mark_in, with_mark, count_of, named_as, named_from, named_by}

-- ---- the slash
module _ (word : List ℕ) (at : ℕ) where
  pub slash_here : at < length word → get_or word at 0 ≡ 47 → slash_in (drop at word) ≡ 0
  slash_here h e = ap slash_in (drop-cons word at 0 h) ∙ cond-true _ _ (eq-eqb (get_or word at 0) 47 e)

  pub slash_on : at < length word → (get_or word at 0 ≡ 47 → ⊥) → slash_in (drop at word) ≡ suc (slash_in (drop (at + 1) word))
  slash_on h ne =
      ap slash_in (drop-cons word at 0 h) ∙ cond-false _ _ (ne_eqb (get_or word at 0) 47 ne) ∙ ap (λ (k : ℕ). suc (slash_in (drop k word))) (sym (add-one at))

  pub slash_none : length word ≤ at → slash_in (drop at word) ≡ 0
  slash_none h = ap slash_in (drop_of_length-le word h)

-- ---- a mark
no_number : (slot : Option ℕ) → mark_of slot None ≡ None
no_number (Some slot) = refl
no_number None = refl

pub no_mark : (word : List ℕ) (at : ℕ) → at ≡ slash_in word → at ≡ length word → None ≡ mark_in word
unfolding mark_in number_of is_number
no_mark word at e l =
    sym (ap (λ (k : ℕ). mark_of (number_of (take k word)) (number_of (drop (k + 1) word))) (sym e)
    ∙ ap (λ (r : List ℕ). mark_of (number_of (take at word)) (number_of r)) (drop_of_length-le word (let z : length word ≤ at + 1 = omega arith in z))
    ∙ no_number (number_of (take at word)))

pub mark-found : (word : List ℕ) (at : ℕ) (slot number : Option ℕ) → at ≡ slash_in word → slot ≡ number_of (take at word) → number ≡ number_of (take (length word - (at + 1)) (drop (at + 1) word))
    → mark_of slot number ≡ mark_in word
unfolding mark_in
mark-found word at slot number e se ne =
    let rest = take_all (length word - (at + 1)) (drop (at + 1) word) (simp length-drop (omega arith)) in
    ap (λ (x : Option ℕ). mark_of x number) se
    ∙ ap (λ (x : Option ℕ). mark_of (number_of (take at word)) x) (ne ∙ ap number_of rest)
    ∙ ap (λ (k : ℕ). mark_of (number_of (take k word)) (number_of (drop (k + 1) word))) e

-- ---- the marks
abbrev pub counted : Marks → Marks
counted m = record { marks = m.marks; count = m.count + 1 }

module _ (m : Marks) (mark : Mark) where
  pub mark-kept : m.count < 32 → counted (record { marks = set m.marks m.count mark; count = m.count }) ≡ with_mark m mark
  unfolding with_mark
  mark-kept h = sym (cond-true _ _ (lt-ltb m.count 32 h))

  pub mark-counted : 32 ≤ m.count → counted m ≡ with_mark m mark
  unfolding with_mark
  mark-counted h = sym (cond-false _ _ (le-ltb m.count 32 h))

with-count : (m : Marks) (mark : Mark) → (with_mark m mark).count ≡ m.count + 1
unfolding with_mark
with-count m mark = choice (λ (x : Marks). x.count ≡ m.count + 1) (ltb m.count 32) (λ _. refl) (λ _. refl)

-- one word behind others
from_last : (n : Option Marks) (words : List (List ℕ)) (word : List ℕ) → named_from n (words ++ (word ∷ [])) ≡ named_as (named_from n words) (mark_in word)
from_last n [] word = refl
from_last n (first ∷ words) word = from_last (named_as n (mark_in first)) words word

named_more : (n : Option Marks) (w : Option Mark) → count_of (named_as n w) ≤ count_of n + 1
named_more (Some m) (Some mark) = let c = with-count m mark in omega arith
named_more (Some m) None = omega arith
named_more None w = omega arith

-- the words before word `next` are taken in, and there are `count` in all
pub record Naming (count next : ℕ) (n : Option Marks) : Type 0 where
  pub words : List (List ℕ)
  pub size : length words + 2 ≡ next
  pub within : length words ≤ count - 2
  pub named : n ≡ named_by words
  pub few : count_of n ≤ length words

pub naming_start : (count : ℕ) (n : Option Marks) → n ≡ named_by [] → Naming count 2 n
unfolding named_by
naming_start count n e =
    record { words = []; size = refl; within = omega arith; named = e; few = let z = ap count_of e in omega arith }

pub naming_on : (count next : ℕ) (n after : Option Marks) (word : List ℕ) → Naming count next n → next < count → after ≡ named_as n (mark_in word) → Naming count (next + 1) after
unfolding named_by
naming_on count next n after word h lt e =
    let more = length-append h.words (word ∷ []) in
    record {
      words = h.words ++ (word ∷ []);
      size = let s = h.size in omega arith;
      within = let s = h.size in omega arith;
      named = e ∙ ap (λ (x : Option Marks). named_as x (mark_in word)) h.named ∙ sym (from_last _ h.words word);
      few = let f = h.few in let g = ap count_of e in let k = named_more n (mark_in word) in omega arith;
    }
