-- The words of the program of boot phases, as in `spurphases 16 3/4 12/0`: the hold limit, and then the marks (document 02, wish 1: "The caller names
-- 1 to 32 marks in order, each a slot and an interrupt number"), each `S/N` in decimal.
use Rattle.std.specs.Prelude.{ℕ, suc, ◌+◌, ◌-◌, min, cond, List, [], ◌∷◌, ◌≡◌, length, take, drop, set, eqb, ltb, Option, Some, None}
use Rattle.text.specs.Numbers.{number_of}
use Rattle.marks.specs.declared.Mark.{Mark}
use Rattle.marks.specs.declared.Marks.{Marks}
use Rattle.marks.specs.State.{no_marks}

-- ---- a word
-- how many bytes stand before the first slash, which is 47 in ASCII: all of them where there is none
abbrev pub slash_in : List ℕ → ℕ
slash_in [] = 0
slash_in (b ∷ bs) = cond (eqb b 47) 0 (suc (slash_in bs))

-- a slot and an interrupt number; one over 255 counts as 255, which is refused as it would be
abbrev pub mark_of : Option ℕ → Option ℕ → Option Mark
mark_of (Some slot) (Some number) = Some (record { slot = min slot 255; number = min number 255 })
mark_of (Some slot) None = None
mark_of None number = None

-- what a word says as a mark: a number before the first slash, and a number behind it
unfoldable pub mark_in : List ℕ → Option Mark
mark_in word = mark_of (number_of (take (slash_in word) word)) (number_of (drop (slash_in word + 1) word))

-- ---- all the words
-- one mark more; past the 32nd it is counted, so that it is refused, and not kept
unfoldable pub with_mark : Marks → Mark → Marks
with_mark m mark =
    cond (ltb m.count 32)
    (record { marks = set m.marks m.count mark; count = m.count + 1 })
    (record { marks = m.marks; count = m.count + 1 })

-- how many marks there are, 0 where a word is none
abbrev pub count_of : Option Marks → ℕ
count_of (Some m) = m.count
count_of None = 0

-- the marks with one more, where neither a word before nor this one is no mark
abbrev pub named_as : Option Marks → Option Mark → Option Marks
named_as (Some m) (Some mark) = Some (with_mark m mark)
named_as (Some m) None = None
named_as None word = None

abbrev pub named_from : Option Marks → List (List ℕ) → Option Marks
named_from n [] = n
named_from n (word ∷ words) = named_from (named_as n (mark_in word)) words

-- the marks that words name, in their order, where each of the words is one
unfoldable pub named_by : List (List ℕ) → Option Marks
named_by words = named_from (Some no_marks) words

-- the marks of a program that was started with so many words, its own name and the hold limit among them. No contract can say which bytes a word has
pub record Given (count : ℕ) (n : Option Marks) : Type 0 where
  pub words : List (List ℕ)
  pub size : length words ≡ count - 2
  pub named : n ≡ named_by words
