-- The words of a program that takes a hold limit and nothing else.
use Rattle.std.specs.Prelude.{ℕ, cond, List, ltb, Option, Some, None}
use Rattle.text.specs.Numbers.{number_of}

-- the hold limit, from the number of the program's words, its own name among them, and the second of them: 16 where there is none, and nothing where it is no number or more words stand behind it
unfoldable pub limit_given : ℕ → List ℕ → Option ℕ
limit_given count second = cond (ltb count 2) (Some 16) (cond (ltb 2 count) None (number_of second))
