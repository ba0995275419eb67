-- Document 02, wish 3, "Who used the bus", as lines: those of the judging program, said once in printed/specs/Lines, and then a line for each of the
-- sixteen slots; as bytes, each with its newline.
use Rattle.std.specs.Prelude.{ℕ, suc, cond, List, [], ◌∷◌, ◌++◌}
use Rattle.basics.specs.Numbers.{lawful_limit}
use Rattle.text.specs.Words.{word}
use Rattle.printed.specs.Lines.{named, refused_line, lines_of}
use Rattle.entries.specs.declared.Entry.{Entry}
use Rattle.usage.specs.declared.Closing.{Closing}
use Rattle.usage.specs.Pieces.{reckoning_of}

-- slot k, counted from 0, its STARTs and its busy cycles, as in `slot 10 starts 2 busy 7`
unfoldable pub slot_line : ℕ → Entry → List ℕ
slot_line k e = named "slot " k ++ named " starts " e.starts ++ named " busy " e.busy ++ word "\n"

-- a line for each entry, the first being that of slot k
abbrev pub slot_lines : ℕ → List Entry → List ℕ
slot_lines k [] = []
slot_lines k (e ∷ es) = slot_line k e ++ slot_lines (suc k) es

-- all lines of what an input comes to: the totals, the verdict, the slots
abbrev pub closing_lines : Closing → List ℕ
closing_lines c = lines_of c.ending ++ slot_lines 0 c.entries

-- WHAT THE PROGRAM OF ACCOUNTS PRINTS for a hold limit and all the bytes of its input: a hold limit that is not 1 to 16 is refused by 3, a line alone
abbrev pub accounts_page : ℕ → List ℕ → List ℕ
accounts_page limit bytes = cond (lawful_limit limit) (closing_lines (reckoning_of limit bytes)) (refused_line 3)
