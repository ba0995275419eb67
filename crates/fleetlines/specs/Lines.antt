-- The line of a fleet's figures: "`count K least L median M greatest G mean Q remainder R`; `count 0` alone where there are none".
use Rattle.std.specs.Prelude.{ℕ, cond, List, [], ◌++◌, eqb}
use Rattle.text.specs.Words.{word}
use Rattle.printed.specs.Lines.{named}
use Rattle.fleet.specs.declared.Summary.{Summary}
use Rattle.fleet.specs.Figures.{summary_of}

-- "least L median M greatest G mean Q remainder R"
unfoldable pub figures_text : Summary → List ℕ
figures_text s =
    named " least " s.least
    ++ named " median " s.median
    ++ named " greatest " s.greatest
    ++ named " mean " s.mean
    ++ named " remainder " s.remainder

-- "`count 0` alone where there are none"
unfoldable pub rest_text : Summary → List ℕ
rest_text s = cond (eqb s.count 0) [] (figures_text s)

-- the line, with its newline
unfoldable pub summary_line : Summary → List ℕ
summary_line s = named "count " s.count ++ rest_text s ++ word "\n"

-- WHAT THE PROGRAM OF A FLEET PRINTS for its numbers
abbrev pub fleet_page : List ℕ → List ℕ
fleet_page xs = summary_line (summary_of xs)
