-- What the program of worst waits prints: `slot S limit L others O cycles C seconds T`, or a refusal's line.
use Rattle.std.specs.Prelude.{ℕ, ◌≤◌, cond, List, ◌++◌, ◌≡◌, length, take, eqb, Option, Some, None}
use Rattle.basics.specs.Answers.{Answer}
use Rattle.text.specs.Words.{word}
use Rattle.printed.specs.Lines.{named, refused_line}
use Rattle.figures.specs.Times.{seconds_of}
use Rattle.quote.specs.declared.Worst.{Worst}
use Rattle.quote.specs.Quotes.{quote_of}

-- what demand 3 proves for a master in this slot under this limit: STARTs of others, cycles, and the time of these cycles in seconds
unfoldable pub worst_line : ℕ → ℕ → Worst → List ℕ
worst_line slot limit w =
    named "slot " slot
    ++ named " limit " limit
    ++ named " others " w.others
    ++ named " cycles " w.cycles
    ++ word " seconds "
    ++ seconds_of w.cycles
    ++ word "\n"

-- an answer's line: its refusal, where its number is one
unfoldable pub answer_line : ℕ → ℕ → Answer Worst → List ℕ
answer_line slot limit a = cond (eqb a.number 0) (worst_line slot limit a.value) (refused_line a.number)

-- WHAT THE PROGRAM PRINTS for any two numbers
abbrev pub quote_line : ℕ → ℕ → List ℕ
quote_line slot limit = answer_line slot limit (quote_of slot limit)

-- THE PROMISE of the program: what it prints of its page is the line of the two numbers that its words name; it complains where they don't
unfoldable pub Prints : Option (ℕ × ℕ) → List ℕ → Option ℕ → Type 0
Prints (Some asked) page (Some n) = (n ≤ length page) × (take n page ≡ quote_line asked.0 asked.1)
Prints (Some asked) page None = ⊥
Prints None page (Some n) = ⊥
Prints None page None = Unit {0}
