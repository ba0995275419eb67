-- WHAT THE PROGRAM SHOWS, said of the recording itself: the recording that all the bytes of the input hold (`recording_in`), the cycle in which each record
-- stands and the gap before it (`cycle`, `gap`, of rules/specs/Recording).
use Rattle.std.specs.Prelude.{ℕ, zero, suc, ◌+◌, ◌-◌, ◌/◌, ◌%◌, min, cond, ◌&&◌, List, [], ◌∷◌, ◌++◌, ◌≡◌, eqb, ltb, length, Result}
use Rattle.rules.specs.Recording.{Recording, recording_in, gap, cycle}
use Rattle.rules.specs.Verdict.{most_records}
use Rattle.record.specs.Packing.{blank}
use Rattle.rowlines.specs.Rows.{row_line}
use Rattle.vcdlines.specs.Dump.{change_text, end_text}
use Rattle.walk.specs.declared.Walk.{Walk}
use Rattle.spurshow.specs.declared.Asked.{Asked}
use Rattle.spurshow.specs.declared.Amiss.{Amiss}
use Rattle.spurshow.specs.Shown.{head_of, shown, walked_over, records_of, last_of, ending_of}

-- the row of the record at place i
abbrev pub row_at : Recording → ℕ → List ℕ
row_at r i = row_line i (cycle r.lines i) (gap r.lines i) (r.lines i) (r.spare i)

-- what the place before i has, and none before place 0
abbrev pub before : {A : Type 0} → (ℕ → A) → A → ℕ → A
before f none zero = none
before f none (suc i) = f i

-- the record at place i in a dump that begins with the one at FROM: "for the first record shown `#S` and the values of all 81 lines; for each later one
-- `#S` and those that have changed", by the record before it and the cycle in which that one stands
abbrev pub dump_at : Recording → ℕ → ℕ → List ℕ
dump_at r from i =
    head_of (eqb i from)
    ++ change_text (eqb i from) (before (cycle r.lines) 0 i) (before r.lines blank i) (gap r.lines i) (cycle r.lines i) (r.lines i)

abbrev pub text_at : Asked → Recording → ℕ → List ℕ
text_at a r i = cond a.dump (dump_at r a.from i) (row_at r i)

-- the texts of n places from place k on, one behind the other
abbrev pub each : (ℕ → List ℕ) → ℕ → ℕ → List ℕ
each text k zero = []
each text k (suc n) = text k ++ each text (suc k) n

-- the place behind the last record that counts, of n: TO is included, and there are 2^30 at most
abbrev pub behind_last : Asked → ℕ → ℕ
behind_last a n = min (min n (a.to + 1)) most_records

-- a dump that shows a record ends with the cycle behind that of the last one, n - 1
unfoldable pub last_at : Asked → Recording → ℕ → List ℕ
last_at a r n = cond (a.dump && ltb a.from n) (end_text (before (cycle r.lines) 0 n)) []

-- THE TEXT OF AN INPUT: of every record from FROM to TO, as far as there are records, and the dump's end
abbrev pub page_in : Asked → List ℕ → List ℕ
page_in a bytes =
    each (text_at a (recording_in bytes)) a.from (behind_last a (length bytes / 16) - a.from)
    ++ last_at a (recording_in bytes) (behind_last a (length bytes / 16))

-- and what is wrong at its end, as of one piece
abbrev pub ending_in : Asked → List ℕ → Result (Unit {0}) Amiss
ending_in a bytes = ending_of a 0 (length bytes) (behind_last a (length bytes / 16))

-- ---- in pieces
-- what is printed of an input that comes in pieces: the text of each, and a dump's end. Once record TO is shown, further pieces add nothing
abbrev pub printed_of : Asked → Walk → List (List ℕ) → List ℕ
printed_of a w [] = last_of a w
printed_of a w (piece ∷ pieces) = shown a w (records_of piece) ++ printed_of a (walked_over a w (records_of piece)) pieces

-- every piece but the last is whole records
abbrev pub WholeButLast : List (List ℕ) → Type 0
WholeButLast [] = Unit {0}
WholeButLast (piece ∷ []) = Unit {0}
WholeButLast (piece ∷ next ∷ pieces) = (length piece % 16 ≡ 0) × WholeButLast (next ∷ pieces)
