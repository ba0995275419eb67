-- What is shown of a recording: "one line for each record from place FROM to place TO, both counted from 0 and included, as far as there are records".
-- Here as the program makes it, from a walk on and piece by piece; of the recording itself it is said in specs/Pages.
use Rattle.std.specs.Prelude.{ℕ, ◌+◌, ◌-◌, ◌*◌, ◌/◌, ◌%◌, min, Bool, true, false, cond, ◌&&◌, List, [], ◌∷◌, ◌++◌, eqb, ltb, leb, length, Option, Some, None, Result, Ok, Err}
use Rattle.rules.specs.Run.{Taken, records_in}
use Rattle.rules.specs.Verdict.{most_records}
use Rattle.walk.specs.declared.Walk.{Walk}
use Rattle.walk.specs.Walks.{gap_before, onward}
use Rattle.rowlines.specs.Rows.{row_line}
use Rattle.vcdlines.specs.Dump.{change_text, end_text}
use Rattle.vcdlines.specs.Head.{head_text}
use Rattle.spurshow.specs.declared.Asked.{Asked}
use Rattle.spurshow.specs.declared.Amiss.{Amiss}
use Rattle.spurshow.specs.declared.Amiss.TheVariants.{NoRecord, TooMany, Torn}

-- more records are to be walked: "It reads no further than record TO", and "at a whole record past 2^30 it stops"
unfoldable pub goes : Asked → Walk → Bool
goes a w = leb w.place a.to && ltb w.place most_records

-- the next record's row
abbrev pub row_of : Walk → Taken → List ℕ
row_of w t = row_line w.place (onward w t.lines).cycle (gap_before w t.lines.stamp) t.lines t.spare

-- a dump's head, before the first record shown
abbrev pub head_of : Bool → List ℕ
head_of true = head_text
head_of false = []

-- the next record in a dump; the first one shown stands at FROM
abbrev pub dump_of : Asked → Walk → Taken → List ℕ
dump_of a w t =
    head_of (eqb w.place a.from)
    ++ change_text (eqb w.place a.from) w.cycle w.last (gap_before w t.lines.stamp) (onward w t.lines).cycle t.lines

-- what is shown of it: nothing before FROM
unfoldable pub text_of : Asked → Walk → Taken → List ℕ
text_of a w t = cond (leb a.from w.place) (cond a.dump (dump_of a w t) (row_of w t)) []

-- what is shown of records that come behind a walk, and the walk behind them
abbrev pub shown : Asked → Walk → List Taken → List ℕ
shown a w [] = []
shown a w (t ∷ ts) = cond (goes a w) (text_of a w t ++ shown a (onward w t.lines) ts) []

abbrev pub walked_over : Asked → Walk → List Taken → Walk
walked_over a w [] = w
walked_over a w (t ∷ ts) = cond (goes a w) (walked_over a (onward w t.lines) ts) w

-- the whole records of a piece
abbrev pub records_of : List ℕ → List Taken
records_of piece = records_in (length piece / 16) piece

-- ---- reading
-- how many bytes are read next, so many records having been walked: a piece, and none behind record TO, so that a pipe that stays open there isn't waited for
unfoldable pub piece_of : Asked → ℕ → ℕ
piece_of a place = min 1024 ((a.to + 1 - place) * 16)

-- ---- the end
-- what is wrong where the program reads no further: so many records were walked before the last piece, which has so many bytes, and so many after it.
-- "where no record is in the range .. `no record is in the range`"; nothing where record TO was shown; "at a whole record past 2^30 .. `more than 2^30
-- records`"; "Where it comes to a torn end before that .. `the recording ends within a record`"
unfoldable pub ending_of : Asked → ℕ → ℕ → ℕ → Result (Unit {0}) Amiss
ending_of a earlier size after =
    cond (leb after a.from) (Err NoRecord)
    (cond (ltb a.to after) (Ok tt)
    (cond (ltb most_records (earlier + size / 16)) (Err TooMany)
    (cond (eqb (size % 16) 0) (Ok tt) (Err Torn))))

-- "At the end `#` and the cycle behind the last record shown", in a dump that shows one
unfoldable pub last_of : Asked → Walk → List ℕ
last_of a w = cond (a.dump && ltb a.from w.place) (end_text w.cycle) []

-- ---- the words
-- the places of the first and the last record: two numbers
abbrev pub range_of : Bool → Option ℕ → Option ℕ → Option Asked
range_of dump (Some from) (Some to) = Some (record { dump = dump; from = from; to = to })
range_of dump (Some from) None = None
range_of dump None to = None

-- and before them `rows` or `vcd`
unfoldable pub request_of : Bool → Bool → Option ℕ → Option ℕ → Option Asked
request_of rows vcd from to = cond rows (range_of false from to) (cond vcd (range_of true from to) None)
