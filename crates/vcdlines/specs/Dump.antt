-- The text of one record in a Value Change Dump (IEEE 1364), as bytes, each line with its newline: "for the first record shown `#S` and the values of
-- all 81 lines; for each later one `#S` and those that have changed". A time is a bus cycle.
use Rattle.std.specs.Prelude.{ℕ, suc, ◌+◌, ◌-◌, ◌^◌, min, Bool, false, cond, not, ◌&&◌, ◌||◌, List, [], ◌∷◌, ◌++◌, eqb, ltb}
use Rattle.text.specs.Decimal.{decimal_of}
use Rattle.text.specs.Words.{word}
use Rattle.record.specs.declared.Record.{Record}
use Rattle.record.specs.Packing.{blank}
use Rattle.vcdlines.specs.Signals.{levels, first_code}

-- "`#S`", as in `#2361`
unfoldable pub time_line : ℕ → List ℕ
time_line cycle = word "#" ++ decimal_of cycle ++ word "\n"

-- the cycle behind this one. A cycle is a number of 64 bits, and none is behind the last of these; no recording comes to it: 2^30 records, each at
-- most 2^32 cycles behind the one before, are 2^62
unfoldable pub cycle_behind : ℕ → ℕ
cycle_behind cycle = min (cycle + 1) (2 ^ 64 - 1)

-- "One line of text for each .. value: `1!`"
abbrev pub level_line : ℕ → ℕ → List ℕ
level_line code level = level ∷ code ∷ word "\n"

-- a line's level where it has changed, and nothing otherwise; at the first record shown every level counts as changed
unfoldable pub change_of : Bool → ℕ → ℕ → ℕ → List ℕ
change_of first code before after = cond (first || not (eqb before after)) (level_line code after) []

-- of all lines in their order, each with the code behind that of the line before
abbrev pub changes_of : Bool → ℕ → List ℕ → List ℕ → List ℕ
changes_of first code [] afters = []
changes_of first code (b ∷ befores) [] = []
changes_of first code (b ∷ befores) (a ∷ afters) = change_of first code b a ++ changes_of first (suc code) befores afters

-- "`#S` and the values of all 81 lines" or "`#S` and those that have changed, in that order"
unfoldable pub step_text : Bool → Record → ℕ → Record → List ℕ
step_text first last cycle lines = time_line cycle ++ changes_of first first_code (levels last) (levels lines)

-- "Where cycles are missing before a record (D over 1)"
unfoldable pub missing : Bool → ℕ → Bool
missing first gap = not first && ltb 1 gap

-- THE TEXT OF A RECORD: of the first one shown, or of one that stands so many cycles, gap, behind the last one shown. "Where cycles are missing before a
-- record .., all lines are inactive in them: `#` and the cycle behind the record before, then the lines that go to 0, and then the record."
unfoldable pub change_text : Bool → ℕ → Record → ℕ → ℕ → Record → List ℕ
change_text first lastCycle last gap cycle lines =
    cond
    (missing first gap)
    (step_text false last (cycle_behind lastCycle) blank ++ step_text false blank cycle lines)
    (step_text first last cycle lines)

-- THE TEXT AT THE END: "At the end `#` and the cycle behind the last record shown, so that its cycle has a width."
abbrev pub end_text : ℕ → List ℕ
end_text cycle = time_line (cycle_behind cycle)
