-- The head of a Value Change Dump (IEEE 1364): a name, the time's unit, which is a bus cycle, and "a `$var` line for each of the 81".
use Rattle.std.specs.Prelude.{ℕ, zero, suc, cond, List, [], ◌∷◌, ◌++◌, eqb}
use Prim.Native.String.{String}
use Rattle.text.specs.Decimal.{decimal_of}
use Rattle.text.specs.Words.{word}
use Rattle.vcdlines.specs.Signals.{Signal, signals, first_code}

-- the names of several lines, the highest first: "`ARB[3]`" to "`ARB[0]`"
abbrev pub bus_names : String → ℕ → List (List ℕ)
bus_names name zero = []
bus_names name (suc k) = (word name ++ word "[" ++ decimal_of k ++ word "]") ∷ bus_names name k

-- the names of all lines, in their order: a line alone has its name alone
abbrev pub names_of : List Signal → List (List ℕ)
names_of [] = []
names_of (s ∷ ss) = cond (eqb s.bits 1) (word s.name ∷ []) (bus_names s.name s.bits) ++ names_of ss

-- "`$var wire 1 ! RESET $end`", and so on with the codes that follow
abbrev pub var_lines : ℕ → List (List ℕ) → List ℕ
var_lines code [] = []
var_lines code (name ∷ names) = word "$var wire 1 " ++ (code ∷ []) ++ word " " ++ name ++ word " $end\n" ++ var_lines (suc code) names

-- THE HEAD
unfoldable pub head_text : List ℕ
head_text =
    word "$version Treadleoak SpurBus library $end\n$timescale 100 ns $end\n$scope module spurbus $end\n"
    ++ var_lines first_code (names_of signals)
    ++ word "$upscope $end\n$enddefinitions $end\n"
