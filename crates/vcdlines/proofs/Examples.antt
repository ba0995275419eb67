-- Texts of records as a reader would write them, by computing on the definitions. Assumes nothing.
use Prim.Native.Nat.{ℕ, ◌+◌, ◌^◌}
use mathlib.Core.Path.{◌≡◌, refl}
use mathlib.Core.Bool.{Bool, true, false}
use Rattle.record.specs.declared.Record.{Record}
use Rattle.record.specs.Packing.{blank}
use Rattle.text.specs.Decimal.{spelled, decimal_of}
use Rattle.text.specs.Words.{word}
use Rattle.vcdlines.specs.Signals.{levels}
use Rattle.vcdlines.specs.Dump.{time_line, cycle_behind, change_of, step_text, missing, change_text, end_text}

-- all lines inactive but RQST, ARB, START, AD, VAD
with' : Bool → ℕ → Bool → ℕ → ℕ → Record
with' rqst arb start ad vad =
    record {
      stamp = 0;
      reset = false;
      rqst = rqst;
      arb = arb;
      start = start;
      ack = false;
      tm1 = false;
      tm0 = false;
      sp = false;
      spv = false;
      ad = ad;
      vtm1 = false;
      vtm0 = false;
      vack = false;
      vsack = false;
      vad = vad;
    }

-- the first record shown: RQST, and ARB with slot 10
first-shown : change_text true 0 blank 0 2361 (with' true 10 false 0 0) ≡ word "#2361\n0!\n1\"\n1#\n0$\n1%\n0&\n0'\n0(\n0)\n0*\n0+\n0,\n0-\n0.\n0/\n00\n01\n02\n03\n04\n05\n06\n07\n08\n09\n0:\n0;\n0<\n0=\n0>\n0?\n0@\n0A\n0B\n0C\n0D\n0E\n0F\n0G\n0H\n0I\n0J\n0K\n0L\n0M\n0N\n0O\n0P\n0Q\n0R\n0S\n0T\n0U\n0V\n0W\n0X\n0Y\n0Z\n0[\n0\\\n0]\n0^\n0_\n0`\n0a\n0b\n0c\n0d\n0e\n0f\n0g\n0h\n0i\n0j\n0k\n0l\n0m\n0n\n0o\n0p\n0q\n"
unfolding change_text missing step_text time_line change_of levels with' decimal_of spelled
first-shown = refl

-- in the next cycle RQST falls and START rises
two_changed : change_text false 2361 (with' true 10 false 0 0) 1 2362 (with' false 10 true 0 0) ≡ word "#2362\n0\"\n1'\n"
unfolding change_text missing step_text time_line change_of levels with' decimal_of spelled
two_changed = refl

-- nothing changes
none_changed : change_text false 7 (with' true 10 false 0 0) 1 8 (with' true 10 false 0 0) ≡ word "#8\n"
unfolding change_text missing step_text time_line change_of levels with' decimal_of spelled
none_changed = refl

-- four cycles are missing: all lines fall; then RQST and ARB rise again, and with them AD[31], AD[0], VAD[32] and VAD[1]
missing-shown : change_text false 8 (with' true 10 true 0 0) 5 13 (with' true 10 false (2 ^ 31 + 1) (2 ^ 32 + 2)) ≡ word "#9\n0\"\n0#\n0%\n0'\n#13\n1\"\n1#\n1%\n1-\n1L\n1Q\n1p\n"
unfolding change_text missing step_text time_line cycle_behind change_of levels with' decimal_of spelled
missing-shown = refl

end-shown : end_text 13 ≡ word "#14\n"
unfolding time_line cycle_behind decimal_of spelled
end-shown = refl
