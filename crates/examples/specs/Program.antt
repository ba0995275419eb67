-- Document 01, "Checked examples": the judging program's example, from the bytes of its input to the bytes that it prints.
use Rattle.std.specs.Prelude.{ℕ, List, ◌∷◌, ◌++◌, ◌≡◌, replicate}
use Rattle.text.specs.Words.{word}
use Rattle.printed.specs.Lines.{page_of}

-- "Given P1's record; the same with stamp FFFFFFFF; `00 00 00 00 2A 0F A0` and nine 00; `00 00 00 03 01 C0` and ten 00,"
abbrev pub program_input : List ℕ
program_input =
    (0xFF ∷ 0xFF ∷ 0xFF ∷ 0xFE ∷ 0x68 ∷ replicate 11 0)
    ++ (0xFF ∷ 0xFF ∷ 0xFF ∷ 0xFF ∷ 0x68 ∷ replicate 11 0)
    ++ (0 ∷ 0 ∷ 0 ∷ 0 ∷ 0x2A ∷ 0x0F ∷ 0xA0 ∷ replicate 9 0)
    ++ (0 ∷ 0 ∷ 0 ∷ 3 ∷ 0x01 ∷ 0xC0 ∷ replicate 10 0)

-- "it prints .."
abbrev pub ProgramPrints : Type 0
ProgramPrints = page_of 16 program_input ≡ word "records 4 span 5 starts 1 acks 1 aborted 0 open 0\nconforming\n"
