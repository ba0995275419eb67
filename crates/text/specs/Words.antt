-- A quoted text as its ASCII bytes, so that a contract can say "ready " where the code has b"ready ".
use Rattle.std.specs.Prelude.{ℕ, List, [] as []ᴸ, ◌∷◌ as ◌∷ᴸ◌}
use Prim.Native.Char.{code}
use Prim.Native.String.{String, [], ◌∷◌}

abbrev pub word : String → List ℕ
word [] = []ᴸ
word (c ∷ s) = code c ∷ᴸ word s
