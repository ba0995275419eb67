-- "The stamp's difference to the last one, modulo 2^32": it is below 2^32, it leads from the last stamp to this one, and no other number does
-- both. Stamps are below 2^32. Assumes nothing.
use Prim.Native.Nat.{ℕ, ◌+◌, ◌%◌, ◌^◌, ◌<◌}
use mathlib.Core.Path.{◌≡◌}
use native.Mathlib.Omega.{arith}
use Rattle.rules.specs.Rules.{difference}

pub difference_less : (last stamp : ℕ) → difference last stamp < 2 ^ 32
difference_less last stamp = omega arith

pub difference_leads : (last stamp : ℕ) → last < 2 ^ 32 → stamp < 2 ^ 32 → (last + difference last stamp) % 2 ^ 32 ≡ stamp
difference_leads last stamp a b = omega arith

pub difference-only : (last stamp d : ℕ) → last < 2 ^ 32 → stamp < 2 ^ 32 → d < 2 ^ 32 → (last + d) % 2 ^ 32 ≡ stamp → d ≡ difference last stamp
difference-only last stamp d a b c e = omega arith
