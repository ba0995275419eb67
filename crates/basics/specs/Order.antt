-- Document 01: "If several apply, the order is ..": the number of the first condition that fails, else what the later ones say.
use Rattle.std.specs.Prelude.{ℕ, Bool, true, false, not, ◌||◌}

abbrev pub unless : Bool → ℕ → ℕ → ℕ
unless true number rest = rest
unless false number rest = number

-- where `a` holds, `b` has to
abbrev pub implies : Bool → Bool → Bool
implies a b = not a || b
