-- Document 01, "Cache blocks": "States: 0 invalid, 1 unowned, 2 owned shared, 3 owned private."
-- No other definition spells a state's number.
use Rattle.std.specs.Prelude.{ℕ, Bool, not, ◌||◌, eqb, leb}

abbrev pub invalid : ℕ
invalid = 0

abbrev pub unowned : ℕ
unowned = 1

abbrev pub owned_shared : ℕ
owned_shared = 2

abbrev pub owned_private : ℕ
owned_private = 3

-- "no state is over 3"
unfoldable pub legal : ℕ → Bool
legal x = leb x 3

-- a slot in any state but invalid is valid: its copy counts
unfoldable pub valid : ℕ → Bool
valid x = not (eqb x invalid)

-- a slot that is owned private is a private owner
unfoldable pub private : ℕ → Bool
private x = eqb x owned_private

-- a slot that is owned shared or owned private owns the block
unfoldable pub owns : ℕ → Bool
owns x = eqb x owned_shared || private x
