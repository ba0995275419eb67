-- Document 01, "The contest (001, 2.7.1)": "A contestant drives a bit of its slot number only while no higher ARB line is active that its own
-- number lacks. The settled lines are worked out from ARB3 down to ARB0, each line from those above it. They have one settled value, and it is
-- the highest contesting slot. Slot 0 alone drives no line and still wins; an empty set has no winner."
use Rattle.std.specs.Prelude.{ℕ, zero, suc, ◌<◌, ◌≡◌, Bool, true, false, cond, ◌&&◌, ◌||◌, not, eqb, Option, Some, None}
use Rattle.basics.specs.Lines.{active}
use Rattle.slots.specs.Set.{mem, top}

-- 001, 2.7.1, as the equations stand there. What a master drives (o) from what it reads (i): `arb` is its "desire to use the bus", `id` its slot
-- number, `lines` the ARB lines read; `*` is and, `+` is or, and ARBx/, the backplane's line, is the inverse of ARBx.
-- ARB3o = arb * ID3
abbrev pub arb3o : Bool → ℕ → ℕ → Bool
arb3o arb id lines = arb && active 3 id

-- ARB2o = arb * ID2 * (ID3 + ARB3/i)
abbrev pub arb2o : Bool → ℕ → ℕ → Bool
arb2o arb id lines = arb && active 2 id && (active 3 id || not (active 3 lines))

-- ARB1o = arb * ID1 * (ID3 + ARB3/i) * (ID2 + ARB2/i)
abbrev pub arb1o : Bool → ℕ → ℕ → Bool
arb1o arb id lines = arb && active 1 id && (active 3 id || not (active 3 lines)) && (active 2 id || not (active 2 lines))

-- ARB0o = arb * ID0 * (ID3 + ARB3/i) * (ID2 + ARB2/i) * (ID1 + ARB1/i)
abbrev pub arb0o : Bool → ℕ → ℕ → Bool
arb0o arb id lines =
    arb && active 0 id && (active 3 id || not (active 3 lines)) && (active 2 id || not (active 2 lines)) && (active 1 id || not (active 1 lines))

-- the equation of a line by its number; ARB3 is the highest line
unfoldable pub drives : ℕ → Bool → ℕ → ℕ → Bool
drives zero arb id lines = arb0o arb id lines
drives (suc zero) arb id lines = arb1o arb id lines
drives (suc (suc zero)) arb id lines = arb2o arb id lines
drives (suc (suc (suc k))) arb id lines = arb3o arb id lines

-- "A contestant drives a bit of its slot number only while no higher ARB line is active that its own number lacks."
pub record MayDrive (k : ℕ) (arb : Bool) (id lines : ℕ) : Type 0 where
  pub contests : arb ≡ true
  pub own : active k id ≡ true
  pub lacks_none : (j : ℕ) → k < j → j < 4 → active j lines ≡ true → active j id ≡ true

-- a master below slot n drives line k; those of the set contest. 001, footnote 6: "The line will take a low value if any master drives it low"
unfoldable pub driven_below : ℕ → ℕ → ℕ → ℕ → Bool
driven_below zero k set lines = false
driven_below (suc n) k set lines = drives k (mem n set) n lines || driven_below n k set lines

abbrev pub driven : ℕ → ℕ → ℕ → Bool
driven k set lines = driven_below 16 k set lines

-- the lines are settled: each is active exactly if it is driven while they are read so
pub record Settled (set lines : ℕ) : Type 0 where
  pub line3 : active 3 lines ≡ driven 3 set lines
  pub line2 : active 2 lines ≡ driven 2 set lines
  pub line1 : active 1 lines ≡ driven 1 set lines
  pub line0 : active 0 lines ≡ driven 0 set lines

-- "They have one settled value, and it is the highest contesting slot."
pub record Settles (set lines : ℕ) : Type 0 where
  pub settled : Settled set lines
  pub only : (others : ℕ) → others < 16 → Settled set others → others ≡ lines
  pub highest : lines ≡ top set

-- the winner: "an empty set has no winner"
unfoldable pub winner_of : ℕ → Option ℕ
winner_of set = cond (eqb set 0) None (Some (top set))
