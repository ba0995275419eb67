-- Document 01, "Cache blocks": "A block is coherent if no state is over 3, at most one slot owns it, a private owner's fellows are all
-- invalid, and all valid copies are equal, and equal to memory where no slot owns."
use Rattle.std.specs.Prelude.{ℕ, zero, suc, ◌<◌, Bool, true, false, cond, ◌&&◌, ◌≡◌, eqb, ltb}
use Rattle.basics.specs.Order.{implies}
use Rattle.cache.specs.States.{invalid, legal, valid, private, owns}

-- one block as the three tables hold it: each slot's state and copy, and memory's word
pub record Block : Type 0 where
  pub state : ℕ → ℕ
  pub copy : ℕ → ℕ
  pub word : ℕ

pub record Coherent (b : Block) : Type 0 where
  -- "no state is over 3"
  pub within : (k : ℕ) → k < 16 → legal (b.state k) ≡ true
  -- "at most one slot owns it"
  pub single : (i k : ℕ) → i < 16 → k < 16 → owns (b.state i) ≡ true → owns (b.state k) ≡ true → i ≡ k
  -- "a private owner's fellows are all invalid"
  pub alone : (i k : ℕ) → i < 16 → k < 16 → private (b.state i) ≡ true → (i ≡ k → ⊥) → b.state k ≡ invalid
  -- "all valid copies are equal"
  pub equal : (i k : ℕ) → i < 16 → k < 16 → valid (b.state i) ≡ true → valid (b.state k) ≡ true → b.copy i ≡ b.copy k
  -- "and equal to memory where no slot owns"
  pub memory : ((k : ℕ) → k < 16 → owns (b.state k) ≡ false) → (i : ℕ) → i < 16 → valid (b.state i) ≡ true → b.copy i ≡ b.word

-- ---- the test, which passes exactly the coherent blocks (proofs/Coherence.antt)

-- the slot below n that owns, by the slots' states; 16 where none does
unfoldable pub owner_below : (ℕ → ℕ) → ℕ → ℕ
owner_below state zero = 16
owner_below state (suc n) = cond (owns (state n)) n (owner_below state n)

abbrev pub owner : Block → ℕ
owner b = owner_below b.state 16

-- the owner's copy, or else memory
unfoldable pub supplied : Block → ℕ
supplied b = cond (ltb (owner b) 16) (b.copy (owner b)) b.word

-- there is a private owner
unfoldable pub guarded : Block → Bool
guarded b = ltb (owner b) 16 && private (b.state (owner b))

-- one slot by itself: its state is legal; it owns only as the owner; it is valid only with the value that is supplied, and beside a
-- private owner only as that owner
unfoldable pub sound : (state copy : ℕ) (itself held : Bool) (value : ℕ) → Bool
sound state copy itself held value =
    legal state && implies (owns state) itself && implies (valid state) (eqb copy value && implies held itself)

-- a test holds of every number below n
unfoldable pub every : (ℕ → Bool) → ℕ → Bool
every p zero = true
every p (suc n) = every p n && p n

abbrev pub all_sound : (state copy : ℕ → ℕ) (owner : ℕ) (held : Bool) (value n : ℕ) → Bool
all_sound state copy owner held value n = every (λ k. sound (state k) (copy k) (eqb k owner) held value) n

unfoldable pub coherent : Block → Bool
coherent b = all_sound b.state b.copy (owner b) (guarded b) (supplied b) 16
