-- Document 01, "The judge": "Totals: records, span (the sum of the differences), starts, acks (an attention cycle counts in both), aborted. A RESET
-- record adds to records, span and aborted only. .. Starts = acks + aborted + open, each counted from the records."
use Rattle.std.specs.Prelude.{ℕ, zero, suc, ◌+◌, true, not, ◌&&◌, ◌≡◌}
use Rattle.rules.specs.declared.Tally.{Tally}
use Rattle.rules.specs.Recording.{Lines, gap, count, Opened}

abbrev pub sum : (ℕ → ℕ) → ℕ → ℕ
sum f zero = 0
sum f (suc n) = sum f n + f n

-- of the places below n, c have P
pub data Number (P : ℕ → Type 0) : ℕ → ℕ → Type 0 where
  none : Number P 0 0
  more : {n c : ℕ} → P n → Number P n c → Number P (suc n) (c + 1)
  other : {n c : ℕ} → (P n → ⊥) → Number P n c → Number P (suc n) c

-- "If RESET is active, an open transfer counts as aborted"
abbrev pub Aborts : Lines → ℕ → Type 0
Aborts r i = ((r i).reset ≡ true) × ((k : ℕ) × Opened r i k)

-- the tally holds the totals of the first n records
pub record Totals (r : Lines) (n : ℕ) (t : Tally) : Type 0 where
  pub records : t.records ≡ n
  pub span : t.span ≡ sum (gap r) n
  pub starts : t.starts ≡ count (λ m. (r m).start && not (r m).reset) n
  pub acks : t.acks ≡ count (λ m. (r m).ack && not (r m).reset) n
  pub aborted : Number (Aborts r) n t.aborted
