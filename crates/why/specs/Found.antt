-- What a record that breaks a rule had, and what would have conformed, as two figures: said of the recording itself, with nothing of the judge.
use Rattle.std.specs.Prelude.{ℕ, suc, ◌+◌, ◌^◌, ◌≡◌}
use Rattle.basics.specs.Lines.{one}
use Rattle.basics.specs.Numbers.{watchdog}
use Rattle.codes.specs.Parity.{parity_of}
use Rattle.rules.specs.declared.Rule.{Rule}
use Rattle.rules.specs.Names.{only, kind8a, kind8b, kind8c}
use Rattle.rules.specs.Recording.{Recording, gap, cycle, count, Opened, words_at, strobe_of, AgesFrom, Began, LastStart, start_with}
use Rattle.why.specs.declared.Figures.{Figures}
use Rattle.why.specs.Figures.{figures}

-- record i, which breaks this rule, has these figures. There is one transfer at most that is open before a record (`Opened`), one record from which its
-- age counts (`AgesFrom`), one wave at most that lasts until the cycle before it (`Began`), and one last START of that wave (`LastStart`), so the figures
-- are the only ones (`found-only`, why/proofs/Only)
pub data Found (limit : ℕ) (r : Recording) (i : ℕ) : Rule → Figures → Type 0 where
  -- the spare bits as a number; they are to be 0
  spare : Found limit r i (only 1) (figures (r.spare i) 0)
  -- the stamp's difference; at most 2^31
  stamp : Found limit r i (only 2) (figures (gap r.lines i) (2 ^ 31))
  -- SP; what it is to be: 1 if an odd number of AD lines is active
  parity : Found limit r i (only 3) (figures (one (r.lines i).sp) (one (parity_of (r.lines i).ad)))
  -- cycles since the START of the transfer that is open; none is to be
  opened : (k found : ℕ) → Opened r.lines i k → cycle r.lines k + found ≡ cycle r.lines i → Found limit r i (only 4) (figures found 0)
  -- cycles since the wave's last START; at least 3
  soon : (b m found : ℕ) → Began r.lines i b → LastStart r.lines i b m → cycle r.lines m + found ≡ cycle r.lines i → Found limit r i kind8c (figures found 3)
  -- ARB at this START; at most ARB at the wave's last START
  above : (b m : ℕ) → Began r.lines i b → LastStart r.lines i b m → Found limit r i (only 10) (figures (r.lines i).arb (r.lines m).arb)
  -- STARTs of the wave with this ARB, this one counted; at most the hold limit
  often : (b : ℕ) → Began r.lines i b → Found limit r i (only 11) (figures (count (start_with r.lines b (r.lines i).arb) i + 1) limit)
  -- the open transfer's age, cycles since its START or its last strobe; at most 256
  old : (k m found : ℕ) → Opened r.lines i k → AgesFrom r.lines i k m → cycle r.lines m + found ≡ cycle r.lines i → Found limit r i (only 12) (figures found watchdog)
  -- strobes of the open transfer, this record's counted where it is one; its words less one
  strobes : (k bound : ℕ) → Opened r.lines i k → bound + 1 ≡ words_at r.lines k → Found limit r i (only 13) (figures (count (strobe_of r.lines k) (suc i)) bound)
  -- the other rules are about no number
  fifth : Found limit r i (only 5) (figures 0 0)
  sixth : Found limit r i (only 6) (figures 0 0)
  seventh : Found limit r i (only 7) (figures 0 0)
  parked : Found limit r i kind8a (figures 0 0)
  brief : Found limit r i kind8b (figures 0 0)
  ninth : Found limit r i (only 9) (figures 0 0)
