-- Document 02, wish 2: "No record meets 8b and 8c at once, and that is to be shown." Of every recording; and the states within document 01's bounds
-- of which it is not so.
use Rattle.std.specs.Prelude.{ℕ, ◌+◌, true, false, List, [], ◌∷◌, ◌≡◌, Some}
use Rattle.rules.specs.declared.Judge.{Judge}
use Rattle.rules.specs.declared.Tally.{Tally}
use Rattle.rules.specs.declared.Transfer.TheVariants.{Idle}
use Rattle.rules.specs.declared.Verdict.TheVariants.{Breach}
use Rattle.rules.specs.Rules.{rule8b, rule8c}
use Rattle.rules.specs.State.{asked_of, twice_of, zero_tally}
use Rattle.rules.specs.Bounds.{judge_bounds}
use Rattle.rules.specs.Verdict.{outcome_of}
use Rattle.rules.specs.Recording.{Lines, Recording}
use Rattle.rules.specs.Thirteen.{Rule8a, Rule8b, Rule8c, Breaks}
use Rattle.rules.specs.Exact.{After}
use Rattle.rules.specs.Cases.{bytes_of, reads}

-- ---- of a recording
-- record i breaks this kind of rule 8 and keeps the other two
pub data OneKind (r : Lines) (i : ℕ) : ℕ → Type 0 where
  parking : (Rule8a r i → ⊥) → Rule8b r i → Rule8c r i → OneKind r i 1
  brief : Rule8a r i → (Rule8b r i → ⊥) → Rule8c r i → OneKind r i 2
  soon : Rule8a r i → Rule8b r i → (Rule8c r i → ⊥) → OneKind r i 3

-- ---- of a judge's state
-- a state within bounds that no recording leads to: RQST active in the last record and inactive one cycle before, so that the wave has just begun,
-- and yet a START of this wave 0 or 1 cycles before the last record
abbrev pub stray : ℕ → Judge
stray since =
    record {
      limit = 16;
      seen = true;
      stamp = 0;
      transfer = Idle;
      wave = record { rqst = true; prior = false; owner = Some 5; since = since; arb = 5; turn = 1 };
    }

-- in the cycle after it a START fails both tests, and 8b is told
pub record BothFail (since : ℕ) : Type 0 where
  pub bounded : judge_bounds (stray since) ≡ true
  pub brief : rule8b true (asked_of (stray since).wave 1) (twice_of (stray since).wave 1) ≡ false
  pub soon : rule8c true (asked_of (stray since).wave 1) (since + 1) ≡ false
  pub told : (outcome_of (bytes_of (reads 1 0 ∷ [])) (stray since) zero_tally).verdict ≡ Breach (record { rule = 8; kind = 2; place = 0; span = 1 })

-- ---- the promise
pub record Kinds : Type 0 where
  -- "No record meets 8b and 8c at once", whatever came before the record
  pub apart : (r : Lines) (i : ℕ) → (Rule8b r i → ⊥) → (Rule8c r i → ⊥) → ⊥
  -- so the kind that a breach of rule 8 names is the one that is broken
  pub one : (limit : ℕ) (r : Recording) (i kind : ℕ) → Breaks limit r i (record { number = 8; kind = kind }) → OneKind r.lines i kind
  -- a state that a recording leads to has no START of a wave that has just begun: RQST inactive one cycle before the last record
  pub led : (limit : ℕ) (past : List ℕ) (j : Judge) (t : Tally) → After limit past j t → j.wave.prior ≡ false → j.wave.since ≡ 3
  -- two states within bounds to which none leads, and of which it is not so
  pub at_last : BothFail 0
  pub one_before : BothFail 1
