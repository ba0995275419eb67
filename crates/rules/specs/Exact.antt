-- Document 01, "The judge": "A recording is read as following a reset; judged in one call or many, the outcome is the same. .. A breach names its
-- rule and the tally's records, and leaves the judge's state as it was before it." What a caller of the judge is told, in terms of the recording.
use Rattle.std.specs.Prelude.{ℕ, ◌+◌, ◌*◌, ◌/◌, ◌%◌, ◌≤◌, ◌<◌, Bool, true, false, cond, List, [], ◌∷◌, ◌++◌, ◌≡◌, ◌↔◌, length, take, leb}
use Rattle.basics.specs.Lines.{one}
use Rattle.basics.specs.Answers.{accepted}
use Rattle.rules.specs.declared.Judge.{Judge}
use Rattle.rules.specs.declared.Tally.{Tally}
use Rattle.rules.specs.declared.Broken.{Broken}
use Rattle.rules.specs.declared.Verdict.{Verdict}
use Rattle.rules.specs.declared.Verdict.TheVariants.{Conforming, Breach, OutOfBounds, TooMany, Torn}
use Rattle.rules.specs.declared.Outcome.{Outcome}
use Rattle.rules.specs.Names.{rule_in}
use Rattle.rules.specs.State.{is_open, zero_tally}
use Rattle.rules.specs.Verdict.{most_records, fresh_of, outcome_of}
use Rattle.rules.specs.Recording.{Lines, Recording, recording_in, gap, cycle, Opened}
use Rattle.rules.specs.Thirteen.{Keeps, Breaks}
use Rattle.rules.specs.Totals.{sum, Totals}

-- document 02, wish 2: "The breach also tells the span at its record", which is the cycle in which record i stands; "at record 0 or a breach of
-- rule 1 or 2 it is the tally's", the sum of the differences before it
abbrev pub span_at : Lines → ℕ → ℕ → ℕ
span_at r i number = cond (leb number 2) (sum (gap r) i) (cycle r i)

-- of the first n records, the breach's is the first that breaks a rule; it names the lowest rule that this record breaks, and tells the span
pub record FirstBreach (limit : ℕ) (r : Recording) (n : ℕ) (b : Broken) : Type 0 where
  pub within : b.place < n
  pub before : (m : ℕ) → m < b.place → Keeps limit r m
  pub lowest : Breaks limit r b.place (rule_in b)
  pub span : b.span ≡ span_at r.lines b.place b.rule

-- the verdict is the one that the first n records of the recording have
abbrev pub Rightly : ℕ → Recording → ℕ → Verdict → Type 0
Rightly limit r n Conforming = (i : ℕ) → i < n → Keeps limit r i
Rightly limit r n (Breach b) = FirstBreach limit r n b
Rightly limit r n OutOfBounds = ⊥
Rightly limit r n TooMany = ⊥
Rightly limit r n Torn = ⊥

-- how many records are counted: those before the breach, or all n
abbrev pub counted : ℕ → Verdict → ℕ
counted n Conforming = n
counted n (Breach b) = b.place
counted n OutOfBounds = 0
counted n TooMany = 0
counted n Torn = 0

-- a transfer is open before record i
abbrev pub OpenAt : Recording → ℕ → Type 0
OpenAt r i = (k : ℕ) × Opened r.lines i k

-- the first n records of the recording judged: the verdict, the totals of the records before the breach, and whether a transfer is open there
pub record Exact (limit : ℕ) (r : Recording) (n : ℕ) (o : Outcome) : Type 0 where
  pub verdict : Rightly limit r n o.verdict
  pub totals : Totals r.lines (counted n o.verdict) o.tally
  pub opened : (is_open o.judge.transfer ≡ true) ↔ OpenAt r (counted n o.verdict)
  pub balance : o.tally.starts ≡ o.tally.acks + o.tally.aborted + one (is_open o.judge.transfer)

-- the state and the tally that a caller holds who began with a fresh judge and zero totals, and was told of each part so far that it conforms;
-- `past` is all bytes given so far
pub data After (limit : ℕ) : List ℕ → Judge → Tally → Type 0 where
  fresh : {j : Judge} → fresh_of limit ≡ accepted j → After limit [] j zero_tally
  later : {past : List ℕ} {j next : Judge} {t tally : Tally} (now : List ℕ) → After limit past j t → outcome_of now j t ≡ record { verdict = Conforming; judge = next; tally = tally } → After limit (past ++ now) next tally

-- what such a caller is told of the bytes that he gives now. Refusals 8 and 1 (5 can't be) leave all as it was; else the outcome is that of the
-- whole recording, past and now, and the state and the tally are those that the records before the breach leave
pub data Told (limit : ℕ) (past now : List ℕ) (j : Judge) (t : Tally) : Outcome → Type 0 where
  too_many : most_records < length past / 16 + length now / 16 → Told limit past now j t (record { verdict = TooMany; judge = j; tally = t })
  torn : length past / 16 + length now / 16 ≤ most_records → (length now % 16 ≡ 0 → ⊥) → Told limit past now j t (record { verdict = Torn; judge = j; tally = t })
  judged : {o : Outcome}
      → length past / 16 + length now / 16 ≤ most_records
      → length now % 16 ≡ 0
      → Exact limit (recording_in (past ++ now)) (length (past ++ now) / 16) o
      → After limit (take (counted (length (past ++ now) / 16) o.verdict * 16) (past ++ now)) o.judge o.tally
      → Told limit past now j t o

-- ---- many calls
-- one call after another, each with what the one before left, as long as each is told that it conforms
abbrev pub conforms : Verdict → Bool
conforms Conforming = true
conforms (Breach b) = false
conforms OutOfBounds = false
conforms TooMany = false
conforms Torn = false

abbrev pub calls_of : List (List ℕ) → Outcome → Outcome
calls_of [] o = o
calls_of (part ∷ parts) o = calls_of parts (cond (conforms o.verdict) (outcome_of part o.judge o.tally) o)

-- all parts in one
abbrev pub joined : List (List ℕ) → List ℕ
joined [] = []
joined (part ∷ parts) = part ++ joined parts

-- each part is whole records
abbrev pub Whole : List (List ℕ) → Type 0
Whole [] = Unit {0}
Whole (part ∷ parts) = (length part % 16 ≡ 0) × Whole parts
