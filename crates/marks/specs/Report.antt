-- Document 02, wish 1: "The report gives the span at each mark and, from the second on, the difference to the one before. It stops at the ACK of the
-- last mark ..; a breach after that point isn't reported, and the records read are given. Refusals: .. 10, a mark absent at a conforming end, with its
-- place, last." Which report is right of an input, said of its recording.
use Rattle.std.specs.Prelude.{ℕ, zero, suc, ◌-◌, ◌%◌, ◌≤◌, ◌<◌, List, ◌≡◌, length, get_or, set, replicate}
use Rattle.basics.specs.Answers.{Answer, accepted, refused}
use Rattle.rules.specs.Recording.{Lines, recording_in, cycle}
use Rattle.rules.specs.Thirteen.{Keeps, Breaks}
use Rattle.rules.specs.Verdict.{most_records, Finding, nothing, finding_of}
use Rattle.rules.specs.Names.{rule_in}
use Rattle.rules.specs.Exact.{span_at}
use Rattle.feeding.specs.Input.{whole_in, judged_in}
use Rattle.marks.specs.declared.Marks.{Marks}
use Rattle.marks.specs.declared.Report.{Report}
use Rattle.marks.specs.declared.Why.{Why}
use Rattle.marks.specs.declared.Why.TheVariants.{Complete, AtBreach, Torn, TooMany, Absent, OutOfBounds}
use Rattle.marks.specs.Marks.{MarkAt}

-- the differences of the first n spans, each to the one before; the first has none, which stands as 0
abbrev pub diff_at : List ℕ → ℕ → ℕ
diff_at spans zero = 0
diff_at spans (suc p) = get_or spans (suc p) 0 - get_or spans p 0

abbrev pub diffs_of : List ℕ → ℕ → List ℕ
diffs_of spans zero = replicate 32 0
diffs_of spans (suc n) = set (diffs_of spans n) n (diff_at spans n)

-- mark p is found among the first n records, and this is its time: the cycle of its START
pub record FoundAt (r : Lines) (m : Marks) (n p span : ℕ) : Type 0 where
  pub start : ℕ
  pub ack : ℕ
  pub mark : MarkAt r m p start ack
  pub read : ack < n
  pub time : span ≡ cycle r start

-- mark p is not among them
abbrev pub NotYet : Lines → Marks → ℕ → ℕ → Type 0
NotYet r m n p = (k i : ℕ) → MarkAt r m p k i → i < n → ⊥

-- the last mark's ACK is the last of the n records
pub record LastAck (r : Lines) (m : Marks) (n : ℕ) : Type 0 where
  pub place : ℕ
  pub start : ℕ
  pub ack : ℕ
  pub last : suc place ≡ m.count
  pub mark : MarkAt r m place start ack
  pub here : n ≡ suc ack

-- the first of the marks that are missing is not among the n records
abbrev pub Lacks : Marks → List ℕ → ℕ → ℕ → Type 0
Lacks m bytes n found = (found < m.count) × NotYet (recording_in bytes).lines m n found

-- why the report stops behind n records with so many marks found
abbrev pub Because : ℕ → Marks → List ℕ → ℕ → ℕ → Why → Type 0
-- "It stops at the ACK of the last mark"
Because limit m bytes n found Complete = (found ≡ m.count) × LastAck (recording_in bytes).lines m n
-- else a mark is missing still, and record n breaks a rule, this being the lowest, with the span that a breach tells;
Because limit m bytes n found (AtBreach b) =
    Lacks m bytes n found × (n < judged_in bytes) × (b.place ≡ n) × Breaks limit (recording_in bytes) n (rule_in b) × (b.span ≡ span_at (recording_in bytes).lines n b.rule)
-- or all whole records are read, and a torn one is left;
Because limit m bytes n found Torn = Lacks m bytes n found × (n ≡ whole_in bytes) × (length bytes % 16 ≡ 0 → ⊥)
-- or 2^30 records are read, and there is a whole one more;
Because limit m bytes n found TooMany = Lacks m bytes n found × (n ≡ most_records) × (most_records < whole_in bytes)
-- or all of the input is read: "10, a mark absent at a conforming end, with its place, last"
Because limit m bytes n found (Absent p) = Lacks m bytes n found × (n ≡ whole_in bytes) × (length bytes % 16 ≡ 0) × (p ≡ found)
Because limit m bytes n found OutOfBounds = ⊥

-- THE REPORT IS RIGHT of an input: every record read keeps the thirteen rules; the first `found` marks are among them, each with its time, and the
-- next is not; and it stops where it has to
pub record Right (limit : ℕ) (m : Marks) (bytes : List ℕ) (e : Report) : Type 0 where
  pub within : e.records ≤ judged_in bytes
  pub kept : (i : ℕ) → i < e.records → Keeps limit (recording_in bytes) i
  pub found : (p : ℕ) → p < e.found → FoundAt (recording_in bytes).lines m e.records p (get_or e.spans p 0)
  pub others : (p : ℕ) → e.found ≤ p → get_or e.spans p 0 ≡ 0
  pub places : length e.spans ≡ 32
  pub diffs : e.diffs ≡ diffs_of e.spans e.found
  pub why : Because limit m bytes e.records e.found e.why

-- ---- document 01's and 02's number and values for why a report ends
-- what the judge finds, and the place of the mark that is absent; all zeros where there is none
pub record Reason : Type 0 where
  pub finding : Finding
  pub absent : ℕ

abbrev pub no_reason : Reason
no_reason = record { finding = nothing; absent = 0 }

abbrev pub why_answer : Why → Answer Reason
why_answer Complete = accepted no_reason
why_answer (AtBreach b) = accepted (record { finding = finding_of b; absent = 0 })
why_answer Torn = refused 1 no_reason
why_answer TooMany = refused 8 no_reason
why_answer (Absent p) = refused 10 (record { finding = nothing; absent = p })
why_answer OutOfBounds = refused 5 no_reason
