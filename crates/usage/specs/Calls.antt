-- Document 02, wish 3: "Refusals: 1 for an account not of sixteen entries; 2 for the slot; 5 for an entry with more STARTs than the tally, or more busy
-- cycles than span plus its STARTs." What a call that judges with an account leaves, and what a query for one slot answers.
use Rattle.std.specs.Prelude.{ℕ, ◌+◌, ◌-◌, ◌/◌, ◌%◌, Bool, cond, ◌&&◌, List, length, take, get_or, eqb, leb}
use Rattle.std.specs.List.{list_all}
use Rattle.basics.specs.Order.{unless}
use Rattle.basics.specs.Answers.{Answer, accepted, refused}
use Rattle.entries.specs.declared.Entry.{Entry}
use Rattle.entries.specs.Entries.{zero_entry}
use Rattle.rules.specs.declared.Judge.{Judge}
use Rattle.rules.specs.declared.Tally.{Tally}
use Rattle.rules.specs.declared.Progress.{Progress}
use Rattle.rules.specs.declared.Judged.{Judged}
use Rattle.rules.specs.declared.Outcome.{Outcome}
use Rattle.rules.specs.Bounds.{judge_bounds, tally_bounds}
use Rattle.rules.specs.Run.{from, run_of, records_in}
use Rattle.rules.specs.Verdict.{most_records, refused_by, verdict_of}
use Rattle.usage.specs.declared.Accounted.{Accounted}
use Rattle.usage.specs.Charge.{account_of}

-- ---- bounds
-- at most the tally's STARTs, and at most as many busy cycles as its span and the entry's STARTs together
abbrev pub entry_bounds : Tally → Entry → Bool
entry_bounds t e = leb e.starts t.starts && leb e.busy (t.span + e.starts)

abbrev pub entries_bounds : Tally → List Entry → Bool
entries_bounds t es = list_all (entry_bounds t) es

-- ---- judging with an account
-- the refusal of a call with so many bytes and an account of `lent` entries, of which `entries` are looked at: 5, of the judge, of the tally or of one
-- of those entries; 8; 1, of the recording's length or of the account's; 0 where it is accepted
unfoldable pub refusal_for : ℕ → Judge → Tally → List Entry → ℕ → ℕ
refusal_for size j t entries lent =
    unless (judge_bounds j && tally_bounds t && entries_bounds t entries) 5
    (unless (leb (t.records + size / 16) most_records) 8
    (unless (eqb (size % 16) 0 && eqb lent 16) 1 0))

-- "Since 5 comes before 1", an account of any length is looked at as far as its first sixteen entries go
unfoldable pub account_refusal : ℕ → Judge → Tally → List Entry → ℕ
account_refusal size j t account = refusal_for size j t (take 16 account) (length account)

-- the judge's outcome, and the account of the records before the breach: "A breach changes no entry"
abbrev pub accounted_in : List ℕ → Judge → Tally → List Entry → Progress → Accounted
accounted_in bytes j t account p =
    record {
      verdict = verdict_of p;
      judge = p.judge;
      tally = p.tally;
      entries = account_of j account (records_in (p.tally.records - t.records) bytes);
    }

-- what is left by a call that is refused by this number, or judged where it is 0: a refusal leaves all as it was
abbrev pub left_by : ℕ → List ℕ → Judge → Tally → List Entry → Accounted
left_by number bytes j t account =
    cond (eqb number 0)
    (accounted_in bytes j t account (run_of (from j t) (records_in (length bytes / 16) bytes)))
    (record { verdict = refused_by number; judge = j; tally = t; entries = account })

-- the call
unfoldable pub accounted_of : List ℕ → Judge → Tally → List Entry → Accounted
accounted_of bytes j t account = left_by (account_refusal (length bytes) j t account) bytes j t account

-- the judge's own part of it
abbrev pub judges_outcome : Accounted → Outcome
judges_outcome a = record { verdict = a.verdict; judge = a.judge; tally = a.tally }

-- the answer to a caller who lends the tally and the account
abbrev pub judges_answer : Accounted → Judged
judges_answer a = record { verdict = a.verdict; judge = a.judge }

-- ---- one slot's entry
-- the entry of the slot itself, nothing where the account has none for it
unfoldable pub own_entry : ℕ → List Entry → Entry
own_entry slot account = cond (leb slot 15) (get_or account slot zero_entry) zero_entry

-- refusals 5, of the tally or of the slot's own entry, 1, of an account that has not sixteen entries but `lent`, and 2
unfoldable pub share_refusal : ℕ → Tally → Entry → ℕ → ℕ
share_refusal slot t own lent = unless (tally_bounds t && entry_bounds t own) 5 (unless (eqb lent 16) 1 (unless (leb slot 15) 2 0))

-- the answer by its number: the entry, or a refusal
abbrev pub answer_by : ℕ → Entry → Answer Entry
answer_by number own = cond (eqb number 0) (accepted own) (refused number zero_entry)

-- the query
unfoldable pub share_of : ℕ → Tally → List Entry → Answer Entry
share_of slot t account = answer_by (share_refusal slot t (own_entry slot account) (length account)) (own_entry slot account)
