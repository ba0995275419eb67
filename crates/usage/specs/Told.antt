-- Document 02, wish 3: "An accepted answer for one slot depends on its entry alone and equals the whole recording's count. The sixteen START counts add
-- up to the tally's starts. A transfer still open adds nothing to busy cycles until it ends. A breach changes no entry." What a caller of the judge
-- with an account is told, in terms of the recording.
use Rattle.std.specs.Prelude.{ℕ, ◌+◌, ◌*◌, ◌/◌, ◌≤◌, ◌<◌, List, [], ◌∷◌, ◌++◌, ◌≡◌, length, take, get_or}
use Rattle.basics.specs.Answers.{accepted}
use Rattle.entries.specs.declared.Entry.{Entry}
use Rattle.entries.specs.Entries.{zero_entry}
use Rattle.rules.specs.declared.Judge.{Judge}
use Rattle.rules.specs.declared.Tally.{Tally}
use Rattle.rules.specs.declared.Broken.{Broken}
use Rattle.rules.specs.declared.Verdict.{Verdict}
use Rattle.rules.specs.declared.Verdict.TheVariants.{Conforming, Breach, OutOfBounds, TooMany, Torn}
use Rattle.rules.specs.Recording.{Recording, recording_in, cycle, Opened}
use Rattle.rules.specs.Thirteen.{Keeps}
use Rattle.rules.specs.State.{zero_tally}
use Rattle.rules.specs.Verdict.{fresh_of}
use Rattle.rules.specs.Exact.{Told}
use Rattle.usage.specs.declared.Accounted.{Accounted}
use Rattle.usage.specs.Using.{Busy, Used, UsedBy}
use Rattle.usage.specs.Charge.{none_used}
use Rattle.usage.specs.Calls.{account_refusal, accounted_of, judges_outcome, share_of}

-- what a caller holds who began with a fresh judge, zero totals and an account of nothing, and was told of each part so far that it conforms; `past` is
-- all bytes given so far
pub data AfterUse (limit : ℕ) : List ℕ → Judge → Tally → List Entry → Type 0 where
  fresh : {j : Judge} → fresh_of limit ≡ accepted j → AfterUse limit [] j zero_tally none_used
  later : {past : List ℕ} {j next : Judge} {t tally : Tally} {account entries : List Entry} (now : List ℕ) → AfterUse limit past j t account
      → accounted_of now j t account ≡ record { verdict = Conforming; judge = next; tally = tally; entries = entries } → AfterUse limit (past ++ now) next tally entries

-- the account that such a caller is left with: after a refusal the one that he had; else each entry is that of its slot in the whole recording, past and
-- now, up to the breach
abbrev pub Reckoned : List ℕ → List ℕ → List Entry → Verdict → List Entry → Type 0
Reckoned past now account Conforming entries = UsedBy (recording_in (past ++ now)).lines (length (past ++ now) / 16) entries
Reckoned past now account (Breach b) entries = UsedBy (recording_in (past ++ now)).lines b.place entries
Reckoned past now account OutOfBounds entries = ⊥
Reckoned past now account TooMany entries = entries ≡ account
Reckoned past now account Torn entries = entries ≡ account

-- what he is told: the judge's own promise, and the account
pub record ToldUse (limit : ℕ) (past now : List ℕ) (j : Judge) (t : Tally) (account : List Entry) (a : Accounted) : Type 0 where
  pub judged : Told limit past now j t (judges_outcome a)
  pub reckoned : Reckoned past now account a.verdict a.entries

-- the STARTs of all entries together
abbrev pub starts_of : List Entry → ℕ
starts_of [] = 0
starts_of (e ∷ es) = e.starts + starts_of es

-- THE PROMISE to whoever judges with an account, for each hold limit
pub record Accounting (limit : ℕ) : Type 0 where
  -- "equals the whole recording's count": a caller who began with nothing is told the recording's account,
  pub told : (past now : List ℕ) (j : Judge) (t : Tally) (account : List Entry) → AfterUse limit past j t account → ToldUse limit past now j t account (accounted_of now j t account)
  -- and so is he of one slot; none of his queries and calls is refused by 5.
  pub share : (past : List ℕ) (j : Judge) (t : Tally) (account : List Entry) (s : ℕ) → AfterUse limit past j t account → s < 16
      → (e : Entry) × (share_of s t account ≡ accepted e) × Used (recording_in past).lines s (length past / 16) e
  -- "depends on its entry alone": two accounts that agree at a slot agree there after the call, if it is accepted of both.
  pub own : (now : List ℕ) (j : Judge) (t : Tally) (a b : List Entry) (s : ℕ) → account_refusal (length now) j t a ≡ 0 → account_refusal (length now) j t b ≡ 0
      → get_or a s zero_entry ≡ get_or b s zero_entry → get_or (accounted_of now j t a).entries s zero_entry ≡ get_or (accounted_of now j t b).entries s zero_entry
  -- "The sixteen START counts add up to the tally's starts."
  pub adds : (past : List ℕ) (j : Judge) (t : Tally) (account : List Entry) → AfterUse limit past j t account → starts_of account ≡ t.starts
  -- "A transfer still open adds nothing to busy cycles until it ends": from its START on no cycle is busy, for any slot.
  pub still : (r : Recording) (n k s c : ℕ) → ((m : ℕ) → m < n → Keeps limit r m) → Opened r.lines n k → cycle r.lines k ≤ c → Busy r.lines s n c → ⊥
  -- Busy cycles are at most the span and the STARTs together, of all that is counted from nothing.
  pub most : (past : List ℕ) (j : Judge) (t : Tally) (account : List Entry) (s : ℕ) → AfterUse limit past j t account → s < 16
      → let e = get_or account s zero_entry in e.busy ≤ t.span + e.starts
  -- "A breach changes no entry": what it leaves is what the records before it alone leave.
  pub breach : (past now : List ℕ) (j : Judge) (t : Tally) (account : List Entry) (b : Broken) → AfterUse limit past j t account
      → let a = accounted_of now j t account in a.verdict ≡ Breach b → AfterUse limit (take (b.place * 16) (past ++ now)) a.judge a.tally a.entries
  -- A refusal changes none.
  pub refused : (now : List ℕ) (j : Judge) (t : Tally) (account : List Entry) → (account_refusal (length now) j t account ≡ 0 → ⊥) → (accounted_of now j t account).entries ≡ account
  -- One call or many, the account is the same.
  pub many : (past : List ℕ) (j k : Judge) (t u : Tally) (a b : List Entry) → AfterUse limit past j t a → AfterUse limit past k u b → a ≡ b
  -- And where the entry of a slot is the recording's, no other is.
  pub only : (past : List ℕ) (n s : ℕ) (e f : Entry) → Used (recording_in past).lines s n e → Used (recording_in past).lines s n f → e ≡ f
