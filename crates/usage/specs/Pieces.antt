-- An input in pieces of any length, with its account: what `fresh`, `feed` and `finish` of the crate `accounts` answer. The judge's state is that of
-- `feeding`; the records that it has passed are charged.
use Rattle.std.specs.Prelude.{ℕ, ◌-◌, Bool, false, cond, ◌&&◌, List, [], ◌∷◌, ◌++◌, ◌≡◌}
use Rattle.basics.specs.Answers.{Answer, accepted, refused}
use Rattle.basics.specs.Numbers.{lawful_limit}
use Rattle.rules.specs.declared.Verdict.TheVariants.{OutOfBounds}
use Rattle.rules.specs.Recording.{recording_in}
use Rattle.rules.specs.Run.{records_in}
use Rattle.rules.specs.State.{fresh_judge, zero_tally}
use Rattle.rules.specs.Exact.{joined}
use Rattle.feeding.specs.State.{goes, torn_of, stream_bounds, fresh_stream, no_stream, feed_of, finish_of}
use Rattle.feeding.specs.Input.{Answers, ending_of}
use Rattle.feeding.specs.Pieces.{fed_all}
use Rattle.usage.specs.declared.Ledger.{Ledger}
use Rattle.usage.specs.declared.Closing.{Closing}
use Rattle.usage.specs.Using.{UsedBy}
use Rattle.usage.specs.Charge.{none_used, account_of}
use Rattle.usage.specs.Calls.{entries_bounds}

-- ---- the calls
-- the bounds for refusal 5: those of the judge that is fed, and of each entry
unfoldable pub ledger_bounds : Ledger → Bool
ledger_bounds l = stream_bounds l.stream && entries_bounds l.stream.tally l.entries

-- before the first piece
unfoldable pub fresh_ledger : ℕ → Ledger
fresh_ledger limit = record { stream = fresh_stream limit; entries = none_used }

-- all zeros: what a refusal gives
unfoldable pub no_ledger : Ledger
no_ledger = record { stream = no_stream; entries = none_used }

-- refusal 3: "hold limit not 1 to 16"
unfoldable pub begun_of : ℕ → Answer Ledger
begun_of limit = cond (lawful_limit limit) (accepted (fresh_ledger limit)) (refused 3 no_ledger)

-- a piece is fed to the judge, and the records that it then has passed are charged: they stand at the front of the torn record's bytes and the piece
unfoldable pub post_of : Ledger → List ℕ → Ledger
post_of l piece =
    let s = l.stream in
    let next = feed_of s piece in
    record { stream = next; entries = account_of s.judge l.entries (records_in (next.tally.records - s.tally.records) (torn_of s ++ piece)) }

-- refusal 5 hands the state back
unfoldable pub posted_of : Ledger → List ℕ → Answer Ledger
posted_of l piece = cond (ledger_bounds l) (accepted (post_of l piece)) (refused 5 l)

-- what the input comes to, if it ends here; refusal 5 gives 0 for every value
unfoldable pub closing_of : Ledger → Closing
closing_of l =
    cond (ledger_bounds l)
    (record { ending = finish_of l.stream; entries = l.entries })
    (record { ending = record { verdict = OutOfBounds; tally = zero_tally; opened = false }; entries = none_used })

-- ---- what an input comes to
-- all of its bytes being given, said of the recording itself: the judge's own ending (`Answers`), and each slot's entry of the records that it counts, up to
-- the breach or the end
pub record Accounts (limit : ℕ) (bytes : List ℕ) (c : Closing) : Type 0 where
  pub ending : Answers limit bytes c.ending
  pub account : UsedBy (recording_in bytes).lines c.ending.tally.records c.entries

-- the same as a function
unfoldable pub reckoning_of : ℕ → List ℕ → Closing
reckoning_of limit bytes =
    let e = ending_of limit bytes in
    record { ending = e; entries = account_of (fresh_judge limit) none_used (records_in e.tally.records bytes) }

-- the state after one piece after another
abbrev pub posted_all : Ledger → List (List ℕ) → Ledger
posted_all l [] = l
posted_all l (piece ∷ pieces) = posted_all (post_of l piece) pieces

-- THE PROMISE to whoever feeds an input in pieces and keeps its account, for each hold limit 1 to 16
pub record Reckoning (limit : ℕ) : Type 0 where
  -- A fresh state is there, and is where the feeding begins.
  pub begins : begun_of limit ≡ accepted (fresh_ledger limit)
  -- The judge in it is the one that is fed without an account.
  pub judges : (pieces : List (List ℕ)) → (posted_all (fresh_ledger limit) pieces).stream ≡ fed_all (fresh_stream limit) pieces
  -- No piece is refused, and the call's answer is the next state.
  pub accepts : (pieces : List (List ℕ)) (piece : List ℕ)
      → let l = posted_all (fresh_ledger limit) pieces in posted_of l piece ≡ accepted (post_of l piece)
  -- Whatever the pieces are, the end says what the whole input comes to,
  pub says : (pieces : List (List ℕ)) → closing_of (posted_all (fresh_ledger limit) pieces) ≡ reckoning_of limit (joined pieces)
  -- which is right of the recording itself,
  pub right : (bytes : List ℕ) → Accounts limit bytes (reckoning_of limit bytes)
  -- and is the only one that is.
  pub only : (bytes : List ℕ) (c d : Closing) → Accounts limit bytes c → Accounts limit bytes d → c ≡ d
  -- After a breach, or a whole record past 2^30, further pieces change nothing:
  pub ended : (pieces more : List (List ℕ))
      → let l = posted_all (fresh_ledger limit) pieces in goes l.stream.stop ≡ false → posted_all l more ≡ l
  -- the input may as well have ended there.
  pub rest : (pieces : List (List ℕ)) (rest : List ℕ)
      → goes (posted_all (fresh_ledger limit) pieces).stream.stop ≡ false → reckoning_of limit (joined pieces ++ rest) ≡ reckoning_of limit (joined pieces)
