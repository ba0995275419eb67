-- A judge that is fed an input in pieces: its state, its bounds for refusal 5, and what `fresh`, `feed` and `finish` answer.
use Rattle.std.specs.Prelude.{ℕ, ◌+◌, ◌-◌, ◌*◌, min, Bool, true, false, cond, ◌&&◌, List, [], ◌++◌, length, take, drop, replicate, eqb, ltb, leb}
use Rattle.basics.specs.Answers.{Answer, accepted, refused}
use Rattle.basics.specs.Numbers.{lawful_limit}
use Rattle.rules.specs.declared.Judge.{Judge}
use Rattle.rules.specs.declared.Tally.{Tally}
use Rattle.rules.specs.declared.Progress.{Progress}
use Rattle.rules.specs.declared.Verdict.{Verdict}
use Rattle.rules.specs.declared.Verdict.TheVariants.{Conforming, Breach, OutOfBounds, TooMany, Torn}
use Rattle.rules.specs.Bounds.{judge_bounds, tally_bounds}
use Rattle.rules.specs.Run.{from, run_of, records_in}
use Rattle.rules.specs.State.{is_open, fresh_judge, zero_tally}
use Rattle.rules.specs.Verdict.{most_records, verdict_of, no_judge}
use Rattle.feeding.specs.declared.Stop.{Stop}
use Rattle.feeding.specs.declared.Stop.TheVariants.{Going, AtBreach, PastMost}
use Rattle.feeding.specs.declared.Stream.{Stream}
use Rattle.feeding.specs.declared.Ending.{Ending}
use Rattle.feeding.specs.Input.{whole_in}

-- ---- the state
-- nothing has ended the judging yet
abbrev pub goes : Stop → Bool
goes Going = true
goes (AtBreach b) = false
goes PastMost = false

-- fewer than sixteen bytes, in an array of sixteen
unfoldable pub padded : List ℕ → List ℕ
padded bytes = bytes ++ replicate (16 - length bytes) 0

-- the torn record's bytes that a state holds
abbrev pub torn_of : Stream → List ℕ
torn_of s = take s.held s.torn

-- the bounds for refusal 5: those of the judge and of the tally, at most 2^30 records, and fewer than sixteen bytes of a torn record
unfoldable pub stream_bounds : Stream → Bool
stream_bounds s = judge_bounds s.judge && tally_bounds s.tally && leb s.tally.records most_records && ltb s.held 16

-- ---- going on with more bytes
-- of their whole records those that are judged, so that 2^30 are judged in all
unfoldable pub taken_in : Tally → List ℕ → ℕ
taken_in t bytes = min (whole_in bytes) (most_records - t.records)

-- what ends the judging: a breach among the records that are judged, or else a whole record past 2^30
abbrev pub stop_of : Bool → Verdict → Stop
stop_of past Conforming = cond past PastMost Going
stop_of past (Breach b) = AtBreach b
stop_of past OutOfBounds = Going
stop_of past TooMany = Going
stop_of past Torn = Going

-- what is kept of the bytes behind the last whole record: nothing once the judging has ended
unfoldable pub kept_of : Stop → List ℕ → List ℕ
kept_of stop rest = cond (goes stop) rest []

abbrev pub state_with : Stop → Judge → Tally → List ℕ → Stream
state_with stop j t kept = record { judge = j; tally = t; stop = stop; torn = padded kept; held = length kept }

abbrev pub state_after : Bool → Progress → List ℕ → Stream
state_after past p rest = state_with (stop_of past (verdict_of p)) p.judge p.tally (kept_of (stop_of past (verdict_of p)) rest)

-- a judge and a tally go on with these bytes
unfoldable pub gone_on : Judge → Tally → List ℕ → Stream
gone_on j t bytes =
    state_after (ltb most_records (t.records + whole_in bytes)) (run_of (from j t) (records_in (taken_in t bytes) bytes)) (drop (whole_in bytes * 16) bytes)

-- ---- the calls
-- an input from the start
unfoldable pub fresh_stream : ℕ → Stream
fresh_stream limit = state_with Going (fresh_judge limit) zero_tally []

-- all zeros: what a refusal gives
unfoldable pub no_stream : Stream
no_stream = state_with Going no_judge zero_tally []

-- refusal 3: "hold limit not 1 to 16"
unfoldable pub fresh_of : ℕ → Answer Stream
fresh_of limit = cond (lawful_limit limit) (accepted (fresh_stream limit)) (refused 3 no_stream)

-- a piece is put behind the torn record; once the judging has ended, nothing changes any more
unfoldable pub feed_of : Stream → List ℕ → Stream
feed_of s piece = cond (goes s.stop) (gone_on s.judge s.tally (torn_of s ++ piece)) s

-- refusal 5 hands the state back
unfoldable pub fed_of : Stream → List ℕ → Answer Stream
fed_of s piece = cond (stream_bounds s) (accepted (feed_of s piece)) (refused 5 s)

-- the verdict at the end of the input: what has ended the judging, or else a torn record
abbrev pub last_verdict : Stop → ℕ → Verdict
last_verdict Going held = cond (eqb held 0) Conforming Torn
last_verdict (AtBreach b) held = Breach b
last_verdict PastMost held = TooMany

-- refusal 5 gives 0 for every other value
unfoldable pub finish_of : Stream → Ending
finish_of s =
    cond (stream_bounds s)
    (record { verdict = last_verdict s.stop s.held; tally = s.tally; opened = is_open s.judge.transfer })
    (record { verdict = OutOfBounds; tally = zero_tally; opened = false })
