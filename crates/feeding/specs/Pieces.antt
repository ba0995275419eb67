-- An input in pieces of any length, empty ones and single bytes too: what `finish` says is what the whole input comes to.
use Rattle.std.specs.Prelude.{ℕ, false, List, [], ◌∷◌, ◌++◌, ◌≡◌}
use Rattle.basics.specs.Answers.{accepted}
use Rattle.rules.specs.Exact.{joined}
use Rattle.rules.specs.Verdict.{most_records}
use Rattle.feeding.specs.declared.Stream.{Stream}
use Rattle.feeding.specs.declared.Ending.{Ending}
use Rattle.feeding.specs.Input.{Answers, ending_of}
use Rattle.feeding.specs.State.{goes, fresh_of, fresh_stream, feed_of, fed_of, finish_of}

-- the state after one piece after another
abbrev pub fed_all : Stream → List (List ℕ) → Stream
fed_all s [] = s
fed_all s (piece ∷ pieces) = fed_all (feed_of s piece) pieces

-- THE PROMISE to whoever feeds an input in pieces, for each hold limit 1 to 16
pub record Feeding (limit : ℕ) : Type 0 where
  -- A fresh state is there, and is where the feeding begins.
  pub begins : fresh_of limit ≡ accepted (fresh_stream limit)
  -- No piece is refused, and the call's answer is the next state.
  pub accepts : (pieces : List (List ℕ)) (piece : List ℕ)
      → let s = fed_all (fresh_stream limit) pieces in fed_of s piece ≡ accepted (feed_of s piece)
  -- Whatever the pieces are, the end says what the whole input comes to,
  pub says : (pieces : List (List ℕ)) → finish_of (fed_all (fresh_stream limit) pieces) ≡ ending_of limit (joined pieces)
  -- which is right of the recording itself,
  pub right : (bytes : List ℕ) → Answers limit bytes (ending_of limit bytes)
  -- and is the only ending that is.
  pub only : (bytes : List ℕ) (e f : Ending) → Answers limit bytes e → Answers limit bytes f → e ≡ f
  -- After a breach, or a whole record past 2^30, further pieces change nothing:
  pub ended : (pieces more : List (List ℕ))
      → let s = fed_all (fresh_stream limit) pieces in goes s.stop ≡ false → fed_all s more ≡ s
  -- the input may as well have ended there.
  pub rest : (pieces : List (List ℕ)) (rest : List ℕ)
      → goes (fed_all (fresh_stream limit) pieces).stop ≡ false → ending_of limit (joined pieces ++ rest) ≡ ending_of limit (joined pieces)
  -- After the 2^30th record no piece changes the totals or the judge's state: what comes can only be refused.
  pub full : (pieces : List (List ℕ)) (piece : List ℕ)
      → let s = fed_all (fresh_stream limit) pieces in
      s.tally.records ≡ most_records → ((feed_of s piece).tally ≡ s.tally) × ((feed_of s piece).judge ≡ s.judge)
