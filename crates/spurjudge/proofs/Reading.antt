-- Laws of what the program reads: the judge that is fed keeps to what `reading` asks. Assumes nothing.
use Prim.Native.Nat.{ℕ, ◌<◌}
use mathlib.Core.Bool.{true}
use mathlib.Core.List.{List, [], ◌∷◌, ◌++◌, append-nil}
use mathlib.Core.Path.{◌≡◌, refl, sym, ap, ◌∙◌}
use native.Mathlib.Omega.{arith}
use lib.ListN.{length}
use Rattle.feeding.specs.declared.Stream.{Stream}
use Rattle.basics.specs.Answers.{Answer}
use Rattle.basics.specs.Numbers.{lawful_limit}
use Rattle.rules.specs.State.{fresh_judge, zero_tally}
use Rattle.feeding.specs.State.{goes, gone_on, fresh_stream, feed_of, fed_of}
use Rattle.feeding.specs.Pieces.{fed_all}
use Rattle.feeding.proofs.GoOn.{feed_more, going-within}
use Rattle.feeding.proofs.Feeding.{fed-all, feeding}
use Rattle.reading.specs.Reads.{bytes_most, Piecewise}
use Rattle.spurjudge.specs.Pages.{judging}

-- the state of all the bytes at once
abbrev state_of : ℕ → List ℕ → Stream
state_of limit bytes = gone_on (fresh_judge limit) zero_tally bytes

module _ (limit : ℕ) (lawful : lawful_limit limit ≡ true) where
  fed-one : (bytes : List ℕ) → fed_all (fresh_stream limit) (bytes ∷ []) ≡ state_of limit bytes
  fed-one bytes = fed-all limit (bytes ∷ []) ∙ ap (state_of limit) (append-nil bytes)

  pub fed-first : (bytes : List ℕ) → judging.fed (fresh_stream limit) bytes ≡ fed_all (fresh_stream limit) (bytes ∷ [])
  fed-first bytes = ap (λ (r : Answer Stream). r.value) ((feeding limit lawful).accepts [] bytes)

  fed_is : (bytes : List ℕ) → judging.fed (fresh_stream limit) bytes ≡ state_of limit bytes
  fed_is bytes = fed-first bytes ∙ fed-one bytes

  fed_on : (bytes piece : List ℕ) → judging.fed (state_of limit bytes) piece ≡ state_of limit (bytes ++ piece)
  fed_on bytes piece =
      ap (λ (s : Stream). (fed_of s piece).value) (sym (fed-one bytes))
      ∙ ap (λ (r : Answer Stream). r.value) ((feeding limit lawful).accepts (bytes ∷ []) piece)
      ∙ ap (λ (s : Stream). feed_of s piece) (fed-one bytes)
      ∙ feed_more (fresh_judge limit) zero_tally (omega arith) bytes piece

  fed-within : (bytes : List ℕ) → judging.going (judging.fed (fresh_stream limit) bytes) ≡ true → length bytes < bytes_most
  fed-within bytes e =
      let within = going-within (fresh_judge limit) zero_tally bytes (ap (λ (s : Stream). goes s.stop) (sym (fed_is bytes)) ∙ e) in omega arith

  pub judging_pieces : Piecewise judging (fresh_stream limit)
  unfolding fresh_stream
  judging_pieces =
      record {
        goes = refl;
        none = fed_is [] ∙ sym (fed-all limit []);
        more = λ bytes piece. ap (λ (s : Stream). (fed_of s piece).value) (fed_is bytes) ∙ fed_on bytes piece ∙ sym (fed_is (bytes ++ piece));
        within = fed-within;
      }
