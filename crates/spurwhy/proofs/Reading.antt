-- Laws of what the program reads: the judge that is fed and keeps the record that broke a rule does as `reading` asks. Assumes nothing.
use Prim.Native.Nat.{ℕ, ◌<◌}
use mathlib.Core.Bool.{true}
use mathlib.Core.List.{List, [], ◌++◌}
use mathlib.Core.Path.{◌≡◌, refl, sym, ap, ◌∙◌}
use native.Mathlib.Omega.{arith}
use lib.ListN.{length}
use Rattle.basics.specs.Numbers.{lawful_limit}
use Rattle.rules.specs.State.{fresh_judge, zero_tally}
use Rattle.feeding.specs.State.{goes, fresh_stream}
use Rattle.feeding.proofs.GoOn.{going-within}
use Rattle.feeding.proofs.Feeding.{lawful_limits}
use Rattle.witness.specs.declared.Witness.{Witness}
use Rattle.basics.specs.Answers.{Answer}
use Rattle.witness.specs.State.{fresh_witness, noted_of}
use Rattle.witness.proofs.Pieces.{witness_of, noted_more, witness_fresh}
use Rattle.reading.specs.Reads.{bytes_most, Piecewise}
use Rattle.spurwhy.specs.Pages.{explaining}

module _ (limit : ℕ) (lawful : lawful_limit limit ≡ true) where
  abbrev state_of : List ℕ → Witness
  state_of bytes = witness_of limit (lawful_limits limit lawful).0 (lawful_limits limit lawful).1 bytes

  begins : fresh_witness limit ≡ state_of []
  begins = witness_fresh limit (lawful_limits limit lawful).0 (lawful_limits limit lawful).1

  fed_on : (bytes piece : List ℕ) → explaining.fed (state_of bytes) piece ≡ state_of (bytes ++ piece)
  fed_on bytes piece = ap (λ (n : Answer Witness). n.value) (noted_more limit (lawful_limits limit lawful).0 (lawful_limits limit lawful).1 bytes piece)

  -- the state is that of all the bytes at once
  pub fed_is : (bytes : List ℕ) → explaining.fed (fresh_witness limit) bytes ≡ state_of bytes
  fed_is bytes = ap (λ (w : Witness). (noted_of w bytes).value) begins ∙ fed_on [] bytes

  fed-within : (bytes : List ℕ) → explaining.going (explaining.fed (fresh_witness limit) bytes) ≡ true → length bytes < bytes_most
  fed-within bytes e =
      let within = going-within (fresh_judge limit) zero_tally bytes (ap (λ (w : Witness). goes w.stream.stop) (sym (fed_is bytes)) ∙ e) in omega arith

  pub explaining_pieces : Piecewise explaining (fresh_witness limit)
  unfolding fresh_stream
  explaining_pieces =
      record {
        goes = refl;
        none = fed_is [] ∙ sym begins;
        more = λ bytes piece. ap (λ (w : Witness). (noted_of w piece).value) (fed_is bytes) ∙ fed_on bytes piece ∙ sym (fed_is (bytes ++ piece));
        within = fed-within;
      }
