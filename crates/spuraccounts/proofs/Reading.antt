-- Laws of what the program reads: the judge that is fed and keeps an account does as `reading` asks. Assumes nothing.
use Prim.Native.Nat.{ℕ, ◌<◌}
use mathlib.Core.Bool.{true}
use mathlib.Core.List.{List, [], ◌∷◌, ◌++◌, append-nil}
use mathlib.Core.Path.{◌≡◌, refl, sym, ap, ◌∙◌}
use native.Mathlib.Omega.{arith}
use lib.ListN.{length}
use Rattle.basics.specs.Numbers.{lawful_limit}
use Rattle.rules.specs.State.{fresh_judge, zero_tally}
use Rattle.rules.specs.Exact.{joined}
use Rattle.feeding.specs.declared.Stream.{Stream}
use Rattle.feeding.specs.State.{goes, fresh_stream}
use Rattle.feeding.proofs.GoOn.{going-within}
use Rattle.feeding.proofs.Feeding.{input_state, fed-all}
use Rattle.usage.specs.declared.Ledger.{Ledger}
use Rattle.basics.specs.Answers.{Answer}
use Rattle.usage.specs.Pieces.{fresh_ledger, posted_of, posted_all}
use Rattle.usage.proofs.Pieces.{posted_all_lem, post_stream, reckoning}
use Rattle.reading.specs.Reads.{bytes_most, Piecewise}
use Rattle.spuraccounts.specs.Pages.{accounting}

-- pieces that have the same bytes come to the same
same_bytes : (limit : ℕ) (a b : List (List ℕ)) → joined a ≡ joined b → posted_all (fresh_ledger limit) a ≡ posted_all (fresh_ledger limit) b
same_bytes limit a b e = (rw e at (posted_all_lem limit a)) ∙ sym (posted_all_lem limit b)

module _ (limit : ℕ) (lawful : lawful_limit limit ≡ true) where
  abbrev fresh : Ledger
  fresh = fresh_ledger limit

  pub fed-first : (bytes : List ℕ) → accounting.fed fresh bytes ≡ posted_all fresh (bytes ∷ [])
  fed-first bytes = ap (λ (r : Answer Ledger). r.value) ((reckoning limit lawful).accepts [] bytes)

  fed_on : (bytes piece : List ℕ) → accounting.fed (accounting.fed fresh bytes) piece ≡ accounting.fed fresh (bytes ++ piece)
  fed_on bytes piece =
      ap (λ (l : Ledger). (posted_of l piece).value) (fed-first bytes)
      ∙ ap (λ (r : Answer Ledger). r.value) ((reckoning limit lawful).accepts (bytes ∷ []) piece)
      ∙ same_bytes limit (bytes ∷ piece ∷ []) ((bytes ++ piece) ∷ []) (ap (λ (l : List ℕ). bytes ++ l) (append-nil piece) ∙ sym (append-nil (bytes ++ piece)))
      ∙ sym (fed-first (bytes ++ piece))

  -- the judge in it is the one without an account, to which no whole record past 2^30 was fed while it goes on
  judge_is : (bytes : List ℕ) → (accounting.fed fresh bytes).stream ≡ input_state limit bytes
  unfolding fresh_ledger
  judge_is bytes =
      ap (λ (l : Ledger). l.stream) (fed-first bytes)
      ∙ post_stream fresh (bytes ∷ [])
      ∙ fed-all limit (bytes ∷ [])
      ∙ ap (input_state limit) (append-nil bytes)

  fed-within : (bytes : List ℕ) → accounting.going (accounting.fed fresh bytes) ≡ true → length bytes < bytes_most
  fed-within bytes e =
      let within = going-within (fresh_judge limit) zero_tally bytes (ap (λ (s : Stream). goes s.stop) (sym (judge_is bytes)) ∙ e) in omega arith

  pub accounting_pieces : Piecewise accounting fresh
  unfolding fresh_ledger fresh_stream
  accounting_pieces = record { goes = refl; none = fed-first [] ∙ same_bytes limit ([] ∷ []) [] refl; more = fed_on; within = fed-within }
