-- The text that the program makes is that of the whole input. Assumes nothing.
use Prim.Native.Nat.{ℕ}
use mathlib.Core.Bool.{true, false}
use mathlib.Core.List.{List, ◌++◌}
use mathlib.Core.Path.{◌≡◌, refl, sym, ap, ◌∙◌}
use Rattle.basics.specs.Numbers.{lawful_limit}
use Rattle.basics.proofs.Bools.{cond-true}
use Rattle.feeding.specs.State.{goes}
use Rattle.feeding.proofs.Feeding.{lawful_limits}
use Rattle.witness.specs.declared.Witness.{Witness}
use Rattle.witness.specs.declared.Reason.{Reason}
use Rattle.witness.specs.State.{fresh_witness, reason_in}
use Rattle.witness.specs.Input.{reason_of}
use Rattle.witness.proofs.Pieces.{reason_is, rest-same}
use Rattle.whylines.specs.Lines.{reason_lines, why_page}
use Rattle.reading.specs.Pages.{Telling}
use Rattle.spurwhy.specs.Pages.{explaining}
use Rattle.spurwhy.proofs.Reading.{fed_is}

-- ---- an input that was read
module _ (limit : ℕ) (lawful : lawful_limit limit ≡ true) where
  reason_of_lem : (bytes : List ℕ) → reason_in (explaining.fed (fresh_witness limit) bytes) ≡ reason_of limit bytes
  reason_of_lem bytes = ap reason_in (fed_is limit lawful bytes) ∙ reason_is limit (lawful_limits limit lawful).0 (lawful_limits limit lawful).1 bytes

  page_of_lem : (r : Reason) (bytes : List ℕ) → r ≡ reason_of limit bytes → reason_lines r ≡ why_page limit bytes
  page_of_lem r bytes is = ap reason_lines is ∙ sym (cond-true _ _ lawful)

  -- what is behind the bytes that were read changes nothing
  behind-same : (bytes rest : List ℕ) → explaining.going (explaining.fed (fresh_witness limit) bytes) ≡ false → reason_of limit (bytes ++ rest) ≡ reason_of limit bytes
  behind-same bytes rest ended =
      rest-same limit (lawful_limits limit lawful).0 (lawful_limits limit lawful).1 bytes rest (ap (λ (w : Witness). goes w.stream.stop) (sym (fed_is limit lawful bytes)) ∙ ended)

  pub explaining_tells : Telling explaining (fresh_witness limit) (why_page limit) (λ w. reason_lines (reason_in w))
  explaining_tells =
      record {
        says = λ bytes. page_of_lem _ bytes (reason_of_lem bytes);
        rest = λ bytes rest ended. sym (page_of_lem _ (bytes ++ rest) (sym (behind-same bytes rest ended))) ∙ page_of_lem _ bytes refl;
      }
