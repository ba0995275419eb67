-- The text that the program makes is that of the whole input. Assumes nothing.
use Prim.Native.Nat.{ℕ, ◌≤◌}
use mathlib.Core.Bool.{true, false}
use mathlib.Core.List.{List, [], ◌∷◌, ◌++◌, append-nil}
use mathlib.Core.Path.{◌≡◌, refl, sym, ap, ◌∙◌}
use lib.ListN.{length}
use Rattle.basics.specs.Numbers.{lawful_limit}
use Rattle.basics.proofs.Bools.{cond-true}
use Rattle.feeding.specs.State.{goes}
use Rattle.usage.specs.declared.Ledger.{Ledger}
use Rattle.usage.specs.declared.Closing.{Closing}
use Rattle.usage.specs.Pieces.{fresh_ledger, closing_of, reckoning_of}
use Rattle.usage.proofs.Pieces.{reckoning}
use Rattle.accountlines.specs.Lines.{closing_lines, accounts_page}
use Rattle.accountlines.proofs.LineLaws.{closing_most}
use Rattle.reading.specs.Reads.{Standing}
use Rattle.reading.specs.Pages.{Telling}
use Rattle.reading.proofs.Reading.{heard-holds}
use Rattle.spuraccounts.specs.Pages.{accounting, ReadOut}
use Rattle.spuraccounts.proofs.Reading.{fed-first, accounting_pieces}

-- ---- an input that was read
module _ (limit : ℕ) (lawful : lawful_limit limit ≡ true) where
  closing_of_lem : (bytes : List ℕ) → closing_of (accounting.fed (fresh_ledger limit) bytes) ≡ reckoning_of limit bytes
  closing_of_lem bytes = ap closing_of (fed-first limit lawful bytes) ∙ (reckoning limit lawful).says (bytes ∷ []) ∙ ap (reckoning_of limit) (append-nil bytes)

  page_of_lem : (c : Closing) (bytes : List ℕ) → c ≡ reckoning_of limit bytes → closing_lines c ≡ accounts_page limit bytes
  page_of_lem c bytes is = ap closing_lines is ∙ sym (cond-true _ _ lawful)

  -- what is behind the bytes that were read changes nothing
  behind-same : (bytes rest : List ℕ) → accounting.going (accounting.fed (fresh_ledger limit) bytes) ≡ false → reckoning_of limit (bytes ++ rest) ≡ reckoning_of limit bytes
  behind-same bytes rest ended =
      ap (λ (l : List ℕ). reckoning_of limit (l ++ rest)) (sym (append-nil bytes))
      ∙ (reckoning limit lawful).rest (bytes ∷ []) rest (ap (λ (l : Ledger). goes l.stream.stop) (sym (fed-first limit lawful bytes)) ∙ ended)
      ∙ ap (reckoning_of limit) (append-nil bytes)

  pub accounting_tells : Telling accounting (fresh_ledger limit) (accounts_page limit) (λ l. closing_lines (closing_of l))
  accounting_tells =
      record {
        says = λ bytes. page_of_lem _ bytes (closing_of_lem bytes);
        rest = λ bytes rest ended. sym (page_of_lem _ (bytes ++ rest) (sym (behind-same bytes rest ended))) ∙ page_of_lem _ bytes refl;
      }

  -- there are sixteen entries, since the recording's account has so many
  pub lines_fit : (i : Standing Ledger) → ReadOut limit i → length (closing_lines (closing_of i.state)) ≤ 1532
  lines_fit i out =
      let bytes : List ℕ = out.bytes in
      let fed = heard-holds accounting (fresh_ledger limit) (accounting_pieces limit lawful) bytes i out.heard in
      let is : closing_of i.state ≡ reckoning_of limit bytes = ap closing_of fed.state ∙ closing_of_lem bytes in
      closing_most (closing_of i.state) (ap (λ (x : Closing). length x.entries) is ∙ ((reckoning limit lawful).right bytes).account.sixteen)
