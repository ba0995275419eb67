-- The text that the program makes is that of the whole input. Assumes nothing.
use Prim.Native.Nat.{ℕ}
use mathlib.Core.Bool.{true, false}
use mathlib.Core.List.{List, [], ◌∷◌, ◌++◌, append-nil}
use mathlib.Core.Path.{◌≡◌, refl, sym, ap, ◌∙◌}
use Rattle.basics.specs.Numbers.{lawful_limit}
use Rattle.basics.proofs.Bools.{cond-true}
use Rattle.feeding.specs.declared.Stream.{Stream}
use Rattle.feeding.specs.declared.Ending.{Ending}
use Rattle.feeding.specs.Input.{ending_of}
use Rattle.feeding.specs.State.{goes, fresh_stream, finish_of}
use Rattle.feeding.proofs.Feeding.{feeding}
use Rattle.printed.specs.Lines.{lines_of, page_of}
use Rattle.reading.specs.Pages.{Telling}
use Rattle.spurjudge.specs.Pages.{judging}
use Rattle.spurjudge.proofs.Reading.{fed-first}

-- ---- an input that was read
module _ (limit : ℕ) (lawful : lawful_limit limit ≡ true) where
  ending_says : (bytes : List ℕ) → finish_of (judging.fed (fresh_stream limit) bytes) ≡ ending_of limit bytes
  ending_says bytes = ap finish_of (fed-first limit lawful bytes) ∙ (feeding limit lawful).says (bytes ∷ []) ∙ ap (ending_of limit) (append-nil bytes)

  page_says_of : (e : Ending) (bytes : List ℕ) → e ≡ ending_of limit bytes → lines_of e ≡ page_of limit bytes
  page_says_of e bytes is = ap lines_of is ∙ sym (cond-true _ _ lawful)

  -- what is behind the bytes that were read changes nothing
  behind-same : (bytes rest : List ℕ) → judging.going (judging.fed (fresh_stream limit) bytes) ≡ false → ending_of limit (bytes ++ rest) ≡ ending_of limit bytes
  behind-same bytes rest ended =
      ap (λ (l : List ℕ). ending_of limit (l ++ rest)) (sym (append-nil bytes))
      ∙ (feeding limit lawful).rest (bytes ∷ []) rest (ap (λ (s : Stream). goes s.stop) (sym (fed-first limit lawful bytes)) ∙ ended)
      ∙ ap (ending_of limit) (append-nil bytes)

  pub judging_tells : Telling judging (fresh_stream limit) (page_of limit) (λ s. lines_of (finish_of s))
  judging_tells =
      record {
        says = λ bytes. page_says_of _ bytes (ending_says bytes);
        rest = λ bytes rest ended. sym (page_says_of _ (bytes ++ rest) (sym (behind-same bytes rest ended))) ∙ page_says_of _ bytes refl;
      }
