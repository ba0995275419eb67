-- The text that a program makes is that of the whole input. Assumes nothing.
use Prim.Native.Nat.{ℕ, ◌≤◌}
use mathlib.Core.Bool.{Bool, true, false}
use mathlib.Core.List.{List, [], ◌++◌, append-nil}
use mathlib.Core.Path.{◌≡◌, sym, ap, subst, ◌∙◌}
use native.Mathlib.Omega.{arith}
use lib.ListN.{length, take}
use Rattle.text.specs.declared.Place.{Place}
use Rattle.text.specs.Places.{front, moved_by, put_at, Holds}
use Rattle.text.proofs.PlaceLaws.{holds-front, holds_more}
use Rattle.std.specs.Prelude.{Result, Ok}
use Rattle.reading.specs.declared.CantRead.{CantRead}
use Rattle.reading.specs.Reads.{Feeder, Standing, ReadOut, Piecewise}
use Rattle.reading.specs.Pages.{Behind, nothing, anything, Prints, Telling, unlawful, told, unread}
use Rattle.reading.proofs.Reading.{heard-holds}

-- ---- a text that fits, put to the front
pub holds_put : (text after bytes : List ℕ) (q : Place) → length bytes ≤ length text → q ≡ moved_by (length text) front (length bytes) → after ≡ put_at text front bytes → Holds after q bytes
holds_put text after bytes q fits qe ae =
    subst (λ (l : List ℕ). Holds l q bytes) (sym ae)
    (subst (λ (x : Place). Holds (put_at text front bytes) x bytes) (sym qe) (holds_more text front [] bytes (holds-front text) (omega arith)))

module _ (text bytes : List ℕ) (q : Place) (h : Holds text q bytes) where
  pub page_fits : q.at ≤ length text
  page_fits = let at = ap (λ (x : Place). x.at) h.place in let within = h.within in omega arith

  pub page_says : take q.at text ≡ bytes
  page_says = ap (λ (x : Place). take x.at text) h.place ∙ h.front

-- ---- unlawful words
-- a line that is put to the front where the words are unlawful, and is then the text for any input
pub refused-says : {S : Type 0} (p : Feeder S) (begun : S) (lawful : Bool) (page : List ℕ → List ℕ) (line text after : List ℕ) (q : Place) → lawful ≡ false → ((bytes : List ℕ) → line ≡ page bytes)
    → length line ≤ length text → q ≡ moved_by (length text) front (length line) → after ≡ put_at text front line → Prints p begun lawful page after (Ok q.at)
refused-says p begun lawful page line text after q is says fits qe ae =
    let held = holds_put text after line q fits qe ae in
    unlawful q.at (page_fits after line q held) is (λ bytes. page_says after line q held ∙ says bytes)

-- ---- an input that was read
module _ {S : Type 0} (p : Feeder S) (begun : S) (laws : Piecewise p begun) (page : List ℕ → List ℕ) (say : S → List ℕ) (tells : Telling p begun page say) where
  behind-same : (i : Standing S) (bytes rest : List ℕ) → i.state ≡ p.fed begun bytes → Behind p i rest → page (bytes ++ rest) ≡ page bytes
  behind-same i bytes _ e nothing = ap page (append-nil bytes)
  behind-same i bytes _ e (anything rest ended) = tells.rest bytes rest (ap p.going (sym e) ∙ ended)

  pub told-says : (lawful : Bool) → lawful ≡ true → (i : Standing S) (text : List ℕ) (q : Place) → i.failed ≡ false → ReadOut p begun i → Holds text q (say i.state) → Prints p begun lawful page text (Ok q.at)
  told-says lawful is i text q sound out h =
      let bytes : List ℕ = out.bytes in
      let holds = heard-holds p begun laws bytes i out.heard in
      told q.at i (page_fits text _ q h) is out sound
      (λ rest b. page_says text _ q h ∙ ap say holds.state ∙ tells.says bytes ∙ sym (behind-same i bytes rest holds.state b))

-- ---- what is printed stands in the text
pub page_within : {S : Type 0} (p : Feeder S) (begun : S) (lawful : Bool) (page : List ℕ → List ℕ) (text : List ℕ) (said : Result ℕ CantRead) (n : ℕ) → Prints p begun lawful page text said → said ≡ Ok n → n ≤ length text
page_within p begun lawful page text _ n (unlawful m within _ _) e = let same : m ≡ n = cc in omega arith
page_within p begun lawful page text _ n (told m i within _ _ _ _) e = let same : m ≡ n = cc in omega arith
page_within p begun lawful page text _ n (unread why i _ _ _) e = let z : ◌≡◌ {A = ℕ} 0 1 = cc in absurd (omega arith)
