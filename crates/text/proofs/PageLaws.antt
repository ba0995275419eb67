-- Laws of a text made piece by piece on a page. Assumes nothing.
use Prim.Native.Nat.{ℕ, ◌+◌, ◌-◌, ◌≤◌, ◌<◌}
use mathlib.Core.Path.{◌≡◌, refl, sym, ap, ◌∙◌}
use mathlib.Core.Bool.{Bool, true, false}
use mathlib.Core.List.{List, [], ◌++◌, append_assoc, append-nil}
use native.Mathlib.Omega.{arith}
use borrow.Author.Tests.{le-leb, lt-leb, leb-true, leb-false}
use lib.Dec.{leb}
use lib.ListN.{length, take, drop, length-append}
use lib.Seq.{length-take-le, take_at}
use Rattle.std.specs.Prelude.{Option, Some, None}
use Rattle.basics.proofs.Bools.{cond-true, cond-false, by-test}
use Rattle.text.specs.declared.Place.{Place}
use Rattle.text.specs.Places.{fits, moved_by, put_at}
use Rattle.text.specs.Pages.{text_on, grown, moved_text, put_text}
use Rattle.text.proofs.PlaceLaws.{fits-within, moved_on, moved_off, put_there}

module _ (n : ℕ) (t w : List ℕ) where
  pub grown-on : length w ≤ n - length t → grown n (Some t) w ≡ Some (t ++ w)
  unfolding grown
  grown-on h = cond-true _ _ (le-leb (length w) (n - length t) h)

  pub grown-off : n - length t < length w → grown n (Some t) w ≡ None
  unfolding grown
  grown-off h = cond-false _ _ (lt-leb (length w) (n - length t) h)

-- once something had no room, nothing is put any more
pub grown_lost : (n : ℕ) (w : List ℕ) → grown n None w ≡ None
unfolding grown
grown_lost n w = refl

-- nothing changes nothing
pub grown_nil : (n : ℕ) (p : Option (List ℕ)) → grown n p [] ≡ p
grown_nil n None = grown_lost n []
grown_nil n (Some t) = grown-on n t [] (omega arith) ∙ ap Some (append-nil t)

-- WORDS PUT BEHIND ONE ANOTHER ARE PUT AT ONCE
pub grown_then : (n : ℕ) (p : Option (List ℕ)) (a b : List ℕ) → grown n (grown n p a) b ≡ grown n p (a ++ b)
grown_then n None a b = ap (λ (q : Option (List ℕ)). grown n q b) (grown_lost n a) ∙ grown_lost n b ∙ sym (grown_lost n (a ++ b))
grown_then n (Some t) a b =
    let then = λ (q : Option (List ℕ)). grown n q b in
    by-test (leb (length a) (n - length t))
    (λ e.
    let l : length a ≤ n - length t = leb-true (length a) (n - length t) e in
    let first = ap then (grown-on n t a l) in
    by-test (leb (length b) (n - length (t ++ a)))
    (λ f.
    let m : length b ≤ n - length (t ++ a) = leb-true (length b) (n - length (t ++ a)) f in
    first ∙ grown-on n (t ++ a) b m ∙ ap Some (append_assoc t a b)
    ∙ sym (grown-on n t (a ++ b) (omega (arith, length-append a b, length-append t a))))
    (λ f.
    let m : n - length (t ++ a) < length b = leb-false (length b) (n - length (t ++ a)) f in
    first ∙ grown-off n (t ++ a) b m ∙ sym (grown-off n t (a ++ b) (omega (arith, length-append a b, length-append t a)))))
    (λ e.
    let l : n - length t < length a = leb-false (length a) (n - length t) e in
    ap then (grown-off n t a l) ∙ grown_lost n b ∙ sym (grown-off n t (a ++ b) (omega (arith, length-append a b))))

-- a text that the page is long enough for stands on it whole
pub grown_fresh : (n : ℕ) (t : List ℕ) → length t ≤ n → grown n (Some []) t ≡ Some t
grown_fresh n t h = grown-on n [] t (omega arith)

-- and is put into a buffer as a word is
pub page_put : (n : ℕ) (page : Option (List ℕ)) (text buffer : List ℕ) (p : Place) {q : Place} {next : List ℕ} → page ≡ grown n (Some []) text → length text ≤ n → (q ≡ moved_text (length buffer) p page) × (next ≡ put_text buffer p page) → (q ≡ moved_by (length buffer) p (length text)) × (next ≡ put_at buffer p text)
page_put n page text buffer p e h r =
    let full : page ≡ Some text = e ∙ grown_fresh n text h in
    (r.0 ∙ ap (moved_text (length buffer) p) full, r.1 ∙ ap (put_text buffer p) full)

-- so is what was put on a page that had nothing on it
pub page_made : (n : ℕ) (text : List ℕ) {start page : Option (List ℕ)} → start ≡ Some [] → page ≡ grown n start text → (buffer : List ℕ) (p : Place) {q : Place} {next : List ℕ} → length text ≤ n → (q ≡ moved_text (length buffer) p page) × (next ≡ put_text buffer p page) → (q ≡ moved_by (length buffer) p (length text)) × (next ≡ put_at buffer p text)
page_made n text {start} {page} s e buffer p h r = page_put n page text buffer p (rw s at e) h r

-- the place behind a word is on the page
pub moved_within : (size : ℕ) (p : Place) (n : ℕ) → (moved_by size p n).at ≤ size
moved_within size p n =
    by-test (fits size p n)
    (λ e. rw (moved_on size p n e) (fits-within size p n e))
    (λ e. rw (moved_off size p n e) (omega arith))

-- a word put where the text ends is behind the text
module _ (bytes w : List ℕ) where
  text_there : (at : ℕ) (r : Bool) → at ≤ length bytes → let p : Place = record { at = at; room = r } in text_on (moved_by (length bytes) p (length w)) (put_at bytes p w) ≡ grown (length bytes) (text_on p bytes) w
  unfolding text_on fits
  text_there at false h =
      let p : Place = record { at = at; room = false } in
      rw (moved_off (length bytes) p (length w) refl) (sym (grown_lost (length bytes) w))
  text_there at true h =
      let p : Place = record { at = at; room = true } in
      let head : length (take at bytes) ≡ at = length-take-le at bytes h in
      by-test (fits (length bytes) p (length w))
      (λ e.
      let within : at + length w ≤ length bytes = fits-within (length bytes) p (length w) e in
      let end : length (take at bytes ++ w) ≡ at + length w = length-append (take at bytes) w ∙ ap (λ (k : ℕ). k + length w) head in
      rw (moved_on (length bytes) p (length w) e, put_there bytes p w e)
      (ap Some (take_at (take at bytes ++ w) (drop (at + length w) bytes) (at + length w) end)
      ∙ sym (grown-on (length bytes) (take at bytes) w (omega arith))))
      (λ e.
      let beyond : length bytes < at + length w = leb-false (at + length w) (length bytes) e in
      rw (moved_off (length bytes) p (length w) e) (sym (grown-off (length bytes) (take at bytes) w (omega arith))))

  pub text_put : (p : Place) → p.at ≤ length bytes → text_on (moved_by (length bytes) p (length w)) (put_at bytes p w) ≡ grown (length bytes) (text_on p bytes) w
  text_put p h = text_there p.at p.room h

-- a page without room, and one with its text
pub text_lost : (p : Place) (bytes : List ℕ) → p.room ≡ false → text_on p bytes ≡ None
unfolding text_on
text_lost p bytes e = cond-false _ _ e

pub text_here : (p : Place) (bytes : List ℕ) → p.room ≡ true → text_on p bytes ≡ Some (take p.at bytes)
unfolding text_on
text_here p bytes e = cond-true _ _ e
