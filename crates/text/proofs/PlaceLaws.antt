-- Laws of text put piece by piece into a buffer. Assumes nothing.
use Prim.Native.Nat.{ℕ, ◌+◌, ◌-◌, ◌≤◌, ◌<◌}
use mathlib.Core.Path.{◌≡◌, refl, sym, ap, ◌∙◌}
use mathlib.Core.Bool.{Bool, true, false, ◌&&◌, and-false, false≢true}
use mathlib.Core.List.{List, [], ◌++◌, append_assoc}
use native.Mathlib.Omega.{arith}
use native.Mathlib.Nat.{zero-add, add_assoc}
use borrow.Author.Tests.{le-leb, lt-leb, leb-true, leb-false}
use lib.Dec.{leb}
use lib.ListN.{length, take, drop, length-append}
use lib.Seq.{paste, length-paste, take-paste, take-length, length-take-le, take_at, drop_at, drop-drop}
use Rattle.basics.proofs.Bools.{cond-true, cond-false, by-test, choice, not-true, and_both}
use Rattle.text.specs.declared.Place.{Place}
use Rattle.text.specs.Places.{front, no_room, fits, moved_by, put_at, Holds}

-- a place that has lost nothing has room for n bytes where they end within the buffer, and for no more
module _ (size : ℕ) (p : Place) (n : ℕ) where
  pub fits_so : p.room ≡ true → p.at + n ≤ size → fits size p n ≡ true
  unfolding fits
  fits_so r h = rw r (le-leb (p.at + n) size h)

  pub fits_not : size < p.at + n → fits size p n ≡ false
  unfolding fits
  fits_not h = rw (lt-leb (p.at + n) size h) (and-false p.room)

  pub fits_less : n ≤ size → (p.room && leb p.at (size - n)) ≡ fits size p n
  unfolding fits
  fits_less h =
      ap (λ (t : Bool). p.room && t)
      (by-test (leb p.at (size - n))
      (λ e. let l : p.at ≤ size - n = leb-true p.at (size - n) e in e ∙ sym (le-leb (p.at + n) size (omega arith)))
      (λ e. let l : size - n < p.at = leb-false p.at (size - n) e in e ∙ sym (lt-leb (p.at + n) size (omega arith))))

  pub fits-within : fits size p n ≡ true → p.at + n ≤ size
  unfolding fits
  fits-within e = leb-true (p.at + n) size (and_both p.room (leb (p.at + n) size) e).1

  pub moved_on : fits size p n ≡ true → moved_by size p n ≡ record { at = p.at + n; room = true }
  unfolding moved_by
  moved_on e = cond-true _ _ e

  pub moved_off : fits size p n ≡ false → moved_by size p n ≡ no_room
  unfolding moved_by
  moved_off e = cond-false _ _ e

  -- the place behind them says whether they had room
  moved_room : (moved_by size p n).room ≡ fits size p n
  moved_room =
      by-test (fits size p n)
      (λ e. ap (λ (q : Place). q.room) (moved_on e) ∙ sym e)
      (λ e. ap (λ (q : Place). q.room) (moved_off e) ∙ sym e)

  pub fits_said : {q : Place} {b : Bool} → q ≡ moved_by size p n → q.room ≡ b → fits size p n ≡ b
  fits_said e r = sym moved_room ∙ sym (ap (λ (q : Place). q.room) e) ∙ r

module _ (buffer : List ℕ) (p : Place) (bytes : List ℕ) where
  pub put_there : fits (length buffer) p (length bytes) ≡ true → put_at buffer p bytes ≡ take p.at buffer ++ bytes ++ drop (p.at + length bytes) buffer
  unfolding put_at
  put_there e = cond-true _ _ e

  pub put_nowhere : fits (length buffer) p (length bytes) ≡ false → put_at buffer p bytes ≡ buffer
  unfolding put_at
  put_nowhere e = cond-false _ _ e

  -- a copy of all the bytes
  pub put_paste : paste buffer p.at bytes (length bytes) ≡ take p.at buffer ++ bytes ++ drop (p.at + length bytes) buffer
  put_paste = rw take-length

  -- the buffer keeps its length, whatever is put
  pub put_length : length (put_at buffer p bytes) ≡ length buffer
  unfolding put_at
  put_length =
      choice (λ (l : List ℕ). length l ≡ length buffer) (fits (length buffer) p (length bytes))
      (λ e. sym (ap length put_paste) ∙ length-paste buffer p.at bytes (length bytes) (fits-within _ _ _ e) (omega arith))
      (λ e. refl)

-- a text that the buffer holds, with more behind it where there is room, and otherwise as it was
module _ (buffer : List ℕ) (p : Place) (text bytes : List ℕ) (h : Holds buffer p text) where
  pub holds_more : length text + length bytes ≤ length buffer → Holds (put_at buffer p bytes) (moved_by (length buffer) p (length bytes)) (text ++ bytes)
  holds_more l =
      let q : Place = record { at = length text; room = true } in
      let f : fits (length buffer) q (length bytes) ≡ true = fits_so (length buffer) q (length bytes) refl l in
      rw h.place
      record {
        place = moved_on (length buffer) q (length bytes) f ∙ rw length-append;
        front =
            rw (length-append, put_there buffer q bytes f, ← put_paste buffer q bytes)
            (take-paste buffer (length text) bytes (length bytes) h.within (omega arith) ∙ rw (h.front, take-length));
        within = rw (put_length, length-append) l;
      }

  pub holds-full : length buffer < length text + length bytes → (moved_by (length buffer) p (length bytes) ≡ no_room) × (put_at buffer p bytes ≡ buffer)
  holds-full l =
      let f : fits (length buffer) p (length bytes) ≡ false = fits_not (length buffer) p (length bytes) (rw h.place l) in
      (moved_off (length buffer) p (length bytes) f, put_nowhere buffer p bytes f)

-- room that was lost stays lost, and nothing is written any more
pub moved_lost : (size n : ℕ) → moved_by size no_room n ≡ no_room
unfolding fits
moved_lost size n = moved_off size no_room n refl

pub put_lost : (buffer bytes : List ℕ) → put_at buffer no_room bytes ≡ buffer
unfolding fits
put_lost buffer bytes = put_nowhere buffer no_room bytes refl

-- bytes behind bytes: the second have room where both have, and end where both end
module _ (size : ℕ) (p : Place) (m n : ℕ) where
  fits-first : fits size p (m + n) ≡ true → fits size p m ≡ true
  unfolding fits
  fits-first e =
      let within = fits-within size p (m + n) e in
      fits_so size p m (and_both p.room _ e).0 (omega arith)

  fits_mid : fits size p m ≡ true → fits size (record { at = p.at + m; room = true }) n ≡ fits size p (m + n)
  unfolding fits
  fits_mid e = rw ((and_both p.room _ e).0, add_assoc)

  fits-none : fits size p m ≡ false → fits size p (m + n) ≡ false
  fits-none e = not-true (fits size p (m + n)) (λ t. false≢true (sym e ∙ fits-first t))

  moved_then : moved_by size (moved_by size p m) n ≡ moved_by size p (m + n)
  unfolding moved_by
  moved_then =
      by-test (fits size p m)
      (λ e. ap (λ (q : Place). moved_by size q n) (moved_on size p m e) ∙ rw (fits_mid e, add_assoc))
      (λ e. ap (λ (q : Place). moved_by size q n) (moved_off size p m e) ∙ moved_lost size n ∙ sym (moved_off size p (m + n) (fits-none e)))

-- two words put behind one another are both put at once, where both have room
module _ (buffer : List ℕ) (p : Place) (x y : List ℕ) where
  put_twice : p.at + length x ≤ length buffer → let first : List ℕ = take p.at buffer ++ x ++ drop (p.at + length x) buffer in take (p.at + length x) first ++ y ++ drop (p.at + length x + length y) first ≡ take p.at buffer ++ (x ++ y) ++ drop (p.at + length (x ++ y)) buffer
  put_twice h =
      let head : List ℕ = take p.at buffer ++ x in
      let rest : List ℕ = drop (p.at + length x) buffer in
      let long : length head ≡ p.at + length x = length-append (take p.at buffer) x ∙ ap (λ (k : ℕ). k + length x) (length-take-le p.at buffer (omega arith)) in
      rw (take_at head rest (p.at + length x) long, ← drop-drop (length y) (p.at + length x) (head ++ rest), drop_at head rest (p.at + length x) long, drop-drop, length-append, add_assoc, append_assoc (take p.at buffer) x y)

  put_then : fits (length buffer) p (length (x ++ y)) ≡ true → put_at (put_at buffer p x) (moved_by (length buffer) p (length x)) y ≡ put_at buffer p (x ++ y)
  put_then f =
      let size = length buffer in
      let both : fits size p (length x + length y) ≡ true = rw length-append at f in
      let one = fits-first size p (length x) (length y) both in
      let first : List ℕ = take p.at buffer ++ x ++ drop (p.at + length x) buffer in
      let q : Place = record { at = p.at + length x; room = true } in
      let same : length first ≡ size = ap length (sym (put_there buffer p x one)) ∙ put_length buffer p x in
      let room : fits (length first) q (length y) ≡ true = rw same (fits_mid size p (length x) (length y) one ∙ both) in
      rw (put_there buffer p x one, moved_on size p (length x) one)
      (put_there first q y room ∙ put_twice (fits-within size p (length x) one) ∙ sym (put_there buffer p (x ++ y) f))

-- the same of places and buffers as functions give them: q is behind the first, r behind both
module _ (buffer : List ℕ) (p : Place) (x y : List ℕ) {q r : Place} (e : q ≡ moved_by (length buffer) p (length x)) (d : r ≡ moved_by (length buffer) q (length y)) where
  pub both_moved : r ≡ moved_by (length buffer) p (length (x ++ y))
  both_moved = d ∙ rw (e, length-append) (moved_then (length buffer) p (length x) (length y))

  pub both_put : {first both : List ℕ} → r.room ≡ true → first ≡ put_at buffer p x → both ≡ put_at first q y → both ≡ put_at buffer p (x ++ y)
  both_put t f g =
      g ∙ rw (f, e) (put_then buffer p x y (fits_said (length buffer) p (length (x ++ y)) both_moved t))

  pub neither_put : r.room ≡ false → buffer ≡ put_at buffer p (x ++ y)
  neither_put t = sym (put_nowhere buffer p (x ++ y) (fits_said (length buffer) p (length (x ++ y)) both_moved t))

-- nothing stands at the front of every buffer
pub holds-front : (buffer : List ℕ) → Holds buffer front []
holds-front buffer = record { place = refl; front = refl; within = omega arith }

-- what is put first stands at the buffer's front where the buffer is long enough, and is not written where it isn't
module _ (buffer bytes : List ℕ) where
  module _ (h : length bytes ≤ length buffer) where
    front_fits : fits (length buffer) front (length bytes) ≡ true
    front_fits = fits_so (length buffer) front (length bytes) refl (omega arith)

    pub put_front : put_at buffer front bytes ≡ bytes ++ drop (length bytes) buffer
    put_front = put_there buffer front bytes front_fits ∙ rw zero-add

    pub moved_front : moved_by (length buffer) front (length bytes) ≡ record { at = length bytes; room = true }
    moved_front = moved_on (length buffer) front (length bytes) front_fits ∙ rw zero-add

  module _ (h : length buffer < length bytes) where
    front-full : fits (length buffer) front (length bytes) ≡ false
    front-full = fits_not (length buffer) front (length bytes) (omega arith)

    pub put_refused : put_at buffer front bytes ≡ buffer
    put_refused = put_nowhere buffer front bytes front-full

    pub moved_refused : moved_by (length buffer) front (length bytes) ≡ no_room
    moved_refused = moved_off (length buffer) front (length bytes) front-full
