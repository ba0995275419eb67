-- Laws of a text made piece by piece. Assumes nothing.
use Prim.Native.Nat.{ℕ, ◌+◌, ◌≤◌}
use mathlib.Core.Path.{◌≡◌, refl, ◌∙◌}
use mathlib.Core.List.{List, [], ◌++◌, append_assoc, append-nil}
use native.Mathlib.Omega.{arith}
use lib.ListN.{length, take, length-append}
use Rattle.text.specs.declared.Place.{Place}
use Rattle.text.specs.Places.{front, moved_by, put_at, Holds}
use Rattle.text.proofs.PlaceLaws.{put_length, holds_more, holds-front}
use Rattle.printed.specs.Adding.{Adds}

-- a put adds its bytes
pub adds_put : {buffer : List ℕ} {p : Place} {next : List ℕ} {q : Place} {bytes : List ℕ} → (q ≡ moved_by (length buffer) p (length bytes)) × (next ≡ put_at buffer p bytes) → Adds buffer p next q bytes
adds_put {buffer} {p} {next} {q} {bytes} e =
    rw (e.0, e.1)
    record { kept = put_length buffer p bytes; behind = λ t h l. holds_more buffer p t bytes h l }

-- one after the other adds both
pub adds_then : {a : List ℕ} {p : Place} {b : List ℕ} {q : Place} {c : List ℕ} {r : Place} {x y : List ℕ} → Adds a p b q x → Adds b q c r y → Adds a p c r (x ++ y)
adds_then {a} {p} {b} {q} {c} {r} {x} {y} f g =
    record {
      kept = g.kept ∙ f.kept;
      behind = λ t h l.
          let m : length (x ++ y) ≡ length x + length y = length-append x y in
          let k = f.kept in
          let n : length (t ++ x) ≡ length t + length x = length-append t x in
          rw append_assoc at (g.behind (t ++ x) (f.behind t h (omega arith)) (omega arith));
    }

-- nothing done adds nothing
pub adds_none : {a : List ℕ} {p : Place} → Adds a p a p []
adds_none = record { kept = refl; behind = λ t h l. rw append-nil h }

-- the bytes named
pub adds_is : {a : List ℕ} {p : Place} {b : List ℕ} {q : Place} (x : List ℕ) → Adds a p b q x → Adds a p b q x
adds_is x f = f

-- the bytes under another name
pub adds_as : {a : List ℕ} {p : Place} {b : List ℕ} {q : Place} {x y : List ℕ} → y ≡ x → Adds a p b q x → Adds a p b q y
adds_as e f = rw e f

-- the first n bytes of a page are these
pub record Made (page : List ℕ) (n : ℕ) (bytes : List ℕ) : Type 0 where
  pub within : n ≤ length page
  pub text : take n page ≡ bytes
  pub size : n ≡ length (take n page)

-- so a page has the bytes before the place, where they were added from the front on and there was room
pub adds_page : {a : List ℕ} {p : Place} {b : List ℕ} {q : Place} {bytes : List ℕ} → p ≡ front → Adds a p b q bytes → length bytes ≤ length a → Made b q.at bytes
adds_page {a} {p} {b} {q} {bytes} s f l =
    let h : Holds b q bytes = f.behind [] (rw s (holds-front a)) (omega arith) in
    let e : q.at ≡ length bytes = rw h.place in
    record { within = rw e h.within; text = rw e h.front; size = rw (e, h.front) }

-- put into a buffer, they are the bytes put there
pub page_put : (buffer next : List ℕ) (p q r : Place) {page : List ℕ} {n : ℕ} {bytes : List ℕ} → p ≡ q → Made page n bytes → (r ≡ moved_by (length buffer) p (length (take n page))) × (next ≡ put_at buffer p (take n page)) → (r ≡ moved_by (length buffer) q (length bytes)) × (next ≡ put_at buffer q bytes)
page_put buffer next p q r s m e = rw (s, m.text) at e
