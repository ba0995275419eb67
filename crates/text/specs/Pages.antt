-- A text made piece by piece on a page of so many bytes. A page is seen as the text so far: `Some` of it while all that was put had room, and `None`
-- once something had none.
use Rattle.std.specs.Prelude.{ℕ, ◌-◌, cond, List, ◌++◌, leb, length, take, Option, Some, None}
use Rattle.text.specs.declared.Place.{Place}
use Rattle.text.specs.Places.{no_room, moved_by, put_at}

-- what stands on a page before the place
unfoldable pub text_on : Place → List ℕ → Option (List ℕ)
text_on p bytes = cond p.room (Some (take p.at bytes)) None

-- the text with a word behind it, where the word has room in what is left of the page's n bytes
unfoldable pub grown : ℕ → Option (List ℕ) → List ℕ → Option (List ℕ)
grown n None w = None
grown n (Some t) w = cond (leb (length w) (n - length t)) (Some (t ++ w)) None

-- a page's text put at a place of a buffer of so many bytes: as a word is, and nothing where the page lacked room
abbrev pub moved_text : ℕ → Place → Option (List ℕ) → Place
moved_text size p None = no_room
moved_text size p (Some t) = moved_by size p (length t)

abbrev pub put_text : List ℕ → Place → Option (List ℕ) → List ℕ
put_text buffer p None = buffer
put_text buffer p (Some t) = put_at buffer p t
