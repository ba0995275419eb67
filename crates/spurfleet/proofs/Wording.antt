-- Laws of the program's words, and of the line over them. Assumes nothing.
use Prim.Native.Nat.{ℕ, ◌+◌, ◌≤◌, ◌<◌}
use mathlib.Core.Bool.{Bool, true, false, ◌&&◌, true≢false, false≢true}
use mathlib.Core.List.Memᴰ
use mathlib.Core.List.{List, [], ◌∷◌, ◌++◌, map, map-append, Memᴰ}
use mathlib.Core.Path.{◌≡◌, refl, sym, ap, subst, ◌∙◌}
use native.Mathlib.Omega.{arith}
use native.Mathlib.Numerals.{add-one}
use lib.ListN.{length, take, set, length-append, length-set}
use lib.Seq.{take-suc-set}
use Rattle.std.specs.Prelude.{Option, Some, None, Result, Ok}
use Rattle.text.specs.declared.Place.{Place}
use Rattle.text.specs.Places.{front, moved_by, put_at}
use Rattle.printed.proofs.AddingLaws.{adds_put, adds_page}
use Rattle.figures.specs.Figures.{figure_of}
use Rattle.fleet.specs.declared.Summary.{Summary}
use Rattle.fleet.specs.Figures.{summary_of}
use Rattle.fleetlines.specs.Lines.{summary_line}
use Rattle.fleetlines.proofs.LineLaws.{line-most}
use Rattle.spurfleet.specs.declared.Untold.{Untold}
use Rattle.spurfleet.specs.Words.{is_figure, with_figure, Say, Amiss, Given, Prints, line, amiss, many}

-- ---- the words
-- the words before word `next` are taken in, and there are `count` in all
pub record Taking (count next : ℕ) (numbers : List ℕ) (good : Bool) : Type 0 where
  pub words : List (List ℕ)
  pub size : length words ≡ next
  pub upto : next ≤ count
  pub room : count ≤ length numbers
  pub each : good ≡ true → Say words (take next numbers)
  pub wrong : good ≡ false → Amiss words

pub taking_start : (count : ℕ) (numbers : List ℕ) → count ≤ length numbers → Taking count 0 numbers true
taking_start count numbers h =
    record { words = []; size = refl; upto = omega arith; room = h; each = λ _. refl; wrong = λ e. absurd (true≢false e) }

module _ (count next : ℕ) (numbers : List ℕ) (good : Bool) (word : List ℕ) (t : Taking count next numbers good) (h : next < count) where
  -- one word more, in what the words say
  more : map figure_of (t.words ++ (word ∷ [])) ≡ map figure_of t.words ++ (figure_of word ∷ [])
  more = map-append figure_of t.words (word ∷ [])

  more-size : length (t.words ++ (word ∷ [])) ≡ next + 1
  more-size = let e = length-append t.words (word ∷ []) in let s = t.size in omega arith

  with_number : (n : ℕ) → Some n ≡ figure_of word → Taking count (next + 1) (set numbers next n) good
  with_number n e =
      let room = t.room in
      record {
        words = t.words ++ (word ∷ []);
        size = more-size;
        upto = omega arith;
        room = rw length-set room;
        each = λ g.
            more
            ∙ ap (λ (l : List (Option ℕ)). l ++ (figure_of word ∷ [])) (t.each g)
            ∙ ap (λ (x : Option ℕ). map Some (take next numbers) ++ (x ∷ [])) (sym e)
            ∙ sym (map-append Some (take next numbers) (n ∷ []))
            ∙ ap (map Some) (sym (ap (λ (k : ℕ). take k (set numbers next n)) (add-one next) ∙ take-suc-set numbers next n (omega arith)));
        wrong = λ g. subst (Memᴰ None) (sym more) (Memᴰ.append_left (figure_of word ∷ []) (t.wrong g));
      }

  without : None ≡ figure_of word → Taking count (next + 1) numbers false
  without e =
      record {
        words = t.words ++ (word ∷ []);
        size = more-size;
        upto = omega arith;
        room = t.room;
        each = λ g. absurd (false≢true g);
        wrong = λ _. subst (Memᴰ None) (sym more) (Memᴰ.append_right (map figure_of t.words) (Memᴰ.head e));
      }

  pub taking_on : (figure : Option ℕ) (kept : Bool) (after : List ℕ) → figure ≡ figure_of word
      → (kept ≡ is_figure figure) × (after ≡ with_figure numbers next figure) → Taking count (next + 1) after (kept && good)
  taking_on (Some n) kept after e k = rw (k.0, k.1) (with_number n e)
  taking_on None kept after e k = rw (k.0, k.1) (without e)

pub taking_end : (count next : ℕ) (numbers : List ℕ) (good : Bool) → Taking count next numbers good → count ≤ next → Given count numbers good
taking_end count next numbers good t h =
    let same : next ≡ count = (let u = t.upto in omega arith) in
    record { words = t.words; size = t.size ∙ same; each = λ g. t.each g ∙ ap (λ (k : ℕ). map Some (take k numbers)) same; amiss = t.wrong }

-- ---- the line
pub told_line : (count : ℕ) (text after numbers : List ℕ) (good : Bool) (s : Summary) (p q : Place)
    → length text ≡ 192 → count ≤ 4096 → Given count numbers good → good ≡ true → s ≡ summary_of (take count numbers) → p ≡ front
    → (q ≡ moved_by (length text) p (length (summary_line s))) × (after ≡ put_at text p (summary_line s)) → Prints count after (Ok q.at)
told_line count text after numbers good s p q size few g is se pe e =
    let made = adds_page pe (adds_put e) (let m = line-most s in omega arith) in
    line q.at g.words (take count numbers) few g.size (g.each is) made.within (made.text ∙ ap summary_line se)

-- what is printed stands in the text
pub line-within : (count : ℕ) (text : List ℕ) (said : Result ℕ Untold) (n : ℕ) → Prints count text said → said ≡ Ok n → n ≤ length text
line-within count text _ n (line m _ _ _ _ _ within _) e = let same : m ≡ n = cc in omega arith
line-within count text _ n (amiss _ _ _ _) e = let z : ◌≡◌ {A = ℕ} 0 1 = cc in absurd (omega arith)
line-within count text _ n (many _) e = let z : ◌≡◌ {A = ℕ} 0 1 = cc in absurd (omega arith)
