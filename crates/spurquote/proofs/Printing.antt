-- The text on the page is the line of the two numbers. Assumes nothing.
use Prim.Native.Nat.{ℕ, ◌/◌, ◌^◌, ◌<◌, ◌≤◌, min}
use mathlib.Core.Bool.{false}
use mathlib.Core.List.{List, ◌++◌}
use mathlib.Core.Path.{◌≡◌, refl, sym, ap, ◌∙◌}
use native.Mathlib.Omega.{arith}
use native.Mathlib.Decide.{dec_lt}
use lib.ListN.{length, drop, length-append}
use lib.Dec.{eqb}
use lib.Seq.{take_at}
use Rattle.std.specs.Prelude.{Option, Some, None}
use Rattle.basics.specs.Numbers.{lawful_limit}
use Rattle.basics.specs.Answers.{Answer, accepted, refused, refusal_number}
use Rattle.basics.specs.declared.refusal.Refusal.{Refusal}
use Rattle.basics.specs.declared.refusal.Refusal.TheVariants as refusals
use Rattle.basics.proofs.Bools.{choice, by-test, cond-false}
use Rattle.text.specs.declared.Place.{Place}
use Rattle.text.specs.Places.{front, moved_by, put_at}
use Rattle.text.proofs.PlaceLaws.{put_length, put_front, moved_front}
use Rattle.printed.specs.Lines.{refused_line}
use Rattle.printed.proofs.LineLaws.{most, refusal-most}
use Rattle.figures.specs.Times.{seconds_of}
use Rattle.figures.proofs.DigitLaws.{digits-length}
use Rattle.quote.specs.declared.Worst.{Worst}
use Rattle.quote.specs.Quotes.{no_worst, quote_of}
use Rattle.quote.proofs.Laws.{bad_slot, bad_limit}
use Rattle.reading.proofs.Narrow.{narrow_same, narrow_lawful}
use Rattle.spurquote.specs.Pages.{worst_line, answer_line, quote_line, Prints}

-- ---- how long a line is at most
seconds_most : (cycles : ℕ) → length (seconds_of cycles) ≤ 28
unfolding seconds_of
seconds_most cycles = simp length-append (omega (arith, most (cycles / 10 ^ 7), digits-length 10 7 cycles))

worst_most : (slot limit : ℕ) (w : Worst) → length (worst_line slot limit w) ≤ 256
unfolding worst_line
worst_most slot limit w =
    simp length-append (omega (arith, most slot, most limit, most w.others, most w.cycles, seconds_most w.cycles))

pub line-most : (slot limit : ℕ) → length (quote_line slot limit) ≤ 256
unfolding answer_line
line-most slot limit =
    let a : Answer Worst = quote_of slot limit in
    choice (λ (l : List ℕ). length l ≤ 256) (eqb a.number 0) (λ _. worst_most slot limit a.value) (λ _. let h = refusal-most a.number in omega arith)

-- ---- numbers that were narrowed
-- any number over 255 is refused as 255 is
pub quote_narrow : (slot limit s l : ℕ) → s ≡ min slot 255 → l ≡ min limit 255 → quote_of s l ≡ quote_of slot limit
quote_narrow slot limit s l se le = elim (dec_lt slot 16) [ yes h ↦ small h | no h ↦ sym (bad_slot s l (omega arith)) ∙ bad_slot slot limit (omega arith) ]
  where
    small : slot < 16 → quote_of s l ≡ quote_of slot limit
    small h =
        ap (λ (n : ℕ). quote_of n l) (let same : s ≡ slot = omega arith in same)
        ∙ by-test (lawful_limit l)
        (λ e. ap (quote_of slot) (sym (narrow_same limit l le e)))
        (λ e. sym (bad_limit slot l h e) ∙ bad_limit slot limit h (sym (narrow_lawful limit l le) ∙ e))

-- ---- the line of each answer
some_number : (r : Refusal) → eqb (refusal_number r) 0 ≡ false
some_number refusals.Length = refl
some_number refusals.Place = refl
some_number refusals.Value = refl
some_number refusals.Code = refl
some_number refusals.Bounds = refl
some_number refusals.Room = refl
some_number refusals.Incoherent = refl
some_number refusals.TooMany = refl
some_number refusals.Marks = refl

module _ (slot limit s l : ℕ) (se : s ≡ min slot 255) (le : l ≡ min limit 255) where
  pub worst_told : (w : Worst) → accepted w ≡ quote_of s l → worst_line slot limit w ≡ quote_line slot limit
  unfolding answer_line
  worst_told w e = ap (answer_line slot limit) (e ∙ quote_narrow slot limit s l se le)

  pub refusal_told : (r : Refusal) → refused (refusal_number r) no_worst ≡ quote_of s l → refused_line (refusal_number r) ≡ quote_line slot limit
  unfolding answer_line
  refusal_told r e = sym (cond-false _ _ (some_number r)) ∙ ap (answer_line slot limit) (e ∙ quote_narrow slot limit s l se le)

-- ---- what is printed
-- a text that stands whole at a buffer's front
pub prints : (given : Option (ℕ × ℕ)) (slot limit : ℕ) (buffer next : List ℕ) (q : Place) → given ≡ Some (slot, limit) → length buffer ≡ 256
    → (q ≡ moved_by (length buffer) front (length (quote_line slot limit))) × (next ≡ put_at buffer front (quote_line slot limit))
    → Prints given next (Some q.at)
unfolding Prints
prints given slot limit buffer next q a size e =
    let line = quote_line slot limit in
    let within : length line ≤ length buffer = omega (arith, line-most slot limit) in
    let at : q.at ≡ length line = ap (λ (p : Place). p.at) (e.0 ∙ moved_front buffer line within) in
    let whole : next ≡ line ++ drop (length line) buffer = e.1 ∙ put_front buffer line within in
    let long : length next ≡ length buffer = ap length e.1 ∙ put_length buffer front line in
    rw a (omega arith, rw (at, whole) (take_at line (drop (length line) buffer) (length line) refl))

pub prints_none : (given : Option (ℕ × ℕ)) (page : List ℕ) (said : Option ℕ) → given ≡ None → said ≡ None → Prints given page said
unfolding Prints
prints_none given page said a e = rw (a, e) tt

pub line-within : (given : Option (ℕ × ℕ)) (page : List ℕ) (n : ℕ) → Prints given page (Some n) → n ≤ length page
unfolding Prints
line-within (Some asked) page n h = h.0
line-within None page n h = absurd h
