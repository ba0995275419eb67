-- `text::put_word` meets its contract. Assumes nothing.
use Prim.Native.Nat.{◌+◌, ◌-◌, ◌≤◌}
use mathlib.Core.Path.{◌≡◌, refl, sym, ap, ◌∙◌}
use mathlib.Core.Bool.{true}
use native.Mathlib.Omega.{arith}
use lib.ListN.{length, drop, length-drop}
use lib.Seq.{length-take-le}
use Rattle.std.proofs.lemmas.Slice.{put_mid-paste}
use Rattle.text.specs.declared.Place.{Place}
use Rattle.text.specs.Places.{fits}
use Rattle.text.proofs.PlaceLaws.{fits_said, fits-within, moved_on, put_paste, put_there, put_nowhere}
use Rattle.text.proofs.put_word.Goals.{Then-end}
use Rattle.text.proofs.put_word.Goals as goal

-- the word has room where it is copied
room_at : (c : Then-end) → let a = c.args in fits (length a.buffer.now) a.place (length a.word.now) ≡ true
room_at c = fits_said _ _ _ c.moved-end.ensures c.if-end.true

-- from the place to where it ends
end_at : (c : Then-end) → let a = c.args in (c.moved-end.result.at ≡ a.place.at + length a.word.now) × (a.place.at + length a.word.now ≤ length a.buffer.now)
end_at c = (
  ap (λ (q : Place). q.at) (c.moved-end.ensures ∙ moved_on _ _ _ (room_at c)),
  fits-within _ _ _ (room_at c),
)

pub slice_bounds-copy_from_slice-count : goal.slice_bounds-copy_from_slice-count
slice_bounds-copy_from_slice-count c = let e = end_at (goal.at.slice_bounds-copy_from_slice-count c).Then-end in omega (arith, e.0)

pub slice_bounds-copy_from_slice-start : goal.slice_bounds-copy_from_slice-start
slice_bounds-copy_from_slice-start c = let e = end_at (goal.at.slice_bounds-copy_from_slice-start c).Then-end in omega (arith, e.0, e.1)

pub slice_bounds-copy_from_slice-end : goal.slice_bounds-copy_from_slice-end
slice_bounds-copy_from_slice-end c = let e = end_at (goal.at.slice_bounds-copy_from_slice-end c).Then-end in omega (arith, e.0, e.1)

pub copy_from_slice-requires : goal.copy_from_slice-requires
copy_from_slice-requires c = let a = c.args in
    let e = end_at (goal.at.copy_from_slice-requires c).Then-end in
    length-take-le (c.moved-end.result.at - a.place.at) (drop a.place.at a.buffer.now) (simp length-drop (omega (arith, e.0, e.1))) ∙ omega (arith, e.0)

pub returns-then-end : goal.returns-then-end
returns-then-end c = let a = c.args in
    let t = (goal.at.returns-then-end c).Then-end in
    let e = end_at t in (
      c.moved-end.ensures,
      put_mid-paste a.place.at _ a.buffer.now _ a.word.now (length a.word.now) c.copy_from_slice.ensures.after (omega (arith, e.0)) refl
          ∙ put_paste a.buffer.now a.place a.word.now
          ∙ sym (put_there _ _ _ (room_at t)),
    )

pub returns-else-end : goal.returns-else-end
returns-else-end c = (c.moved-end.ensures, sym (put_nowhere _ _ _ (fits_said _ _ _ c.moved-end.ensures c.if-end.false)))
