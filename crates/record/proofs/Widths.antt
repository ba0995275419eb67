-- Laws of "a field wider than its bits". Assumes nothing.
use Prim.Native.Nat.{ℕ, ◌^◌, ◌<◌}
use mathlib.Core.Path.{◌≡◌, refl}
use mathlib.Core.List.{List, [], ◌∷◌}
use mathlib.Core.Bool.{Bool, true, false, ◌||◌, true≢false}
use native.Mathlib.Omega.{arith}
use borrow.Author.Tests.{lt-leb, leb-false}
use lib.Dec.{leb}
use lib.ListN.{length}
use Rattle.basics.specs.Lines.{one}
use Rattle.record.specs.Layout.{fields, values}
use Rattle.record.specs.Packing.{wider_than, too_wide}
use Rattle.record.specs.declared.Record.{Record}
use Rattle.record.proofs.Digits.{Fit}

or-false : (a b : Bool) → a || b ≡ false → (a ≡ false) × (b ≡ false)
or-false true b e = absurd (true≢false e)
or-false false b e = (refl, e)

-- values none of which is too wide fit
narrow_fit : (ws vs : List ℕ) → length ws ≡ length vs → wider_than ws vs ≡ false → Fit ws vs
narrow_fit [] [] h e = tt
narrow_fit [] (v ∷ vs) h e = absurd (omega arith)
narrow_fit (w ∷ ws) [] h e = absurd (omega arith)
narrow_fit (w ∷ ws) (v ∷ vs) h e =
    let o = or-false (leb (2 ^ w) v) (wider_than ws vs) e in
    (leb-false (2 ^ w) v o.0, narrow_fit ws vs (omega arith) o.1)

-- of a record's fields
pub fit : (r : Record) → too_wide r ≡ false → Fit fields (values r)
unfolding too_wide
fit r e = narrow_fit fields (values r) refl e

pub one-lt : (t : Bool) → one t < 2
one-lt true = omega arith
one-lt false = omega arith

one_narrow : (t : Bool) → leb 2 (one t) ≡ false
one_narrow t = lt-leb 2 (one t) (one-lt t)

or-none : (a : Bool) → a || false ≡ a
or-none true = refl
or-none false = refl

-- only ARB and VAD can be too wide where the types of the code hold the others to their bits
pub too_wide_is : (r : Record) → r.stamp < 2 ^ 32 → r.ad < 2 ^ 32 → too_wide r ≡ leb 16 r.arb || leb (2 ^ 33) r.vad
unfolding too_wide
too_wide_is r hs ha = rw (lt-leb (2 ^ 32) r.stamp hs, lt-leb (2 ^ 32) r.ad ha) (simp (one_narrow, or-none))

-- the bounds that the writer's casts want
pub arb-lt : (r : Record) → too_wide r ≡ false → r.arb < 16
arb-lt r e = (fit r e).1.1.1.0

pub vad_lt : (r : Record) → too_wide r ≡ false → r.vad < 2 ^ 33
vad_lt r e = (fit r e).1.1.1.1.1.1.1.1.1.1.1.1.1.1.1.0
