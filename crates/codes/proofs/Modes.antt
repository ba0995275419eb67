-- The sixteen transfer modes: each row of the table says what the lines of its START say. Assumes nothing.
use Prim.Native.Nat.{ℕ, zero, suc, ◌+◌, ◌-◌, ◌*◌, ◌%◌, ◌/◌, ◌^◌, ◌<◌}
use mathlib.Core.Path.{◌≡◌, refl, sym, ◌∙◌, ap, subst}
use mathlib.Core.Bool.{Bool, true, false, not}
use mathlib.Core.List.{List, [], ◌∷◌}
use native.Mathlib.Omega.{arith}
use native.Mathlib.Nat.{add-zero, zero-add, add-suc, suc-add, le_of_suc-le-suc, not-suc-le-zero}
use lib.ListN.{get_or}
use lib.Pow.{mod-pow-add}
use Rattle.basics.specs.Lines.{one, bit, active}
use Rattle.basics.specs.Answers.{Answer, accepted}
use Rattle.basics.proofs.Bits.{active-bit, inactive_bit, bit-active, bit_inactive}
use Rattle.codes.specs.declared.Unit.{Unit}
use Rattle.codes.specs.declared.Unit.TheVariants.{Byte, Halfword, Word}
use Rattle.codes.specs.declared.Kind as kind
use Rattle.codes.specs.declared.Mode.{Mode}
use Rattle.codes.specs.declared.Meaning.{Meaning}
use Rattle.codes.specs.Lanes.{lanes_of, with_lanes}
use Rattle.codes.specs.Start.{unit_of, decode_of}
use Rattle.codes.proofs.Laws.{below4}
use Rattle.codes.proofs.LaneLaws.{lanes_low}
use Rattle.codes.specs.Modes.{kind_of, offset_of, mode_of, mode_at, row_of, row_says, said_of}

-- a table is the list of a rule's values at i, i + 1, .., n of them: the one test of a whole table
abbrev pub values : {A : Type 0} → (ℕ → A) → ℕ → ℕ → List A
values f i zero = []
values f i (suc n) = f i ∷ values f (suc i) n

from : {A : Type 0} (f : ℕ → A) (n i k : ℕ) (d : A) → k < n → get_or (values f i n) k d ≡ f (i + k)
from f zero i k d h = absurd (not-suc-le-zero h)
from f (suc n) i zero d h = rw (add-zero i)
from f (suc n) i (suc k) d h = from f n (suc i) k d (le_of_suc-le-suc h) ∙ rw (add-suc, suc-add)

-- and the rule at each of its rows
pub row_at_lem : {A : Type 0} (f : ℕ → A) (n k : ℕ) (d : A) → k < n → get_or (values f 0 n) k d ≡ f k
row_at_lem f n k d h = from f n 0 k d h ∙ rw zero-add

-- AD1 and AD0 are the remainder by 4
low_0 : (ad : ℕ) → active 0 ad ≡ active 0 (ad % 4)
unfolding active bit
low_0 ad = let e : ad / 1 % 2 ≡ ad % 4 / 1 % 2 = omega arith in rw e

low_1 : (ad : ℕ) → active 1 ad ≡ active 1 (ad % 4)
unfolding active bit
low_1 ad = let e : ad / 2 % 2 ≡ ad % 4 / 2 % 2 = omega arith in rw e

-- the row of four lines is the one that stands for them
lines-row : (a b : Bool) (q : ℕ) → q < 4 → mode_at (15 - (8 * one a + 4 * one b + q)) ≡ mode_of a b (active 1 q) (active 0 q)
unfolding mode_at active bit
lines-row true true = below4 (λ q. mode_at (15 - (12 + q)) ≡ mode_of true true (active 1 q) (active 0 q)) refl refl refl refl
lines-row true false = below4 (λ q. mode_at (15 - (8 + q)) ≡ mode_of true false (active 1 q) (active 0 q)) refl refl refl refl
lines-row false true = below4 (λ q. mode_at (15 - (4 + q)) ≡ mode_of false true (active 1 q) (active 0 q)) refl refl refl refl
lines-row false false = below4 (λ q. mode_at (15 - (0 + q)) ≡ mode_of false false (active 1 q) (active 0 q)) refl refl refl refl

-- so every START's lines have their row
pub row_mode : (a b : Bool) (ad : ℕ) → mode_at (row_of a b ad) ≡ mode_of a b (active 1 ad) (active 0 ad)
row_mode a b ad = rw (low_1 ad, low_0 ad) (lines-row a b (ad % 4) (omega arith))

-- an offset stays within the word
offset_less : (b x y : Bool) → offset_of b x y < 4
offset_less true true true = omega arith
offset_less true true false = omega arith
offset_less true false true = omega arith
offset_less true false false = omega arith
offset_less false true true = omega arith
offset_less false true false = omega arith
offset_less false false true = omega arith
offset_less false false false = omega arith

pub row_offset : (tm1 tm0 : Bool) (ad : ℕ) (m : Mode) → m ≡ mode_of tm1 tm0 (active 1 ad) (active 0 ad) → m.2 < 4
row_offset tm1 tm0 ad m e = subst (λ (m : Mode). m.2 < 4) (sym e) (offset_less tm0 (active 1 ad) (active 0 ad))

-- AD modulo 4 from its two lines
low-two : (ad : ℕ) → ad % 4 ≡ bit 1 ad * 2 + bit 0 ad
unfolding bit
low-two ad = let e : ad % 2 ≡ ad / 1 % 2 = omega arith in mod-pow-add ad 1 1 ∙ ap (λ (r : ℕ). ad / 2 % 2 * 2 + r) e

low-lines : (x y : Bool) (ad : ℕ) → active 1 ad ≡ x → active 0 ad ≡ y → ad % 4 ≡ 2 * one x + one y
low-lines true true ad e f = omega (arith, low-two ad, active-bit 1 ad e, active-bit 0 ad f)
low-lines true false ad e f = omega (arith, low-two ad, active-bit 1 ad e, inactive_bit 0 ad f)
low-lines false true ad e f = omega (arith, low-two ad, inactive_bit 1 ad e, active-bit 0 ad f)
low-lines false false ad e f = omega (arith, low-two ad, inactive_bit 1 ad e, inactive_bit 0 ad f)

at_address : (w : Bool) (u : Unit) {a b : ℕ} → a ≡ b → ◌≡◌ {A = Answer Meaning} (accepted (with_lanes (record { write = w; unit = u; address = a }))) (accepted (with_lanes (record { write = w; unit = u; address = b })))
at_address w u e = ap (λ (a : ℕ). accepted (with_lanes (record { write = w; unit = u; address = a }))) e

-- what the lines of a START say is what their row says
lines_say : (tm1 tm0 ad1 ad0 : Bool) (ad : ℕ) → active 1 ad ≡ ad1 → active 0 ad ≡ ad0 → row_says (mode_of tm1 tm0 ad1 ad0) ad ≡ decode_of tm1 tm0 ad
unfolding decode_of unit_of
lines_say w true x y ad e f = at_address w Byte (omega (arith, low-lines x y ad e f))
lines_say w false true true ad e f = rw (e, f) (at_address w Halfword (omega (arith, low-lines true true ad e f)))
lines_say w false true false ad e f = rw (e, f)
lines_say w false false true ad e f = rw (e, f) (at_address w Halfword (omega (arith, low-lines false true ad e f)))
lines_say w false false false ad e f = rw (e, f) (at_address w Word (omega (arith, low-lines false false ad e f)))

-- so does the arm of the decoder to which a row's kind leads
pub arm_says : (tm1 tm0 : Bool) (ad : ℕ) (m : Mode) (k : kind.Kind) → m ≡ mode_of tm1 tm0 (active 1 ad) (active 0 ad) → m.1 ≡ k → said_of m ad k ≡ decode_of tm1 tm0 ad
arm_says tm1 tm0 ad m k e t =
    ap (said_of m ad) (sym t)
    ∙ ap (λ (m : Mode). row_says m ad) e
    ∙ lines_say tm1 tm0 (active 1 ad) (active 0 ad) ad refl refl

-- the lanes that the arms give: one, two or four of them from the row's offset on
abbrev Fits : kind.Kind → ℕ → Type 0
Fits kind.Kind.Byte offset = (1 * 2 ^ offset) % 256 ≡ lanes_of Byte offset
Fits kind.Kind.Halfword offset = (3 * 2 ^ offset) % 256 ≡ lanes_of Halfword offset
Fits kind.Kind.Word offset = 15 ≡ lanes_of Word offset
Fits kind.Kind.Block offset = offset ≡ offset

lanes_fit : (b x y : Bool) → Fits (kind_of b x y) (offset_of b x y)
unfolding lanes_of
lanes_fit true true true = refl
lanes_fit true true false = refl
lanes_fit true false true = refl
lanes_fit true false false = refl
lanes_fit false true true = refl
lanes_fit false true false = refl
lanes_fit false false true = refl
lanes_fit false false false = refl

arm_fits : (tm1 tm0 : Bool) (ad : ℕ) (m : Mode) (k : kind.Kind) → m ≡ mode_of tm1 tm0 (active 1 ad) (active 0 ad) → m.1 ≡ k → Fits k m.2
arm_fits tm1 tm0 ad m k e t =
    subst (λ (k : kind.Kind). Fits k m.2) t (subst (λ (m : Mode). Fits m.1 m.2) (sym e) (lanes_fit tm0 (active 1 ad) (active 0 ad)))

-- so the arm of a byte, halfword or word gives what the lines say
pub arm_means : (u : Unit) (tm1 tm0 : Bool) (ad l : ℕ) (m : Mode) (k : kind.Kind) → m ≡ mode_of tm1 tm0 (active 1 ad) (active 0 ad) → m.1 ≡ k
    → said_of m ad k ≡ accepted (with_lanes (record { write = m.0; unit = u; address = ad - ad % 4 + m.2 })) → (Fits k m.2 → l ≡ lanes_of u m.2)
    → accepted (record { operation = record { write = m.0; unit = u; address = ad - ad % 4 + m.2 }; lanes = l }) ≡ decode_of tm1 tm0 ad
arm_means u tm1 tm0 ad l m k e t s f =
    let o = row_offset tm1 tm0 ad m e in
    ap (λ (l : ℕ). accepted (record { operation = record { write = m.0; unit = u; address = ad - ad % 4 + m.2 }; lanes = l }))
    (f (arm_fits tm1 tm0 ad m k e t) ∙ lanes_low u m.2 (ad - ad % 4 + m.2) (omega arith))
    ∙ sym s
    ∙ arm_says tm1 tm0 ad m k e t

-- a line that is active where a bit of the row's number is not
opposite : (i k ad : ℕ) → bit i ad + bit i k ≡ 1 → active i ad ≡ not (active i k)
opposite i k ad h = go (active i k) refl
  where
    go : (t : Bool) → active i k ≡ t → active i ad ≡ not t
    go true e = bit_inactive i ad (omega (arith, active-bit i k e))
    go false e = bit-active i ad (omega (arith, inactive_bit i k e))

-- "one table, in the specification's row order": row k stands for TM1 TM0 AD1 AD0 active where the bits 3 2 1 0 of k are not, and says
-- what a START with these four lines says, whatever its other lines are
pub row-says : (k ad : ℕ) → k < 16 → ad % 4 ≡ 3 - k % 4 → row_says (mode_at k) ad ≡ decode_of (not (active 3 k)) (not (active 2 k)) ad
unfolding mode_at bit
row-says k ad h e =
    lines_say (not (active 3 k)) (not (active 2 k)) (not (active 1 k)) (not (active 0 k)) ad
    (opposite 1 k ad (omega arith))
    (opposite 0 k ad (omega arith))
