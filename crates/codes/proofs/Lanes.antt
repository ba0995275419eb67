-- The wish's sentences on lanes (document 02, wish 4), of every meaning that the decoder gives. Assumes nothing.
use Prim.Native.Nat.{ℕ, ◌+◌, ◌*◌, ◌%◌, ◌^◌, ◌<◌}
use mathlib.Core.Path.{◌≡◌, refl, sym, ◌∙◌, ap, subst}
use mathlib.Core.Logic.{◌↔◌}
use mathlib.Core.Bool.{Bool, false, ◌&&◌, ◌||◌}
use native.Mathlib.Omega.{arith}
use Rattle.basics.specs.Lines.{bit, active, active_below}
use Rattle.basics.specs.Answers.{accepted}
use Rattle.codes.specs.declared.Unit.{Unit}
use Rattle.codes.specs.declared.Unit.TheVariants.{Byte, Halfword, Word, Two, Four, Eight, Sixteen}
use Rattle.std.specs.Prelude.{Option, Some, None}
use Rattle.codes.specs.declared.Code.{Code}
use Rattle.codes.specs.declared.Meaning.{Meaning}
use Rattle.codes.specs.Units.{bytes_in, words_in}
use Rattle.codes.specs.Lanes.{lanes_of, with_lanes, lane_count, Carried, Halves}
use Rattle.codes.specs.Start.{unit_of, meaning, decode_of}
use Rattle.codes.proofs.Laws.{below4}
use Rattle.codes.proofs.LaneLaws.{lanes_low, byte_lane, word-carries, words_lanes, four_lanes, lane-carries, only-word}
use Rattle.codes.proofs.BothWays.{same-value, never, meaning_aligned}

-- ---- of each unit at an aligned address
-- an even number below 4
even4 : (P : ℕ → Type 0) → P 0 → P 2 → (q : ℕ) → q < 4 → q % 2 ≡ 0 → P q
even4 P a b = below4 (λ q. q % 2 ≡ 0 → P q) (λ _. a) (λ e. absurd (omega arith)) (λ _. b) (λ e. absurd (omega arith))

-- a unit of another size is another unit
other : {A : Type 0} (u v : Unit) → u ≡ v → (bytes_in u ≡ bytes_in v → ⊥) → A
other u v e differ = absurd (differ (ap bytes_in e))

-- units of n words
words_carried : (w : Bool) (u : Unit) (a n : ℕ) → bytes_in u ≡ 4 * n → words_in u ≡ n → lane_count u ≡ 4 → 0 < n → a % 4 ≡ 0 → Carried (record { write = w; unit = u; address = a }) (lanes_of u a)
unfolding active_below bit active
words_carried w u a n b c l some z =
    let all : lanes_of u a ≡ 15 = words_lanes u n a b some z in
    record {
      lane = λ j k h k4. lane-carries u a k k4 ∙ word-carries u n a 0 k b z some k4 ∙ sym (word-carries u n a j k b z (rw c at h) k4);
      four = four_lanes u a;
      many = ap (active_below 4) all ∙ sym l;
      byte = λ e. other u Byte e (λ t. omega arith);
      halfword0 = λ e. other u Halfword e (λ t. omega arith);
      halfword1 = λ e. other u Halfword e (λ t. omega arith);
      words = λ _. all;
    }

carried : (w : Bool) (u : Unit) (a : ℕ) → a % bytes_in u ≡ 0 → Carried (record { write = w; unit = u; address = a }) (lanes_of u a)
unfolding lanes_of active_below bit active
carried w Byte a h = record {
  lane = only-word Byte a;
  four = four_lanes Byte a;
  many = ap (active_below 4) (byte_lane a) ∙ below4 (λ q. active_below 4 (2 ^ q) ≡ 1) refl refl refl refl (a % 4) (omega arith);
  byte = λ _. byte_lane a;
  halfword0 = λ e. other Byte Halfword e (λ t. omega arith);
  halfword1 = λ e. other Byte Halfword e (λ t. omega arith);
  words = λ e. absurd (omega arith);
}
carried w Halfword a h = record {
  lane = only-word Halfword a;
  four = four_lanes Halfword a;
  many = ap (active_below 4) (lanes_low Halfword a (a % 4) (omega arith)) ∙ even4 (λ q. active_below 4 (lanes_of Halfword q) ≡ 2) refl refl (a % 4) (omega arith) (omega arith);
  byte = λ e. other Halfword Byte e (λ t. omega arith);
  halfword0 = λ _ q. lanes_low Halfword a 0 q;
  halfword1 = λ _ q. lanes_low Halfword a 2 q;
  words = λ e. absurd (omega arith);
}
carried w Word a h = words_carried w Word a 1 refl refl refl (omega arith) (omega arith)
carried w Two a h = words_carried w Two a 2 refl refl refl (omega arith) (omega arith)
carried w Four a h = words_carried w Four a 4 refl refl refl (omega arith) (omega arith)
carried w Eight a h = words_carried w Eight a 8 refl refl refl (omega arith) (omega arith)
carried w Sixteen a h = words_carried w Sixteen a 16 refl refl refl (omega arith) (omega arith)

-- ---- of every meaning that the decoder gives
-- beside an operation are the operation's lanes
pub lanes_beside : (code : Code) (m : Meaning) → decode_of code.tm1 code.tm0 code.ad ≡ accepted m → m ≡ with_lanes m.operation
unfolding decode_of
lanes_beside code m = go (unit_of code.tm0 code.ad)
  where
    go : (s : Option Unit) → meaning code.tm1 code.ad s ≡ accepted m → m ≡ with_lanes m.operation
    go (Some u) e =
        let same = same-value e in
        sym same ∙ ap (λ (x : Meaning). with_lanes x.operation) same
    go None e = absurd (never e)

-- THE WISH, of every code that has a meaning
pub lanes_right : (code : Code) (m : Meaning) → decode_of code.tm1 code.tm0 code.ad ≡ accepted m → Carried m.operation m.lanes
lanes_right code m e =
    let b = lanes_beside code m e in
    let op = m.operation in
    subst (Carried op) (sym (ap (λ (x : Meaning). x.lanes) b)) (carried op.write op.unit op.address (meaning_aligned code op (e ∙ ap accepted b)))

-- and a code without one has no lane; no other code has none
pub no_lanes : (tm1 tm0 : Bool) (ad : ℕ) → ((decode_of tm1 tm0 ad).value.lanes ≡ 0) ↔ ((decode_of tm1 tm0 ad).number ≡ 4)
unfolding decode_of active_below bit active
no_lanes tm1 tm0 ad = go (unit_of tm0 ad) (lanes_right (record { tm1 = tm1; tm0 = tm0; ad = ad }))
  where
    some_lanes : (u : Unit) → 0 < lane_count u
    some_lanes Byte = omega arith
    some_lanes Halfword = omega arith
    some_lanes Word = omega arith
    some_lanes Two = omega arith
    some_lanes Four = omega arith
    some_lanes Eight = omega arith
    some_lanes Sixteen = omega arith

    go : (s : Option Unit) → ((m : Meaning) → meaning tm1 ad s ≡ accepted m → Carried m.operation m.lanes) → ((meaning tm1 ad s).value.lanes ≡ 0) ↔ ((meaning tm1 ad s).number ≡ 4)
    go (Some u) right =
        let many = (right (meaning tm1 ad (Some u)).value refl).many in (
          λ z. let n : 0 ≡ lane_count u = sym (ap (active_below 4) z) ∙ many in absurd (omega (arith, some_lanes u)),
          λ (e : ◌≡◌ {A = ℕ} 0 4). absurd (omega arith),
        )
    go None right = (λ _. refl, λ _. refl)

-- the two halfwords of a word
pub halves : (a : ℕ) → a % 4 ≡ 0 → Halves a
unfolding lanes_of bit active
halves a z =
    let low : lanes_of Halfword a ≡ 3 = lanes_low Halfword a 0 z in
    let high : lanes_of Halfword (a + 2) ≡ 12 = lanes_low Halfword (a + 2) 2 (omega arith) in
    let word : lanes_of Word a ≡ 15 = words_lanes Word 1 a refl (omega arith) z in
    record {
      apart = rw (low, high) (below4 (λ k. (active k 3 && active k 12) ≡ false) refl refl refl refl);
      whole = rw (low, high, word) (below4 (λ k. (active k 3 || active k 12) ≡ active k 15) refl refl refl refl);
    }
