-- Document 01: "Encoding and decoding undo each other; each operation (direction, unit, address) has exactly one code."
-- And the ACK status with its lines both ways. Assumes nothing.
use Prim.Native.Nat.{ℕ, ◌+◌, ◌-◌, ◌*◌, ◌%◌, ◌<◌, ◌^◌}
use mathlib.Core.Path.{◌≡◌, refl, sym, ◌∙◌, ap}
use mathlib.Core.Bool.{Bool, true, false}
use native.Mathlib.Omega.{arith}
use lib.Dec.{eqb}
use lib.Pow.{mod-pow-add}
use Rattle.basics.specs.Lines.{bit, active}
use Rattle.basics.specs.Answers.{accepted, refused}
use Rattle.basics.proofs.Bools.{choice, by-test}
use Rattle.basics.proofs.Bits.{active-bit, inactive_bit}
use borrow.Author.Tests.{eqb-true, eqb-false}
use Rattle.codes.specs.declared.Unit.{Unit}
use Rattle.codes.specs.declared.Unit.TheVariants.{Byte, Halfword, Word, Two, Four, Eight, Sixteen}
use Rattle.std.specs.Prelude.{Option, Some, None}
use Rattle.codes.specs.declared.Operation.{Operation}
use Rattle.codes.specs.declared.Code.{Code}
use Rattle.codes.specs.declared.Status.{Status}
use Rattle.codes.specs.declared.Status.TheVariants.{Success, Error, Timeout, Again}
use Rattle.codes.specs.declared.Meaning.{Meaning}
use Rattle.codes.specs.Units.{bytes_in, byte_unit, mark_of}
use Rattle.codes.specs.Lanes.{with_lanes}
use Rattle.codes.specs.Start.{unit_of, block_of, meaning, decode_of, encode_of}
use Rattle.codes.specs.Ack.{status_of, status_lines_of}
use Rattle.codes.proofs.Laws.{line_on, line_off, is_two, is_four, is_eight, is_sixteen, code_of, aligned, unaligned, mark-fits}

-- the lines of a START mean an operation, and beside it its lanes
abbrev pub Means : Code → Operation → Type 0
Means code op = decode_of code.tm1 code.tm0 code.ad ≡ accepted (with_lanes op)

-- "The address has the unit's low bits zero"
abbrev pub Aligned : Operation → Type 0
Aligned op = op.address % bytes_in op.unit ≡ 0

-- an aligned address with its unit's mark has that unit's lines
unit_back : (u : Unit) (a : ℕ) → a % bytes_in u ≡ 0 → unit_of (byte_unit u) (a + mark_of u) ≡ Some u
unfolding unit_of
unit_back Byte a h = refl
unit_back Halfword a h = rw (line_on 0 (a + 1) (omega arith))
unit_back Word a h = rw (line_off 0 (a + 0) (omega arith), line_off 1 (a + 0) (omega arith))
unit_back Two a h =
    rw (line_off 0 (a + 2) (omega arith), line_on 1 (a + 2) (omega arith))
    (is_two (a + 2) (line_off 2 (a + 2) (omega arith)))
unit_back Four a h =
    rw (line_off 0 (a + 6) (omega arith), line_on 1 (a + 6) (omega arith))
    (is_four (a + 6) (line_on 2 (a + 6) (omega arith)) (line_off 3 (a + 6) (omega arith)))
unit_back Eight a h =
    rw (line_off 0 (a + 14) (omega arith), line_on 1 (a + 14) (omega arith))
    (is_eight (a + 14) (line_on 2 (a + 14) (omega arith)) (line_on 3 (a + 14) (omega arith)) (line_off 4 (a + 14) (omega arith)))
unit_back Sixteen a h =
    rw (line_off 0 (a + 30) (omega arith), line_on 1 (a + 30) (omega arith))
    (is_sixteen (a + 30)
    (line_on 2 (a + 30) (omega arith))
    (line_on 3 (a + 30) (omega arith))
    (line_on 4 (a + 30) (omega arith))
    (line_off 5 (a + 30) (omega arith)))

address_back : (u : Unit) (a : ℕ) → a % bytes_in u ≡ 0 → a + mark_of u - (a + mark_of u) % bytes_in u ≡ a
address_back Byte a h = omega arith
address_back Halfword a h = omega arith
address_back Word a h = omega arith
address_back Two a h = omega arith
address_back Four a h = omega arith
address_back Eight a h = omega arith
address_back Sixteen a h = omega arith

-- what the code of an aligned operation means
pub code_means : (op : Operation) → Aligned op → Means (code_of op) op
unfolding decode_of
code_means op h =
    ap (meaning op.write (op.address + mark_of op.unit)) (unit_back op.unit op.address h)
    ∙ ap (λ (a : ℕ). accepted (with_lanes (record { write = op.write; unit = op.unit; address = a }))) (address_back op.unit op.address h)

-- an accepted answer is no refusal, and says its value
pub same-value : {A : Type 0} {v w : A} → accepted v ≡ accepted w → v ≡ w
same-value e = ap (λ a. a.value) e

pub never : {A : Type 0} {v z : A} → refused 4 z ≡ accepted v → ⊥
never e = let n : ◌≡◌ {A = ℕ} 4 0 = ap (λ a. a.number) e in omega arith

-- what is encoded is aligned
pub encoded_aligned : (op : Operation) (code : Code) → encode_of op ≡ accepted code → Aligned op
encoded_aligned op code e =
    by-test (eqb (op.address % bytes_in op.unit) 0)
    (λ t. eqb-true _ _ t)
    (λ t. absurd (never (sym (unaligned op (eqb-false _ _ t)) ∙ e)))

-- decoding undoes encoding
pub decoding_undoes_encoding : (op : Operation) (code : Code) → encode_of op ≡ accepted code → Means code op
decoding_undoes_encoding op code e =
    let h = encoded_aligned op code e in
    let same : code_of op ≡ code = same-value (sym (aligned op h) ∙ e) in
    ap (λ (c : Code). decode_of c.tm1 c.tm0 c.ad) (sym same) ∙ code_means op h

-- the low lines of AD are the mark of the unit that they say; of a code with no meaning there is nothing to say
abbrev Marked : Bool → ℕ → Option Unit → Type 0
Marked tm0 ad (Some u) = (tm0 ≡ byte_unit u) × (ad % bytes_in u ≡ mark_of u)
Marked tm0 ad None = ad ≡ ad

-- one line more of the remainder
more_on : (k ad r : ℕ) → active k ad ≡ true → ad % 2 ^ k ≡ r → ad % 2 ^ (1 + k) ≡ 1 * 2 ^ k + r
unfolding bit
more_on k ad r h e = mod-pow-add ad 1 k ∙ rw (active-bit k ad h, e)

more_off : (k ad r : ℕ) → active k ad ≡ false → ad % 2 ^ k ≡ r → ad % 2 ^ (1 + k) ≡ 0 * 2 ^ k + r
unfolding bit
more_off k ad r h e = mod-pow-add ad 1 k ∙ rw (inactive_bit k ad h, e)

block_marked : (ad : ℕ) → ad % 4 ≡ 2 → Marked false ad (block_of ad)
unfolding block_of
block_marked ad m2 =
    choice (Marked false ad) (active 2 ad)
    (λ h2.
    let m3 = more_on 2 ad 2 h2 m2 in
    choice (Marked false ad) (active 3 ad)
    (λ h3.
    let m4 = more_on 3 ad 6 h3 m3 in
    choice (Marked false ad) (active 4 ad)
    (λ h4.
    let m5 = more_on 4 ad 14 h4 m4 in
    choice (Marked false ad) (active 5 ad) (λ h5. refl) (λ h5. (refl, more_off 5 ad 30 h5 m5)))
    (λ h4. (refl, more_off 4 ad 14 h4 m4)))
    (λ h3. (refl, more_off 3 ad 6 h3 m3)))
    (λ h2. (refl, more_off 2 ad 2 h2 m2))

marked : (tm0 : Bool) (ad : ℕ) → Marked tm0 ad (unit_of tm0 ad)
unfolding unit_of
marked true ad = (refl, omega arith)
marked false ad =
    choice (Marked false ad) (active 0 ad)
    (λ h0. (refl, more_on 0 ad 0 h0 (omega arith)))
    (λ h0.
    let m1 = more_off 0 ad 0 h0 (omega arith) in
    choice (Marked false ad) (active 1 ad)
    (λ h1. block_marked ad (more_on 1 ad 0 h1 m1))
    (λ h1. (refl, more_off 1 ad 0 h1 m1)))

-- taking a mark away leaves an aligned address, and adding it gives AD again
cleared : (u : Unit) (ad : ℕ) → ad % bytes_in u ≡ mark_of u → ((ad - ad % bytes_in u) % bytes_in u ≡ 0) × (ad - ad % bytes_in u + mark_of u ≡ ad)
cleared Byte ad e = omega arith
cleared Halfword ad e = omega arith
cleared Word ad e = omega arith
cleared Two ad e = omega arith
cleared Four ad e = omega arith
cleared Eight ad e = omega arith
cleared Sixteen ad e = omega arith

undone : (code : Code) (s : Option Unit) → Marked code.tm0 code.ad s → (op : Operation) → meaning code.tm1 code.ad s ≡ accepted (with_lanes op) → encode_of op ≡ accepted code
undone code (Some u) m op e =
    let z = cleared u code.ad m.1 in
    ap encode_of (sym (ap (λ (m : Meaning). m.operation) (same-value e))) ∙ aligned _ z.0 ∙ rw (z.1, m.0)
undone code None m op e = absurd (never e)

-- encoding undoes decoding
pub encoding_undoes_decoding : (code : Code) (op : Operation) → Means code op → encode_of op ≡ accepted code
unfolding decode_of
encoding_undoes_decoding code op e = undone code (unit_of code.tm0 code.ad) (marked code.tm0 code.ad) op e

-- what a code means is aligned
pub meaning_aligned : (code : Code) (op : Operation) → Means code op → Aligned op
meaning_aligned code op e = encoded_aligned op code (encoding_undoes_decoding code op e)

-- two codes of one meaning are the same code
pub same_code : (a b : Code) (op : Operation) → Means a op → Means b op → a ≡ b
same_code a b op e f = same-value (sym (encoding_undoes_decoding a op e) ∙ encoding_undoes_decoding b op f)

-- an operation has exactly one code, and that stands on the 32 AD lines where its address does
pub record OneCode (op : Operation) : Type 0 where
  pub code : Code
  pub means : Means code op
  pub fits : op.address < 2 ^ 32 → code.ad < 2 ^ 32
  pub only : (other : Code) → Means other op → other ≡ code

-- "each operation (direction, unit, address) has exactly one code", its address being aligned to its unit; and no other has one (`meaning_aligned`)
pub exactly_one-code : (op : Operation) → Aligned op → OneCode op
exactly_one-code op h = record {
  code = code_of op;
  means = code_means op h;
  fits = λ l. mark-fits op.unit op.address l h;
  only = λ other e. same_code other (code_of op) op e (code_means op h);
}

-- the ACK's lines and its status undo each other
pub status_of_lines : (s : Status) → status_of (status_lines_of s).tm1 (status_lines_of s).tm0 ≡ s
status_of_lines Success = refl
status_of_lines Error = refl
status_of_lines Timeout = refl
status_of_lines Again = refl

pub lines_of_status : (tm1 tm0 : Bool) → status_lines_of (status_of tm1 tm0) ≡ record { tm1 = tm1; tm0 = tm0 }
lines_of_status true true = refl
lines_of_status true false = refl
lines_of_status false true = refl
lines_of_status false false = refl
