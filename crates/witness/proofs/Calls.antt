-- What the calls put together is what the definitions say. Assumes nothing.
use Prim.Native.Nat.{ℕ, ◌-◌}
use mathlib.Core.Bool.{true, false}
use mathlib.Core.List.{List, ◌++◌}
use mathlib.Core.Path.{◌≡◌, sym, ap, ◌∙◌}
use native.Mathlib.Omega.{arith}
use lib.ListN.{length}
use lib.Seq.{take_all}
use borrow.Author.Tests.{le-ltb}
use Rattle.basics.proofs.Bools.{cond-true, cond-false}
use Rattle.record.specs.declared.Record.{Record}
use Rattle.record.specs.Layout.{record_in, spare_in}
use Rattle.record.specs.Packing.{too_few, lines_of, spare_of}
use Rattle.rules.specs.declared.Broken.{Broken}
use Rattle.rules.specs.declared.Judge.{Judge}
use Rattle.rules.specs.Names.{rule_in}
use Rattle.rules.specs.State.{diff_of}
use Rattle.rules.specs.Recording.{sixteen}
use Rattle.feeding.specs.declared.Stop.{Stop}
use Rattle.feeding.specs.declared.Stop.TheVariants.{AtBreach}
use Rattle.feeding.specs.declared.Stream.{Stream}
use Rattle.feeding.specs.declared.Ending.{Ending}
use Rattle.feeding.specs.State.{goes, padded, torn_of, feed_of, finish_of}
use Rattle.why.specs.declared.Figures.{Figures}
use Rattle.why.specs.Figures.{figures_of}
use Rattle.witness.specs.declared.Witness.{Witness}
use Rattle.witness.specs.declared.Reason.{Reason}
use Rattle.witness.specs.State.{broken_figures, figures_by, caught_in, note_of, reason_in}

-- ---- the record that sixteen bytes hold
lines_are : (bytes : List ℕ) → length bytes ≡ 16 → lines_of bytes ≡ record_in bytes
unfolding lines_of too_few
lines_are bytes long = cond-false _ _ (le-ltb (length bytes) 16 (omega arith)) ∙ ap record_in (take_all 16 bytes (omega arith))

spare_is : (bytes : List ℕ) → length bytes ≡ 16 → spare_of bytes ≡ spare_in bytes
unfolding spare_of too_few
spare_is bytes long = cond-false _ _ (le-ltb (length bytes) 16 (omega arith)) ∙ ap spare_in (take_all 16 bytes (omega arith))

pub broken_as : (b : Broken) (j : Judge) (bytes : List ℕ) (lines : Record) (spare d : ℕ) (f : Figures) → length bytes ≡ 16 → lines ≡ lines_of bytes → spare ≡ spare_of bytes → d ≡ diff_of j lines.stamp
    → f ≡ figures_of (rule_in b) j (record { lines = lines; spare = spare }) d → f ≡ broken_figures b j bytes
unfolding broken_figures
broken_as b j bytes lines spare d f long le se de fe =
    fe
    ∙ ap (λ (k : ℕ). figures_of (rule_in b) j (record { lines = lines; spare = spare }) k) de
    ∙ ap (λ (k : ℕ). figures_of (rule_in b) j (record { lines = lines; spare = k }) (diff_of j lines.stamp)) (se ∙ spare_is bytes long)
    ∙ ap (λ (x : Record). figures_of (rule_in b) j (record { lines = x; spare = spare_in bytes }) (diff_of j x.stamp)) (le ∙ lines_are bytes long)

-- the record at a breach
pub caught_as : (stop : Stop) (b : Broken) (n at : ℕ) (all bytes : List ℕ) → stop ≡ AtBreach b → at ≡ b.place - n → bytes ≡ padded (sixteen all at) → bytes ≡ caught_in stop n all
caught_as stop b n at all bytes se ae be = be ∙ ap (λ (k : ℕ). padded (sixteen all k)) ae ∙ sym (ap (λ (s : Stop). caught_in s n all) se)

-- ---- the calls
pub note_as : (w : Witness) (piece : List ℕ) (next : Stream) (bytes : List ℕ) → goes w.stream.stop ≡ true → next ≡ feed_of w.stream piece
    → bytes ≡ caught_in next.stop w.stream.tally.records (torn_of w.stream ++ piece) → ◌≡◌ {A = Witness} (record { stream = next; bytes = bytes }) (note_of w piece)
unfolding note_of
note_as w piece next bytes going is be =
    ap (λ (l : List ℕ). record { stream = next; bytes = l }) be
    ∙ ap (λ (s : Stream). record { stream = s; bytes = caught_in s.stop w.stream.tally.records (torn_of w.stream ++ piece) }) is
    ∙ sym (cond-true _ _ going)

pub note_ended : (w : Witness) (piece : List ℕ) → goes w.stream.stop ≡ false → w ≡ note_of w piece
unfolding note_of
note_ended w piece e = sym (cond-false _ _ e)

pub finish_as : (w : Witness) (e : Ending) (f : Figures) → e ≡ finish_of w.stream → f ≡ figures_by e.verdict w.stream.judge w.bytes → ◌≡◌ {A = Reason} (record { ending = e; figures = f }) (reason_in w)
unfolding reason_in
finish_as w e f ee fe =
    ap (λ (x : Figures). record { ending = e; figures = x }) fe
    ∙ ap (λ (x : Ending). record { ending = x; figures = figures_by x.verdict w.stream.judge w.bytes }) ee
