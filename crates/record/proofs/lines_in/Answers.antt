-- `record::lines_in` meets its contract: sixteen bytes are there, or none is read. Assumes nothing.
use mathlib.Core.Path.{◌≡◌, refl, sym, ◌∙◌}
use mathlib.Core.Bool.{false}
use borrow.Author.Rules.{rules}
use Rattle.basics.proofs.Bools.{cond-true, cond-false}
use Rattle.record.specs.Packing.{blank, lines_of}
use Rattle.record.specs.declared.Record.{Record}
use Rattle.record.proofs.Packing.{room}
use Rattle.record.proofs.lines_in.Goals as goal

-- what a derived `default` ensures, field by field, is `blank`
default_blank : (r : Record) → (r.stamp ≡ 0) × ((r.reset ≡ false) × ((r.rqst ≡ false) × ((r.arb ≡ 0) × ((r.start ≡ false) × ((r.ack ≡ false) × ((r.tm1 ≡ false) × ((r.tm0 ≡ false) × ((r.sp ≡ false) × ((r.spv ≡ false) × ((r.ad ≡ 0) × ((r.vtm1 ≡ false) × ((r.vtm0 ≡ false) × ((r.vack ≡ false) × ((r.vsack ≡ false) × (r.vad ≡ 0))))))))))))))) → r ≡ blank
default_blank r e = whole r ∙ rw (e.0, e.1.0, e.1.1.0, e.1.1.1.0, e.1.1.1.1.0, e.1.1.1.1.1.0, e.1.1.1.1.1.1.0, e.1.1.1.1.1.1.1.0, e.1.1.1.1.1.1.1.1.0, e.1.1.1.1.1.1.1.1.1.0, e.1.1.1.1.1.1.1.1.1.1.0, e.1.1.1.1.1.1.1.1.1.1.1.0, e.1.1.1.1.1.1.1.1.1.1.1.1.0, e.1.1.1.1.1.1.1.1.1.1.1.1.1.0, e.1.1.1.1.1.1.1.1.1.1.1.1.1.1.0, e.1.1.1.1.1.1.1.1.1.1.1.1.1.1.1)
  where
    whole : (r : Record) → r ≡ record { stamp = r.stamp; reset = r.reset; rqst = r.rqst; arb = r.arb; start = r.start; ack = r.ack; tm1 = r.tm1; tm0 = r.tm0; sp = r.sp; spv = r.spv; ad = r.ad; vtm1 = r.vtm1; vtm0 = r.vtm0; vack = r.vack; vsack = r.vsack; vad = r.vad }
    whole r = refl

pub returns-then-is_too_few : goal.returns-then-is_too_few
unfolding lines_of
returns-then-is_too_few c = default_blank _ (search (rules, c.default.ensures)) ∙ sym (cond-true _ _ (sym c.is_too_few.ensures ∙ c.if-is_too_few.true))

pub read_record-requires : goal.read_record-requires
read_record-requires c = room _ 0 (sym c.is_too_few.ensures ∙ c.if-is_too_few.false)

pub returns : goal.returns
unfolding lines_of
returns c = c.read_record.ensures ∙ sym (cond-false _ _ (sym c.is_too_few.ensures ∙ c.if-is_too_few.false))
