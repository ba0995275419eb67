-- `phases::take_in` meets its contract. Assumes nothing.
use Prim.Native.Nat.{◌-◌, ◌<◌}
use borrow.Author.Rules.{rules}
use mathlib.Core.Path.{refl, sym, ◌∙◌}
use native.Mathlib.Omega.{arith}
use Rattle.marks.proofs.Onward.{fed_over}
use Rattle.phases.proofs.Calls.{bounded}
use Rattle.phases.proofs.Parts.{few, short_is, through_needs, both_parts}
use Rattle.phases.proofs.take_in.Goals as goal

pub returns-then-not-is_under_way : goal.returns-then-not-is_under_way
returns-then-not-is_under_way c = sym (fed_over c.args.phases c.args.piece.now (sym c.is_under_way.ensures ∙ c.if-not-is_under_way.true))

pub overflow_sub-lacking : goal.overflow_sub-lacking
overflow_sub-lacking c = let z : c.args.phases.stream.held < 16 = few c.args.phases (bounded c.args.phases c.requires).fit (sym c.is_under_way.ensures ∙ c.if-not-is_under_way.false) in omega arith

pub fed-next-requires : goal.fed-next-requires
fed-next-requires c = (bounded c.args.phases c.requires).fit.0

pub returns-then-piece-lacking : goal.returns-then-piece-lacking
returns-then-piece-lacking c = short_is c.args.phases (bounded c.args.phases c.requires).fit (sym c.is_under_way.ensures ∙ c.if-not-is_under_way.false) c.args.piece.now c.fed-next.result _ (search rules) (omega arith) c.fed-next.ensures refl

pub first_record-first-requires : goal.first_record-first-requires
first_record-first-requires c = ((bounded c.args.phases c.requires).fit, ((sym c.is_under_way.ensures ∙ c.if-not-is_under_way.false), omega arith))

pub go_through-requires : goal.go_through-requires
go_through-requires c = through_needs c.args.phases (bounded c.args.phases c.requires).fit (sym c.is_under_way.ensures ∙ c.if-not-is_under_way.false) (search rules) c.args.piece.now (omega arith) (16 - c.args.phases.stream.held) c.first_record-first.result refl c.first_record-first.ensures

pub returns : goal.returns
returns c = both_parts c.args.phases (bounded c.args.phases c.requires).fit (sym c.is_under_way.ensures ∙ c.if-not-is_under_way.false) (search rules) c.args.piece.now (omega arith) (16 - c.args.phases.stream.held) c.first_record-first.result c.go_through.result refl c.first_record-first.ensures c.go_through.ensures
