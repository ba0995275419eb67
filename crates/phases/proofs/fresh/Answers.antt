-- `phases::fresh` meets its contract. Assumes nothing.
use mathlib.Core.Path.{sym, ◌∙◌}
use native.Mathlib.Omega.{arith}
use Rattle.std.proofs.lemmas.Result.{err_from_is_err_and}
use Rattle.phases.proofs.Calls.{some-few, refused_9, refused_2, refused_3, fresh_at, fresh_is, begun_is}
use Rattle.phases.proofs.fresh.Goals as goal

pub returns-then-not-some_marks : goal.returns-then-not-some_marks
returns-then-not-some_marks c = refused_9 c.args.limit c.args.marks (sym c.some_marks.ensures ∙ c.if-not-some_marks.true)

pub all_named-requires : goal.all_named-requires
all_named-requires c = some-few c.args.marks c.some_marks.result c.some_marks.ensures c.if-not-some_marks.false

pub returns-then-not-all_named : goal.returns-then-not-all_named
returns-then-not-all_named c = refused_2 c.args.limit c.args.marks (sym c.some_marks.ensures ∙ c.if-not-some_marks.false) (sym c.all_named.ensures ∙ c.if-not-all_named.true)

pub returns-in_err-stream : goal.returns-in_err-stream
returns-in_err-stream c =
    let p = err_from_is_err_and c.from_residual.result c.from_residual.ensures.1 in
    rw (p.1, p.2) (refused_3 c.args.limit c.args.marks (sym c.some_marks.ensures ∙ c.if-not-some_marks.false) (sym c.all_named.ensures ∙ c.if-not-all_named.false) _ (fresh_at _ _ _ c.in_err-stream.ensures (omega arith)))

pub returns : goal.returns
returns c = begun_is c.args.limit c.args.marks (sym c.some_marks.ensures ∙ c.if-not-some_marks.false) (sym c.all_named.ensures ∙ c.if-not-all_named.false) _ _ (fresh_at _ _ _ c.in_ok-stream.ensures (omega arith)) (fresh_is c.default.result c.default.ensures.0.long c.default.ensures.0.at c.default.ensures.1.0 c.default.ensures.1.1)
