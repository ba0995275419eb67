-- `stream::finish` meets its contract. Assumes nothing.
use mathlib.Core.Bool.{false}
use mathlib.Core.Path.{sym, ◌∙◌}
use Rattle.rules.specs.declared.Verdict.TheVariants.{OutOfBounds}
use Rattle.feeding.proofs.Feeding.{finished_as, ended_in, ended_out}
use Rattle.stream.proofs.finish.Goals as goal

pub returns-then-not-in_bounds : goal.returns-then-not-in_bounds
returns-then-not-in_bounds c = let self = c.args.stream in
    finished_as self (record { verdict = OutOfBounds; tally = c.zero.result; opened = false })
    (ended_out self c.zero.result (sym c.in_bounds.ensures ∙ c.if-not-in_bounds.true) c.zero.ensures)

pub returns : goal.returns
returns c = let self = c.args.stream in
    finished_as self (record { verdict = c.last_verdict-verdict.result; tally = self.tally; opened = c.is_open-opened.result })
    (ended_in self c.last_verdict-verdict.result c.is_open-opened.result (sym c.in_bounds.ensures ∙ c.if-not-in_bounds.false) c.last_verdict-verdict.ensures c.is_open-opened.ensures)
