-- `spurphases::report_input` meets its contract. Assumes nothing.
use mathlib.Core.Path.{ap, sym, ◌∙◌}
use native.Mathlib.Omega.{arith}
use lib.Dec.{eqb}
use borrow.Author.Tests.{eq-eqb, eqb-true}
use Rattle.basics.proofs.Bools.{cond-false}
use Rattle.marks.specs.State.{begin_refusal, fresh_phases, report_of}
use Rattle.printed.specs.Lines.{refused_line}
use Rattle.phaselines.specs.Lines.{phases_page}
use Rattle.phaselines.proofs.LineLaws.{report_most}
use Rattle.spurphases.proofs.Reading.{searching_pieces}
use Rattle.spurphases.proofs.Printing.{begun_lawful, begun_refused, searching_tells}
use Rattle.spurphases.proofs.report_input.Goals as goal

pub returns : goal.returns
returns c = let a = c.args in
    c.made.ensures (fresh_phases a.limit a.marks) (eqb (begin_refusal a.limit a.marks) 0) (phases_page a.limit a.marks)
    (record {
      begins = λ p e.
          let begun = begun_lawful a.limit _ a.marks _ c.narrowed.ensures c.fresh-begun.ensures p e in
          (eq-eqb _ 0 begun.0, begun.1);
      refuses = λ r e.
          let begun = begun_refused a.limit _ a.marks _ c.narrowed.ensures c.fresh-begun.ensures r e in
          (begun.0, λ bytes. ap refused_line begun.1 ∙ sym (cond-false _ _ begun.0));
      pieces = λ lawful. searching_pieces a.limit a.marks (eqb-true _ 0 lawful);
      tells = λ lawful. searching_tells a.limit a.marks (eqb-true _ 0 lawful);
      line_fits = omega arith;
      text_fits = λ lawful i out. let most = report_most (report_of i.state) in omega arith;
    })
