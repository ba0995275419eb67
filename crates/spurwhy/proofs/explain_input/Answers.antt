-- `spurwhy::explain_input` meets its contract. Assumes nothing.
use mathlib.Core.Path.{ap, sym, ◌∙◌}
use native.Mathlib.Omega.{arith}
use Rattle.basics.specs.Numbers.{lawful_limit}
use Rattle.basics.proofs.Bools.{cond-false}
use Rattle.witness.specs.State.{fresh_witness, no_witness, begun_of, reason_in}
use Rattle.whylines.specs.Lines.{why_page}
use Rattle.whylines.proofs.LineLaws.{reason_most}
use Rattle.printed.specs.Lines.{refused_line}
use Rattle.reading.proofs.Narrow.{begun_lawful, begun_unlawful}
use Rattle.spurwhy.proofs.Reading.{explaining_pieces}
use Rattle.spurwhy.proofs.Printing.{explaining_tells}
use Rattle.spurwhy.proofs.explain_input.Goals as goal

pub returns : goal.returns
unfolding begun_of
returns c = let limit = c.args.limit in
    c.made.ensures (fresh_witness limit) (lawful_limit limit) (why_page limit)
    (record {
      begins = begun_lawful fresh_witness no_witness limit _ c.narrowed.ensures _ c.fresh-begun.ensures;
      refuses = λ r e.
          let begun = begun_unlawful fresh_witness no_witness limit _ c.narrowed.ensures _ c.fresh-begun.ensures r e in
          (begun.0, λ bytes. ap refused_line begun.1 ∙ sym (cond-false _ _ begun.0));
      pieces = explaining_pieces limit;
      tells = explaining_tells limit;
      line_fits = omega arith;
      text_fits = λ lawful i out. let most = reason_most (reason_in i.state) in omega arith;
    })
