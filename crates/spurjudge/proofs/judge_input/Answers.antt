-- `spurjudge::judge_input` meets its contract. Assumes nothing.
use mathlib.Core.Path.{ap, sym, ◌∙◌}
use native.Mathlib.Omega.{arith}
use Rattle.basics.specs.Numbers.{lawful_limit}
use Rattle.basics.proofs.Bools.{cond-false}
use Rattle.feeding.specs.State.{fresh_stream, no_stream, fresh_of, finish_of}
use Rattle.printed.specs.Lines.{refused_line, page_of}
use Rattle.printed.proofs.LineLaws.{lines-most}
use Rattle.reading.proofs.Narrow.{begun_lawful, begun_unlawful}
use Rattle.spurjudge.proofs.Reading.{judging_pieces}
use Rattle.spurjudge.proofs.Printing.{judging_tells}
use Rattle.spurjudge.proofs.judge_input.Goals as goal

pub returns : goal.returns
unfolding fresh_of
returns c = let limit = c.args.limit in
    c.made.ensures (fresh_stream limit) (lawful_limit limit) (page_of limit)
    (record {
      begins = begun_lawful fresh_stream no_stream limit _ c.narrowed.ensures _ c.fresh-begun.ensures;
      refuses = λ r e.
          let begun = begun_unlawful fresh_stream no_stream limit _ c.narrowed.ensures _ c.fresh-begun.ensures r e in
          (begun.0, λ bytes. ap refused_line begun.1 ∙ sym (cond-false _ _ begun.0));
      pieces = judging_pieces limit;
      tells = judging_tells limit;
      line_fits = omega arith;
      text_fits = λ lawful i out. let most = lines-most (finish_of i.state) in omega arith;
    })
