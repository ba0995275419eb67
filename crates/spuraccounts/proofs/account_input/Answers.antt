-- `spuraccounts::account_input` meets its contract. Assumes nothing.
use mathlib.Core.Path.{ap, sym, ◌∙◌}
use native.Mathlib.Omega.{arith}
use Rattle.basics.specs.Numbers.{lawful_limit}
use Rattle.basics.proofs.Bools.{cond-false}
use Rattle.usage.specs.Pieces.{fresh_ledger, no_ledger, begun_of}
use Rattle.accountlines.specs.Lines.{accounts_page}
use Rattle.printed.specs.Lines.{refused_line}
use Rattle.reading.proofs.Narrow.{begun_lawful, begun_unlawful}
use Rattle.spuraccounts.proofs.Reading.{accounting_pieces}
use Rattle.spuraccounts.proofs.Printing.{accounting_tells, lines_fit}
use Rattle.spuraccounts.proofs.account_input.Goals as goal

pub returns : goal.returns
unfolding begun_of
returns c = let limit = c.args.limit in
    c.made.ensures (fresh_ledger limit) (lawful_limit limit) (accounts_page limit)
    (record {
      begins = begun_lawful fresh_ledger no_ledger limit _ c.narrowed.ensures _ c.fresh-begun.ensures;
      refuses = λ r e.
          let begun = begun_unlawful fresh_ledger no_ledger limit _ c.narrowed.ensures _ c.fresh-begun.ensures r e in
          (begun.0, λ bytes. ap refused_line begun.1 ∙ sym (cond-false _ _ begun.0));
      pieces = accounting_pieces limit;
      tells = accounting_tells limit;
      line_fits = omega arith;
      text_fits = λ lawful i out. let most = lines_fit limit lawful i out in omega arith;
    })
