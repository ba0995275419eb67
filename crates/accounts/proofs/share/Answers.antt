-- `accounts::share` meets its contract: the entries gathered are those of the account.
use Rattle.std.proofs.Common.{ap, ◌∙◌, length, List}
use Rattle.entries.specs.declared.Entry.{Entry}
use Rattle.accounts.specs.ByValue.{share_for}
use Rattle.accounts.proofs.Calls.{share_lent}
use Rattle.accounts.proofs.share.Goals as goal

pub returns : goal.returns
returns c =
    c.share_in.ensures
    ∙ ap (λ (es : List Entry). share_for c.args.slot c.args.tally es (length c.args.account.now)) c.gather.ensures
    ∙ share_lent c.args.slot c.args.tally c.args.account.now
