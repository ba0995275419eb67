-- `accounts::judge_accounts` meets its contract: the entries gathered are those of the account, and the new ones go back to their places.
use Rattle.std.proofs.Common.{ap, ◌∙◌, length, List}
use Rattle.entries.specs.declared.Entry.{Entry}
use Rattle.accounts.specs.ByValue.{accounted_for}
use Rattle.accounts.proofs.Calls.{lent_told}
use Rattle.accounts.proofs.judge_accounts.Goals as goal

pub returns : goal.returns
returns c =
    let a = c.args in
    let is = c.judge_for-end.ensures ∙ ap (λ (es : List Entry). accounted_for a.bytes.now a.judge a.tally.now es (length a.account.now)) c.gather-entries.ensures in
    lent_told a.bytes.now a.judge a.tally.now a.account.now c.spread.new.account c.judge_for-end.result is c.spread.ensures
