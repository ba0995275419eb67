-- `accounts::judge_account` meets its contract. Assumes nothing.
use Rattle.accounts.proofs.Calls.{account-told}
use Rattle.std.proofs.Common.{rules}
use Rattle.accounts.proofs.judge_account.Goals as goal

pub returns : goal.returns
returns c = let a = c.args in
    account-told a.bytes.now a.judge a.tally a.entries c.judge_for.result (search rules) c.judge_for.ensures
