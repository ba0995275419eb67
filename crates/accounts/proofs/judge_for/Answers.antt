-- `accounts::judge_for` meets its contract. Assumes nothing.
use Rattle.std.proofs.Common.{◌<◌, length, sym, ◌∙◌, arith}
use Rattle.basics.specs.Answers.{refusal_number}
use Rattle.basics.proofs.Refusals.{some_number}
use Rattle.accounts.proofs.Calls.{accepted_for, refused_for, no_fewer, chargeable, judged_for}
use Rattle.accounts.proofs.judge_for.Goals as goal

pub returns-in-Err : goal.returns-in-Err
returns-in-Err c = let a = c.args in
    let some : 0 < refusal_number c.in-Err.refused = some_number c.in-Err.refused in
    refused_for a.bytes.now a.judge a.tally a.entries a.lent c.number.result c.refused_by.result (c.number.ensures ∙ c.in-Err.ensures) (λ z. let none = sym c.number.ensures ∙ z in absurd (omega arith)) c.refused_by.ensures

pub overflow_sub-passed : goal.overflow_sub-passed
overflow_sub-passed c = let a = c.args in
    no_fewer a.bytes.now a.judge a.tally a.entries (accepted_for (length a.bytes.now) a.judge a.tally a.entries a.lent c.in_default.ensures) c.judge_all-end.result c.judge_all-end.ensures.0

pub count_records-account-requires : goal.count_records-account-requires
count_records-account-requires c = let a = c.args in
    chargeable a.bytes.now a.judge a.tally a.entries (accepted_for (length a.bytes.now) a.judge a.tally a.entries a.lent c.in_default.ensures) c.judge_all-end.result c.judge_all-end.ensures.0

pub returns : goal.returns
returns c = let a = c.args in
    let ok = c.in_default.ensures in
    judged_for a.bytes.now a.judge a.tally a.entries (accepted_for (length a.bytes.now) a.judge a.tally a.entries a.lent ok) c.judge_all-end.result c.judge_all-end.ensures.0 a.lent c.count_records-account.result ok c.count_records-account.ensures
