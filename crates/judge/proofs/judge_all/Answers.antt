-- `judge::judge_all` meets its contract. Assumes nothing.
use mathlib.Core.Path.{◌≡◌, refl, sym, ◌∙◌}
use native.Mathlib.Omega.{arith}
use Rattle.basics.specs.Answers.{refusal_number}
use Rattle.basics.proofs.Refusals.{some_number}
use Rattle.judge.proofs.Calls.{refused_call, judged_call, call_sound}
use Rattle.judge.proofs.judge_all.Goals as goal

pub returns-in-Err : goal.returns-in-Err
returns-in-Err c = let a = c.args in
    let some = some_number c.in-Err.refusal in
    let same = c.number.ensures in
    refused_call a.bytes.now a.judge a.tally _ _ (same ∙ c.in-Err.ensures) (λ z. let none : refusal_number c.in-Err.refusal ≡ 0 = sym same ∙ z in omega arith) c.refused_by.ensures

pub judge_records-end-requires : goal.judge_records-end-requires
judge_records-end-requires c = call_sound _ _ _ 0 c.in-Ok.ensures refl

pub returns-in-Ok : goal.returns-in-Ok
returns-in-Ok c = let a = c.args in
    judged_call a.bytes.now a.judge a.tally 0 _ c.judge_records-end.result c.in-Ok.ensures refl c.judge_records-end.ensures c.verdict_of.ensures
