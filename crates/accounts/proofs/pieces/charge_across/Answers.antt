-- `accounts::pieces::charge_across` meets its contract. Assumes nothing.
use Rattle.std.proofs.Common.{◌≡◌, ℕ, ◌-◌, ◌≤◌, List, length, take, sym, ap, ◌∙◌, subst, arith, length-take-le, rules}
use Rattle.record.specs.Layout.{record_in}
use Rattle.rules.specs.Run.{records_in}
use Rattle.accounts.specs.Watch.{watch_of, charged_by, Roomy}
use Rattle.stream.proofs.Parts.{filled_in}
use Rattle.accounts.proofs.Crossing.{lacks, fills, roomy_front, roomy_rest, across}
use Rattle.accounts.proofs.pieces.charge_across.Goals as goal

pub slice_bounds-filled-end : goal.slice_bounds-filled-end
slice_bounds-filled-end c = let a = c.args.ledger in
    let part = c.requires.0 in
    let h = c.requires.1 in
    let sixteen : length a.stream.torn ≡ 16 = search rules in
    let some : 1 ≤ c.args.n = omega arith in
    let l = lacks a.stream.torn c.args.piece.now a.stream.held c.args.n a.stream.judge a.entries sixteen part h some in
    let e = length-take-le (16 - a.stream.held) c.args.piece.now l in
    omega arith

pub charge_on-first-requires : goal.charge_on-first-requires
charge_on-first-requires c = let a = c.args.ledger in
    let part = c.requires.0 in
    let h = c.requires.1 in
    let sixteen : length a.stream.torn ≡ 16 = search rules in
    let some : 1 ≤ c.args.n = omega arith in
    let put = filled_in a.stream.torn a.stream.held _ c.filled-front.result sixteen (fills a.stream.torn c.args.piece.now a.stream.held c.args.n a.stream.judge a.entries sixteen part h some) c.filled-front.ensures in
    subst (λ (x : List ℕ). Roomy x 1 c.watch_before-watch.result a.entries) (sym put)
    (roomy_front a.stream.torn c.args.piece.now a.stream.held c.args.n a.stream.judge a.entries sixteen part h some c.watch_before-watch.result (c.watch_before-watch.ensures ∙ ap (λ (x : List ℕ). watch_of a.stream.judge (record_in (take 16 x)).stamp) put))

pub slice_bounds-charge_on-count : goal.slice_bounds-charge_on-count
slice_bounds-charge_on-count c = let a = c.args.ledger in
    let part = c.requires.0 in
    let h = c.requires.1 in
    let sixteen : length a.stream.torn ≡ 16 = search rules in
    let some : 1 ≤ c.args.n = omega arith in
    let l = lacks a.stream.torn c.args.piece.now a.stream.held c.args.n a.stream.judge a.entries sixteen part h some in
    omega arith

pub charge_on-requires : goal.charge_on-requires
charge_on-requires c = let a = c.args.ledger in
    let part = c.requires.0 in
    let h = c.requires.1 in
    let sixteen : length a.stream.torn ≡ 16 = search rules in
    let some : 1 ≤ c.args.n = omega arith in
    let long : length a.entries ≡ 16 = search rules in
    let put = filled_in a.stream.torn a.stream.held _ c.filled-front.result sixteen (fills a.stream.torn c.args.piece.now a.stream.held c.args.n a.stream.judge a.entries sixteen part h some) c.filled-front.ensures in
    roomy_rest a.stream.torn c.args.piece.now a.stream.held c.args.n a.stream.judge a.entries sixteen part h some c.watch_before-watch.result (c.watch_before-watch.ensures ∙ ap (λ (x : List ℕ). watch_of a.stream.judge (record_in (take 16 x)).stamp) put) long c.charge_on-first.result (c.charge_on-first.ensures ∙ ap (λ (x : List ℕ). charged_by c.watch_before-watch.result a.entries (records_in 1 x)) put)

pub returns : goal.returns
returns c = let a = c.args.ledger in
    let part = c.requires.0 in
    let h = c.requires.1 in
    let sixteen : length a.stream.torn ≡ 16 = search rules in
    let some : 1 ≤ c.args.n = omega arith in
    let long : length a.entries ≡ 16 = search rules in
    let put = filled_in a.stream.torn a.stream.held _ c.filled-front.result sixteen (fills a.stream.torn c.args.piece.now a.stream.held c.args.n a.stream.judge a.entries sixteen part h some) c.filled-front.ensures in
    across a.stream.torn c.args.piece.now a.stream.held c.args.n a.stream.judge a.entries sixteen part h some c.watch_before-watch.result (c.watch_before-watch.ensures ∙ ap (λ (x : List ℕ). watch_of a.stream.judge (record_in (take 16 x)).stamp) put) long c.charge_on-first.result (c.charge_on-first.ensures ∙ ap (λ (x : List ℕ). charged_by c.watch_before-watch.result a.entries (records_in 1 x)) put) (omega arith) c.charge_on.result c.charge_on.ensures
