-- `accounts::pieces::take_in` meets its contract. Assumes nothing.
use Rattle.std.proofs.Common.{ℕ, ◌-◌, List, sym, ap, ◌∙◌, subst}
use Rattle.rules.specs.Run.{records_in}
use Rattle.usage.specs.Charge.{account_of}
use Rattle.accounts.specs.Watch.{Chargeable}
use Rattle.accounts.proofs.Posting.{sound, no_fewer, may_charge, posts, whole_piece}
use Rattle.accounts.proofs.pieces.take_in.Goals as goal

pub overflow_sub-passed : goal.overflow_sub-passed
overflow_sub-passed c = let l = c.args.ledger in
    let piece = c.args.piece.now in
    no_fewer l piece c.requires c.feed.result c.feed.ensures c.unwrap_or-next.result c.unwrap_or-next.ensures

pub count_records-entries-requires : goal.count_records-entries-requires
count_records-entries-requires c = let l = c.args.ledger in
    let piece = c.args.piece.now in
    subst (λ (x : List ℕ). Chargeable x (c.unwrap_or-next.result.tally.records - l.stream.tally.records) l.stream.judge l.entries) (whole_piece l.stream piece c.if-before-eq0.true) (may_charge l piece c.requires c.feed.result c.feed.ensures c.unwrap_or-next.result c.unwrap_or-next.ensures)

pub returns-then-before-eq0 : goal.returns-then-before-eq0
returns-then-before-eq0 c = let l = c.args.ledger in
    let piece = c.args.piece.now in
    posts l piece c.requires c.feed.result c.feed.ensures c.unwrap_or-next.result c.unwrap_or-next.ensures c.count_records-entries.result
    (c.count_records-entries.ensures ∙ ap (λ (x : List ℕ). account_of l.stream.judge l.entries (records_in (c.unwrap_or-next.result.tally.records - l.stream.tally.records) x)) (sym (whole_piece l.stream piece c.if-before-eq0.true)))

pub charge_across-entries-requires : goal.charge_across-entries-requires
charge_across-entries-requires c = let l = c.args.ledger in
    let piece = c.args.piece.now in
    ((sound l piece c.requires).1.1.1, may_charge l piece c.requires c.feed.result c.feed.ensures c.unwrap_or-next.result c.unwrap_or-next.ensures)

pub returns : goal.returns
returns c = let l = c.args.ledger in
    let piece = c.args.piece.now in
    posts l piece c.requires c.feed.result c.feed.ensures c.unwrap_or-next.result c.unwrap_or-next.ensures c.charge_across-entries.result c.charge_across-entries.ensures
