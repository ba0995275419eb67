-- `accounts::charge::count_records` meets its contract. Assumes nothing.
use Rattle.std.proofs.Common.{◌≡◌, ℕ, ap, ◌∙◌, arith}
use Rattle.rules.specs.Run.{records_in}
use Rattle.usage.specs.Charge.{account_of}
use Rattle.accounts.specs.declared.charge.Charged.{Charged}
use Rattle.accounts.proofs.Charging.{roomy, counted-all}
use Rattle.accounts.proofs.charge.count_records.Goals as goal

pub returns-then-n-eq0 : goal.returns-then-n-eq0
returns-then-n-eq0 c = let a = c.args in
    let none : 0 ≡ a.n = omega arith in
    ap (λ (k : ℕ). account_of a.judge a.entries (records_in k a.bytes.now)) none

pub watch_before-requires : goal.watch_before-requires
watch_before-requires c = let fits = c.requires.fits in omega arith

pub charge_on-requires : goal.charge_on-requires
charge_on-requires c = roomy _ _ _ _ _ _ c.requires c.watch_before.ensures

pub returns : goal.returns
returns c = let a = c.args in
    ap (λ (x : Charged). x.entries) c.charge_on.ensures ∙ counted-all a.bytes.now a.n a.judge a.entries _ c.requires.sound (omega arith) c.watch_before.ensures c.requires.passes
