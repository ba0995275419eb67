-- The result of a query says no less than document 01's number and values, and no more. Assumes nothing.
use mathlib.Core.Path.{◌≡◌}
use Rattle.std.specs.Prelude.{Result}
use Rattle.basics.specs.Answers.{answered}
use Rattle.basics.specs.declared.refusal.Refusal.{Refusal}
use Rattle.basics.proofs.Refusals.{result_of, result_again}
use Rattle.entries.specs.declared.Entry.{Entry}
use Rattle.entries.specs.Entries.{zero_entry}

pub share_back : (r : Result Entry Refusal) → result_of (answered zero_entry r) ≡ r
share_back = result_again zero_entry
