-- `vcdlines::put_changes` meets its contract: what is left, put behind what is there, makes the whole. Assumes nothing.
use Prim.Native.Nat.{◌+◌}
use mathlib.Core.Path.{◌≡◌}
use lib.ListN.{length}
use Rattle.text.specs.Pages.{grown}
use Rattle.vcdlines.specs.Signals.{first_code}
use Rattle.vcdlines.specs.Dump.{changes_of}
use Rattle.vcdlines.proofs.put_changes.Given as goal

abbrev pub invariant-loop-k : goal.invariant-loop-k
invariant-loop-k g l = let left = l.k-iterator.iter in
    record {
      all : l.k-iterator.count + length left.a.rest.now ≡ 81;
      put : grown g.row.N l.page (changes_of l.first (first_code + l.k-iterator.count) left.a.rest.now left.b.rest.now) ≡ grown g.row.N l.initial.page (changes_of l.first first_code l.before l.after);
    }
