-- `phaselines::add_marks` meets its contract: after k turns the first k marks stand behind what was there. Assumes nothing.
use Prim.Native.Nat.{◌+◌, ◌≤◌}
use mathlib.Core.Path.{◌≡◌}
use lib.ListN.{drop}
use Rattle.text.specs.Pages.{grown}
use Rattle.phaselines.specs.Lines.{mark_lines}
use Rattle.phaselines.proofs.add_marks.Given as goal

abbrev pub invariant-loop-k : goal.invariant-loop-k
invariant-loop-k g l = let left = l.k-iterator.iter in
    let k = left.count in
    record {
      told : k + l.k-iterator.n ≡ l.fn.report.found;
      within : k ≤ 32;
      spans : left.iter.a.rest.now ≡ drop k l.fn.report.spans;
      diffs : left.iter.b.rest.now ≡ drop k l.fn.report.diffs;
      put : l.page ≡ grown g.row.N l.initial.page (mark_lines l.fn.report k);
    }
