-- `vcdlines::put_changes` meets its contract: what is left, put behind what is there, makes the whole. Assumes nothing.
use Prim.Native.Nat.{suc, ◌+◌}
use native.Mathlib.Omega.{arith}
use native.Mathlib.Numerals.{add-one}
use mathlib.Core.Logic.{inl, inr}
use mathlib.Core.Path.{◌≡◌}
use mathlib.Core.List.{[]}
use Rattle.text.proofs.PageLaws.{grown_then, grown_nil}
use Rattle.vcdlines.specs.Signals.{first_code}
use Rattle.vcdlines.specs.Dump.{changes_of}
use Rattle.vcdlines.proofs.ChangeLaws.{no_befores, no_afters}
use Rattle.vcdlines.proofs.put_changes.Goals as goal

pub loop-k-preserved : goal.loop-k-preserved
loop-k-preserved g c = let (left, k, next, room) = c.in-Some.ensures.steps in
    let more : first_code + suc c.loop-k.k-iterator.count ≡ suc (first_code + c.loop-k.k-iterator.count) = omega arith in
    record {
      all = let e = c.loop-k.invariant.all in omega (arith, rw left.0 at e, next);
      put = rw (next, add-one, c.put_if_changed.ensures, k, grown_then, more) (rw (left.0, left.1) at c.loop-k.invariant.put);
    }

pub returns : goal.returns
returns g c = let left = c.loop-k.k-iterator.iter in
    let none : changes_of c.args.first (first_code + c.loop-k.k-iterator.count) left.a.rest.now left.b.rest.now ≡ [] =
    elim c.in-None.ensures.steps.0 [ inl e ↦ no_befores _ _ _ _ e.1.0 | inr e ↦ no_afters _ _ _ _ e.1.0 ] in
    rw (none, grown_nil) at c.loop-k.invariant.put
