-- An accepted answer is the theorem's own bound, and no smaller number would do, since a run reaches it. Assumes nothing.
use Prim.Native.Nat.{ℕ, ◌<◌, ◌≤◌}
use mathlib.Core.Bool.{Bool, true, false, cond}
use mathlib.Core.Path.{◌≡◌, refl, sym, ap, subst}
use native.Mathlib.Omega.{arith}
use native.Mathlib.Decide.{dec_lt}
use lib.Dec.{ltb}
use borrow.Author.Tests.{ltb-true}
use Rattle.basics.specs.Numbers.{lawful_limit}
use Rattle.basics.specs.Answers.{Answer, accepted, refused}
use Rattle.cycle.specs.Waits.{cycles_most}
use Rattle.cycle.proofs.Demand3.{demand3}
use Rattle.reached.specs.Reached.{Waits}
use Rattle.reached.proofs.Reached.{sees, waits}
use Rattle.quote.specs.declared.Worst.{Worst}
use Rattle.std.specs.Prelude.{Result, Ok, Err, IfOk}
use Rattle.basics.specs.declared.refusal.Refusal.{Refusal}
use Rattle.quote.specs.Quotes.{worst_of, no_worst, quote_of, quote_answer}
use Rattle.quote.specs.Quoted.{StartsWithin, Quoted}
use Rattle.quote.proofs.Laws.{limit_between}

-- an accepted answer has a slot and a limit that are lawful, and the two numbers
pub record Lawful (slot limit : ℕ) (w : Worst) : Type 0 where
  pub small : slot < 16
  pub limited : lawful_limit limit ≡ true
  pub same : w ≡ worst_of slot limit

lawful : (slot limit : ℕ) (w : Worst) → quote_of slot limit ≡ accepted w → Lawful slot limit w
unfolding quote_of
lawful slot limit w e = go (ltb slot 16) (lawful_limit limit) refl refl e
  where
    go : (s l : Bool) → ltb slot 16 ≡ s → lawful_limit limit ≡ l → cond s (cond l (accepted (worst_of slot limit)) (refused 3 no_worst)) (refused 2 no_worst) ≡ accepted w
        → Lawful slot limit w
    go true true h k a = record { small = ltb-true slot 16 h; limited = k; same = sym (ap (λ (x : Answer Worst). x.value) a) }
    go true false h k a = absurd (let z : 3 ≡ 0 = ap (λ (x : Answer Worst). x.number) a in omega arith)
    go false l h k a = absurd (let z : 2 ≡ 0 = ap (λ (x : Answer Worst). x.number) a in omega arith)

-- a run that reaches the number contradicts every smaller one
waits-least : (slot limit n : ℕ) → Waits limit slot → StartsWithin slot limit n → cycles_most limit slot ≤ n
waits-least slot limit n r f =
    elim (dec_lt n (cycles_most limit slot)) [
      | yes l ↦ absurd (let h = f r.past r.future r.asks (let e = r.long in omega arith) in let e = r.none in omega arith)
      | no g ↦ omega arith
    ]

pub quoted : (slot limit : ℕ) (w : Worst) → quote_of slot limit ≡ accepted w → Quoted slot limit w
unfolding worst_of
quoted slot limit w e =
    let h = lawful slot limit w e in
    let k = limit_between limit h.limited in
    let d = demand3 limit k.0 k.1 in
    subst (Quoted slot limit) (sym h.same)
    (record {
      small = h.small;
      begins = d.begins;
      others = λ past future a. d.sharper past future slot h.small a;
      cycles = λ past future a long. d.own past future slot h.small a long;
      fewest = λ n f. let r = sees limit k.0 k.1 slot h.small in omega (arith, f r.past r.future r.asks, r.all);
      soonest = λ n f. waits-least slot limit n (waits limit k.0 k.1 slot h.small) f;
    })

-- the contract of `worst_wait`
pub promised : (slot limit : ℕ) (r : Result Worst Refusal) → quote_answer r ≡ quote_of slot limit
    → (quote_answer r ≡ quote_of slot limit) × IfOk r (Quoted slot limit)
promised slot limit (Ok w) e = (e, quoted slot limit w (sym e))
promised slot limit (Err r) e = (e, tt)
