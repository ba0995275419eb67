-- Laws of the two numbers and of the answer. Assumes nothing.
use Prim.Native.Nat.{ℕ, ◌+◌, ◌-◌, ◌*◌, ◌<◌, ◌≤◌, min}
use mathlib.Core.Bool.{true, false}
use mathlib.Core.Path.{◌≡◌, sym, ap, ◌∙◌}
use native.Mathlib.Omega.{arith}
use native.Mathlib.Nat.{mul-le-mul_left}
use lib.Dec.{leb}
use borrow.Author.Tests.{lt-ltb, le-ltb, leb-true}
use Rattle.basics.specs.Numbers.{lawful_limit}
use Rattle.basics.specs.Answers.{accepted, refused}
use Rattle.basics.proofs.Bools.{and_both, cond-true, cond-false}
use Rattle.cycle.specs.Waits.{pause_most, turns_most}
use Rattle.quote.specs.declared.Worst.{Worst}
use Rattle.quote.specs.Quotes.{worst_of, no_worst, quote_of}

pub limit_between : (limit : ℕ) → lawful_limit limit ≡ true → (1 ≤ limit) × (limit ≤ 16)
limit_between limit e = let h = and_both (leb 1 limit) (leb limit 16) e in (leb-true 1 limit h.0, leb-true limit 16 h.1)

-- thirty turns of sixteen
pub turns-few : (slot limit : ℕ) → slot < 16 → limit ≤ 16 → turns_most limit slot ≤ 480
turns-few slot limit h k =
    let one : 30 - slot ≤ 30 = omega arith in
    omega (arith, mul-le-mul_left limit one)

pub worst_by : (slot limit turns between : ℕ) → turns ≡ turns_most limit slot → between ≡ min slot 1
    → ◌≡◌ {A = Worst} (record { others = turns + between; cycles = pause_most * (turns + 1) + between }) (worst_of slot limit)
unfolding worst_of
worst_by slot limit turns between e f =
    ap (λ (n : ℕ). record { others = n + between; cycles = pause_most * (n + 1) + between }) e
    ∙ ap (λ (n : ℕ). record { others = turns_most limit slot + n; cycles = pause_most * (turns_most limit slot + 1) + n }) f

module _ (slot limit : ℕ) where
  pub quote_is : (w : Worst) → slot < 16 → lawful_limit limit ≡ true → w ≡ worst_of slot limit → accepted w ≡ quote_of slot limit
  unfolding quote_of
  quote_is w h l e = ap accepted e ∙ sym (cond-true _ _ (lt-ltb slot 16 h) ∙ cond-true _ _ l)

  pub bad_limit : slot < 16 → lawful_limit limit ≡ false → refused 3 no_worst ≡ quote_of slot limit
  unfolding quote_of
  bad_limit h l = sym (cond-true _ _ (lt-ltb slot 16 h) ∙ cond-false _ _ l)

  pub bad_slot : 16 ≤ slot → refused 2 no_worst ≡ quote_of slot limit
  unfolding quote_of
  bad_slot h = sym (cond-false _ _ (le-ltb slot 16 h))
