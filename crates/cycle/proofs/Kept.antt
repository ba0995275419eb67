-- A call on a state within the bounds hands back a state within the bounds, accepted or not. Assumes nothing.
use Rattle.std.specs.Prelude.{Option, Some, None}
use Prim.Native.Nat.{ℕ, ◌^◌, ◌<◌}
use mathlib.Core.Path.{◌≡◌}
use mathlib.Core.Bool.{Bool, true, false, not, ◌&&◌, ◌||◌, false≢true}
use mathlib.Core.List.{List}
use native.Mathlib.Omega.{arith}
use lib.ListN.{length}
use lib.Dec.{eqb, ltb, leb}
use borrow.Author.Tests.{eq-eqb, eqb-true, ltb-true, leb-true}
use Rattle.basics.specs.Answers.{Answer}
use Rattle.basics.proofs.Bools.{choice, and_both}
use Rattle.cycle.specs.declared.Bus.{Bus}
use Rattle.cycle.specs.declared.Moved.{Moved}
use Rattle.cycle.specs.declared.Event.{Event}
use Rattle.cycle.specs.declared.Node.{Node}
use Rattle.cycle.specs.declared.Transfer.{Transfer}
use Rattle.cycle.specs.declared.Transfer.TheVariants.{Idle, Open}
use Rattle.cycle.specs.State.{fresh}
use Rattle.cycle.specs.Bounds.{lawful_counts, lawful_owner, lawful_transfer, lawful_rest, in_bounds, lawful_words}
use Rattle.cycle.specs.Cycle.{step_of}
use Rattle.cycle.specs.Nodes.{sets_of, step_table_of}
use Rattle.cycle.specs.Runs.{Input, cycle_in, next}
use Rattle.cycle.proofs.Bounds.{Sound, OwnerIn, TransferIn}
use Rattle.cycle.proofs.Sound.{sound-next, sound-fresh, bounds_lawful}

-- what the types u16 and u8 hold of the wave and the age
abbrev AgeFits : Transfer → Type 0
AgeFits Idle = Unit {0}
AgeFits (Open w a) = a < 256

pub record Fits (b : Bus) : Type 0 where
  pub wide : b.wave < 2 ^ 16
  pub old : AgeFits b.transfer

owner_in : (o : Option ℕ) → lawful_owner o ≡ true → OwnerIn o
unfolding lawful_owner
owner_in None e = tt
owner_in (Some s) e = ltb-true s 16 e

transfer_in : (t : Transfer) → AgeFits t → lawful_transfer t ≡ true → TransferIn t
unfolding lawful_transfer
transfer_in Idle f e = tt
transfer_in (Open w a) f e = let h = and_both (leb 1 w) (leb w 16) e in (leb-true 1 w h.0, leb-true w 16 h.1, f)

rest_in : (wave settling turn : ℕ) → lawful_rest wave settling turn ≡ true → wave ≡ 0 → (settling ≡ 0) × (turn ≡ 0)
unfolding lawful_rest
rest_in wave settling turn e z =
    let h = and_both (eqb settling 0) (eqb turn 0) (go (eqb wave 0) (eq-eqb wave 0 z) e) in
    (eqb-true settling 0 h.0, eqb-true turn 0 h.1)
  where
    go : (c : Bool) → c ≡ true → (not c || (eqb settling 0 && eqb turn 0)) ≡ true → (eqb settling 0 && eqb turn 0) ≡ true
    go true q x = x
    go false q x = absurd (false≢true q)

sound_of : (b : Bus) → Fits b → in_bounds b ≡ true → Sound b
unfolding in_bounds lawful_counts
sound_of b f e =
    let x = and_both _ (lawful_rest b.wave b.settling b.turn) e in
    let y = and_both _ (lawful_transfer b.transfer) x.0 in
    let z = and_both _ (lawful_owner b.owner) y.0 in
    let t = and_both _ (ltb b.turn b.limit) z.0 in
    let u = and_both _ (leb b.settling 2) t.0 in
    let v = and_both (leb 1 b.limit) (leb b.limit 16) u.0 in
    record {
      slots = f.wide;
      settled = leb-true b.settling 2 u.1;
      turns = ltb-true b.turn b.limit t.1;
      limited = leb-true b.limit 16 v.1;
      owned = owner_in b.owner z.1;
      aging = transfer_in b.transfer f.old y.1;
      rest = λ q. (rest_in b.wave b.settling b.turn x.1 q).1;
      still = λ q. (rest_in b.wave b.settling b.turn x.1 q).0;
    }

-- THE BOUNDS ARE KEPT
pub kept : (b : Bus) (reset : Bool) (e : Event) (nodes : List Node) → Fits b → in_bounds b ≡ true → in_bounds (step_table_of b reset e nodes).value.bus ≡ true
unfolding step_table_of step_of next cycle_in
kept b reset e nodes f p =
    let s = sound_of b f p in
    choice In (in_bounds b)
    (λ _. choice In (eqb (length nodes) 16)
    (λ q. choice In (in_bounds b)
    (λ _. choice In (lawful_words (sets_of nodes).words)
    (λ r. choice (λ (m : Moved). in_bounds m.bus ≡ true) reset
    (λ _. bounds_lawful (fresh b.limit) (sound-fresh b.limit (omega (arith, s.turns)) s.limited))
    (λ _. let i : Input = record { event = e; nodes = nodes; sixteen = eqb-true _ _ q; lawful = r } in bounds_lawful (next b i) (sound-next b i s)))
    (λ _. p))
    (λ _. p))
    (λ _. p))
    (λ _. p)
  where
    In : Answer Moved → Type 0
    In a = in_bounds a.value.bus ≡ true
