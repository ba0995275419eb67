-- The cases of `cycle`'s definitions, as the code's branches ask for them. Assumes nothing.
use Rattle.std.specs.Prelude.{Some, None}
use Prim.Native.Nat.{ℕ, ◌<◌, ◌≤◌}
use mathlib.Core.Path.{◌≡◌, sym, ap, ◌∙◌}
use mathlib.Core.Bool.{Bool, true, false, cond, ◌&&◌}
use mathlib.Core.List.{List}
use native.Mathlib.Omega.{arith}
use lib.Dec.{eqb, ltb, leb}
use lib.ListN.{length}
use borrow.Author.Tests.{eq-eqb, ne_eqb, lt-ltb, le-ltb, ltb-true}
use Rattle.basics.specs.Numbers.{watchdog, lawful_limit}
use Rattle.basics.specs.Answers.{Answer, accepted, refused}
use Rattle.basics.proofs.Bools.{and_both, cond-false, by-test}
use Rattle.slots.specs.Set.{top}
use Rattle.contest.specs.Contest.{winner_of}
use Rattle.cycle.specs.declared.Bus.{Bus}
use Rattle.cycle.specs.declared.Transfer.TheVariants.{Idle}
use Rattle.cycle.specs.declared.Event.{Event}
use Rattle.cycle.specs.declared.Note.{Note}
use Rattle.cycle.specs.declared.Note.TheVariants.{Extra}
use Rattle.cycle.specs.declared.Moved.{Moved}
use Rattle.cycle.specs.declared.Node.{Node}
use Rattle.cycle.specs.declared.Sets.{Sets}
use Rattle.cycle.specs.Bounds.{in_bounds, lawful_counts, lawful_owner, lawful_transfer, lawful_rest, lawful_words}
use Rattle.cycle.specs.Cycle.{reset_of, unmoved, step_of, cycle_of}
use Rattle.cycle.specs.Nodes.{sets_of, step_sets_of, step_table_of}
use Rattle.cycle.specs.Arbitration.{starting, serving}
use Rattle.cycle.specs.Transfers.{timed_out, age_of, aged, watched, taken, struck}

module _ (b : Bus) (wants holds : ℕ) (words : List ℕ) where
  -- the contest among the members is won by the highest
  pub serve_start : (h : ℕ) → (b.wave ≡ 0 → ⊥) → b.transfer ≡ Idle → winner_of b.wave ≡ Some h → serving b.transfer b wants holds words ≡ starting b h wants holds words
  unfolding serving winner_of
  serve_start h n t w =
      let e : Some (top b.wave) ≡ Some h = sym (cond-false _ _ (ne_eqb b.wave 0 n)) ∙ w in
      let q : top b.wave ≡ h = cc in
      rw (t, serving, q)

  pub serve_somebody : (b.wave ≡ 0 → ⊥) → winner_of b.wave ≡ None → ⊥
  unfolding winner_of
  serve_somebody n w =
      let e : Some (top b.wave) ≡ None = sym (cond-false _ _ (ne_eqb b.wave 0 n)) ∙ w in
      let z : ◌≡◌ {A = ℕ} 0 1 = cc in
      omega arith

-- an open transfer, by what the code's tests find: whether the watchdog ends it, and whether a strobe takes a word
module _ (owed age : ℕ) where
  pub watched_late : (n : Note) → age_of age ≡ watchdog → watched owed age n ≡ timed_out
  unfolding watched
  watched_late n a = rw (eq-eqb (age_of age) watchdog a)

  pub watched_on : (n : Note) → (age_of age ≡ watchdog → ⊥) → watched owed age n ≡ aged owed age n
  unfolding watched
  watched_on n a = rw (ne_eqb (age_of age) watchdog a)

  pub struck_more : 1 < owed → struck owed age ≡ taken owed
  unfolding struck
  struck_more l = rw (lt-ltb 1 owed l)

  pub struck_one : owed ≤ 1 → struck owed age ≡ watched owed age Extra
  unfolding struck
  struck_one l = rw (le-ltb 1 owed l)

pub bounds_turn : (b : Bus) → in_bounds b ≡ true → b.turn < b.limit
unfolding in_bounds lawful_counts
bounds_turn b e =
    let n = lawful_counts b.limit b.settling b.turn in
    let o = lawful_owner b.owner in
    let t = lawful_transfer b.transfer in
    let r = lawful_rest b.wave b.settling b.turn in
    let counts = (and_both n o (and_both (n && o) t (and_both (n && o && t) r e).0).0).0 in
    ltb-true b.turn b.limit (and_both (lawful_limit b.limit && leb b.settling 2) (ltb b.turn b.limit) counts).1

-- a call over the sets of a table of len nodes, as the code tests it: refusals 5, 1 and 3 in this order
module _ (b : Bus) (reset : Bool) (e : Event) (len : ℕ) (s : Sets) where
  abbrev pub answer_by : Answer Moved
  answer_by = cond (in_bounds b) (cond (eqb len 16) (step_sets_of b reset e s) (refused 1 (unmoved b))) (refused 5 (unmoved b))

  pub step_bounds : in_bounds b ≡ false → answer_by ≡ refused 5 (unmoved b)
  step_bounds p = rw p

  pub step_length : in_bounds b ≡ true → (len ≡ 16 → ⊥) → answer_by ≡ refused 1 (unmoved b)
  step_length p n = rw (p, ne_eqb len 16 n)

  pub step_words : in_bounds b ≡ true → len ≡ 16 → lawful_words s.words ≡ false → answer_by ≡ refused 3 (unmoved b)
  unfolding step_of
  step_words p n w = rw (p, eq-eqb len 16 n, w)

  pub step_moves : in_bounds b ≡ true → len ≡ 16 → lawful_words s.words ≡ true → answer_by ≡ accepted (cond reset (reset_of b) (cycle_of b e s.wants s.holds s.words))
  unfolding step_of
  step_moves p n w = rw (p, eq-eqb len 16 n, w)

  -- over sets alone the table counts as sixteen long
  pub step_sixteen : len ≡ 16 → answer_by ≡ step_sets_of b reset e s
  unfolding step_of
  step_sixteen n = by-test (in_bounds b) (λ (p : in_bounds b ≡ true). rw (p, eq-eqb len 16 n)) (λ (p : in_bounds b ≡ false). rw p)

-- of the caller's table
pub step_gathered : (b : Bus) (reset : Bool) (e : Event) (nodes : List Node) (s : Sets) → s ≡ sets_of nodes → answer_by b reset e (length nodes) s ≡ step_table_of b reset e nodes
unfolding step_table_of
step_gathered b reset e nodes s p = ap (answer_by b reset e (length nodes)) p
